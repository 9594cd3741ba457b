-- How often letters come, one draw after another.
use Rattle.std.specs.Prelude.{◌≡◌, ℕ, ◌+◌, ◌%◌}
use Rattle.cam_gen.specs.Draws.{state_after}
use Rattle.cam_gen.specs.Storms.{Words}
use Rattle.cam_gen.specs.declared.copies.Copies.{Copies}

-- what draws the copies of a node's letters, before the letter of this number
pub record AreAt (words : Words) (s number : ℕ) (copies : Copies) : Type 0 where
  pub calm : copies.calm ≡ words.calm
  pub state :
      copies.draws.state ≡ state_after ((words.seed + s) % 18446744073709551616) number
