-- What one read of a source moves.
use Rattle.std.specs.Prelude.{ℕ, ◌≡◌, List, [], ◌++◌}

-- these bytes moved out of what was left: none of them exactly at the end
pub record Moves (old new moved : List ℕ) : Type 0 where
  pub whole : old ≡ moved ++ new
  pub at_end : moved ≡ [] → old ≡ []
