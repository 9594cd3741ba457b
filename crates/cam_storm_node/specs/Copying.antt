-- Letters with the copies that they draw, one after another.
use Rattle.std.specs.Prelude.{ℕ, ◌+◌, List, [], ◌∷◌}
use Rattle.cam_event.specs.declared.Letter.{Letter}
use Rattle.cam_gen.specs.Storms.{Words, copies_of}
use Rattle.cam_storm.specs.Events.{Copied}

-- the letters, from this number among the letters of a node on
abbrev pub copied_from : Words → ℕ → ℕ → List Letter → List Copied
copied_from words s number [] = []
copied_from words s number (letter ∷ more) =
    record { letter = letter; copies = copies_of words s number }
    ∷ copied_from words s (number + 1) more
