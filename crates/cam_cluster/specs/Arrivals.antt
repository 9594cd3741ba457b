-- What arrives of a letter: the whole letter, or the fault of one that was cut.
use Rattle.std.specs.Prelude.{◌≡◌, ◌<◌, ℕ, List, ◌++◌, length}
use Rattle.cam_bytes.specs.declared.WireFault.TheVariants.{Short}
use Rattle.cam_event.specs.declared.Letter.{Letter}
use Rattle.cam_know.specs.Invariant.{NoTwice}
use Rattle.cam_wire.specs.Laws.{IsSpelled, IsSameLetter}
use Rattle.cam_cluster.specs.declared.arrival.Arrival.{Arrival}
use Rattle.cam_cluster.specs.declared.arrival.Arrival.TheVariants.{Whole, Cut}

-- It is this letter, each of its outcomes once.
abbrev pub IsWholeLetter : Letter → Arrival → Type 0
IsWholeLetter letter (Whole found) = IsSameLetter found letter × NoTwice found.know.outcomes
IsWholeLetter letter (Cut fault) = ⊥

-- All bytes of a letter give the letter; fewer are too short, and end where they were cut.
abbrev pub GivesWhole : List ℕ → Arrival → Type 0
GivesWhole bytes arrival =
    (letter : Letter) → IsSpelled letter bytes → IsWholeLetter letter arrival

abbrev pub GivesFault : List ℕ → Arrival → Type 0
GivesFault bytes arrival =
    (letter : Letter) (more : List ℕ) → 0 < length more → IsSpelled letter (bytes ++ more)
    → arrival ≡ Cut (Short (length bytes))
