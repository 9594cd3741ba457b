-- The last halt of a node that is halted, found to be taken: what that makes of the run of the
-- lines that were taken so far.
use Rattle.std.specs.Prelude.{◌≡◌, ℕ, ◌<◌, ◌≤◌, eqb, Bool, true, false, if◌then◌else◌}
use Rattle.std.specs.Prelude.{List, [], ◌∷◌, ◌++◌, Option, Some, None}
use Rattle.std.specs.List.{AllByRecursion}
use Rattle.cam_type.specs.declared.ObjectDecl.{ObjectDecl}
use Rattle.cam_event.specs.declared.Event.{Event}
use Rattle.cam_event.specs.Readings.{Reading, by_pasts}
use Rattle.cam_script.specs.declared.Script.{Script}
use Rattle.cam_runs.specs.Running.{has_number}
use Rattle.cam_runs.specs.InRange.{IsInRange}
use Rattle.cam_runs.specs.Halts.{Halt, halt_at, Turn, Input, Stop, Restart, accepted, given}
use Rattle.cam_runs.specs.Standing.{Standing}
use Rattle.cam_runs.specs.UnderHalts.{IsUnderHalts}
use Rattle.cam_histories.specs.Found.{last_input, DifferAt, IsBeyond}
use Rattle.cam_cluster.specs.Seen.{run_of_lines}

-- where an input was put
abbrev pub input_node : List Turn → ℕ → Option ℕ
input_node [] k = None
input_node (Input s line appends restarted ∷ before) k =
    if eqb (accepted before) k then Some s else input_node before k
input_node (Stop s calls ∷ before) k = input_node before k
input_node (Restart s ∷ before) k = input_node before k

-- the halts with the last one of a node found to be taken
abbrev pub is_at : Option ℕ → ℕ → Bool
is_at None s = false
is_at (Some m) s = eqb m s

abbrev pub with_taken : List Turn → ℕ → List Halt → List Halt
with_taken turns s [] = []
with_taken turns s (h ∷ hs) =
    if is_at (input_node turns h.input) s then record h { took = true } ∷ hs
    else h ∷ with_taken turns s hs

-- Halts are listed with the newest first, each once.
abbrev pub AreNewestFirst : List Halt → Type 0
AreNewestFirst [] = Unit {0}
AreNewestFirst (h ∷ hs) = AllByRecursion (λ (g : Halt). g.input < h.input) hs × AreNewestFirst hs

-- The last input of the node is a halt, which is lost so far.
pub record IsLostSoFar (turns : List Turn) (halts : List Halt) (s : ℕ) : Type 0 where
  pub number : ℕ
  pub last : last_input turns s ≡ Some number
  pub lost : halt_at halts number ≡ Some false

-- So it is of each node that is halted.
abbrev pub AreLostSoFar : Standing → List Halt → Type 0
AreLostSoFar st halts = (s : ℕ) → has_number st.halted s ≡ true → IsLostSoFar st.turns halts s

-- The node halted at its last input, and is halted; the event is lost so far.
pub record IsLastHalt (st : Standing) (halts : List Halt) (s k : ℕ) : Type 0 where
  pub newest : AreNewestFirst halts
  pub halted : has_number st.halted s ≡ true
  pub last : last_input st.turns s ≡ Some k
  pub lost : halt_at halts k ≡ Some false

-- Halts at later inputs change nothing of the lines that were taken.
abbrev pub LaterHaltsStay : Type 0
LaterHaltsStay =
    (reading : List ObjectDecl → Reading) (script : Script) (more halts : List Halt) (n : ℕ)
    → AllByRecursion (λ (h : Halt).
    accepted (run_of_lines reading script halts n).turns ≤ h.input) more
    → run_of_lines reading script (more ++ halts) n ≡ run_of_lines reading script halts n

-- To find it taken changes the halts at that input alone.
abbrev pub FoundHaltsDiffer : Type 0
FoundHaltsDiffer =
    (turns : List Turn) (halts : List Halt) (s k : ℕ) → AreNewestFirst halts
    → last_input turns s ≡ Some k → halt_at halts k ≡ Some false
    → DifferAt k (given halts) (given (with_taken turns s halts))

-- the taken event, and its place
pub record IsPutIn (objects : List ObjectDecl) (k s : ℕ) (lost found : Standing) : Type 0 where
  pub before : List Event
  pub event : Event
  pub beyond : IsBeyond objects k s before event lost found

-- The lines that were taken are under way, whichever inputs are halts.
abbrev pub LinesAreUnderHalts : Type 0
LinesAreUnderHalts =
    (script : Script) (halts : List Halt) (n : ℕ) → IsInRange script
    → IsUnderHalts script (run_of_lines by_pasts script halts n)

-- So the lines that were taken, with that halt found to be taken, leave what they left, with the
-- taken event put in.
abbrev pub FoundLinesPutIn : Type 0
FoundLinesPutIn =
    (script : Script) (halts : List Halt) (n s k : ℕ) → IsInRange script
    → IsLastHalt (run_of_lines by_pasts script halts n) halts s k
    → IsPutIn script.objects k s (run_of_lines by_pasts script halts n)
    (run_of_lines by_pasts script
    (with_taken (run_of_lines by_pasts script halts n).turns s halts) n)
