-- The nodes in the run of a script, with halts or without.
use Rattle.std.specs.Prelude.{◌≡◌, ℕ, false, List, Some}
use Rattle.cam_type.specs.declared.ObjectDecl.{ObjectDecl}
use Rattle.cam_event.specs.declared.LetterId.{LetterId}
use Rattle.cam_event.specs.declared.Event.{Event}
use Rattle.cam_event.specs.Inputs.{Input, Mail, letter_at}
use Rattle.cam_event.specs.Readings.{by_knowledge}
use Rattle.cam_event.specs.Runs.{MayCome}
use Rattle.cam_node.specs.Lawful.{IsLetter, IsLawful}
use Rattle.cam_node.specs.Halting.{IsThrough, IsEnded}
use Rattle.cam_script.specs.declared.Script.{Script}
use Rattle.cam_runs.specs.Running.{has_number}
use Rattle.cam_runs.specs.Run.{run_of_first}
use Rattle.cam_runs.specs.InRange.{IsInRange}
use Rattle.cam_runs.specs.Halts.{Halting}
use Rattle.cam_runs.specs.Standing.{Standing}
use Rattle.cam_runs.specs.HaltedLines.{run_halting}
use Rattle.cam_runs.specs.UnderHalts.{IsUnderHalts}
use Rattle.cam_histories.specs.Laws.{history_of, MayPut}

-- each letter that was sent may be put to its receiver, and each input that may come to its node
abbrev pub AllMayBePut : List ObjectDecl → List Event → Type 0
AllMayBePut objects t =
    ((letter : LetterId) (mail : Mail) → letter_at t letter ≡ Some mail → IsLetter objects mail.to mail ((by_knowledge objects).carried t letter))
    × ((input : Input) → MayCome objects t input → MayPut objects t input)

-- The nodes of a run in which none halts.
pub record NodesRun (objects : List ObjectDecl) (t : List Event) : Type 0 where
  pub lawful : (s : ℕ) → IsLawful objects s (history_of objects t s)
  pub put : AllMayBePut objects t

-- The nodes of a run in which nodes halt: a node that is not halted has a history through halts.
pub record NodesStand (script : Script) (st : Standing) : Type 0 where
  pub through : (s : ℕ) → has_number st.halted s ≡ false → IsThrough script.objects s (history_of script.objects st.running.trace s)
  pub ended : (s : ℕ) → IsEnded script.objects s (history_of script.objects st.running.trace s)
  pub put : AllMayBePut script.objects st.running.trace

-- So it is after each number of lines of a script,
abbrev pub BeginningsHold : Type 0
BeginningsHold = (script : Script) (n : ℕ) → IsInRange script → NodesRun script.objects (run_of_first by_knowledge n script).trace

-- after each line where nodes halt,
abbrev pub StandingsHold : Type 0
StandingsHold = (script : Script) (st : Standing) → IsUnderHalts script st → NodesStand script st

-- and at the end, whichever inputs are halts.
abbrev pub HaltedScriptsHold : Type 0
HaltedScriptsHold = (script : Script) (halts : Halting) → IsInRange script → NodesStand script (run_halting by_knowledge halts script)
