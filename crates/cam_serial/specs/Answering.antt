-- The test of a list that is to replay: the states of all objects are taken along.
use Rattle.std.specs.Prelude.{ℕ, eqb, Bool, true, ◌&&◌, if◌then◌else◌, List, [], ◌∷◌, unwrap_or}
use Rattle.std.specs.Ordering.{nat_cmp}
use Rattle.std.specs.BTreeMap.{BTreeMap, get}
use Rattle.cam_type.specs.declared.ObjectDecl.{ObjectDecl}
use Rattle.cam_type.specs.declared.State.{State}
use Rattle.cam_type.specs.Table.{state_after, answer_of, answer_eq}
use Rattle.cam_event.specs.declared.Operation.{Operation}
use Rattle.cam_event.specs.Live.{start_of}

-- the states of all objects after one more operation
abbrev pub step : (ℕ → State) → Operation → ℕ → State
step st o x = if eqb o.object x then state_after (st x) o.op else st x

-- whether each operation answers by what those before it leave
abbrev pub answers_from : (ℕ → State) → List Operation → Bool
answers_from st [] = true
answers_from st (o ∷ os) = answer_eq o.answer (answer_of (st o.object) o.op) && answers_from (step st o) os

-- the state of an object, as the table has it: an object that it has not is as it was at the start
abbrev pub state_in : List ObjectDecl → BTreeMap ℕ State → ℕ → State
state_in objects states x = unwrap_or (get nat_cmp states x) (start_of objects x)
