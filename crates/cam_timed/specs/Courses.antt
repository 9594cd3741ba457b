-- What the course of a script by time keeps of its run, and what a line of it comes to.
use Rattle.std.specs.Prelude.{◌≡◌, ◌<◌, ℕ, ◌+◌, true, List, [], Option, Some, None, slice_get, unwrap_or}
use Rattle.std.specs.Ordering.{nat_cmp}
use Rattle.std.specs.BTreeSet.{contains}
use Rattle.cam_names.specs.declared.name.Name.{Name}
use Rattle.cam_names.specs.Names.{is_top}
use Rattle.cam_type.specs.declared.ObjectDecl.{ObjectDecl}
use Rattle.cam_event.specs.declared.LetterId.{LetterId}
use Rattle.cam_runs.specs.Running.{has_number}
use Rattle.cam_timed.specs.declared.TimedAct.{TimedAct}
use Rattle.cam_timed.specs.declared.TimedAct.TheVariants as acts
use Rattle.cam_timed.specs.declared.course.Course.{Course}
use Rattle.cam_timed.specs.declared.course.LineOutcome.{LineOutcome}
use Rattle.cam_timed.specs.declared.course.LineOutcome.TheVariants as line_outcomes
use Rattle.cam_timed.specs.Machine.{KeepsTimedRun}
use Rattle.cam_timed.specs.TimedRange.{ActInRange}
use Rattle.cam_timed.specs.TimedRunning.{TimedRunning, letters, letter_of, is_out, waiting}
use Rattle.cam_timed.specs.TimedScripts.{TimedLineOutcome, Refused, GoesOn}

-- The machine keeps the events of the run; which letters were delivered and which are lost is known
-- by their numbers; the marks and what the variables stand for are those of the run.
pub record KeepsRunning (objects : List ObjectDecl) (r : TimedRunning) (c : Course) : Type 0 where
  pub machine : KeepsTimedRun objects r.trace c.machine
  pub delivered : (k : ℕ) → contains nat_cmp c.delivered k ≡ has_number r.delivered k
  pub lost : (k : ℕ) → contains nat_cmp c.lost k ≡ has_number r.lost k
  pub first : (place : ℕ) → place < c.first → is_out r (place + 1) ≡ true
  pub marks : c.marks ≡ r.marks
  pub bound : c.bound ≡ r.bound

-- The course is that of some run.
abbrev pub IsCourse : List ObjectDecl → Course → Type 0
IsCourse objects c = (r : TimedRunning) × KeepsRunning objects r c

-- What a line comes to, if this is what it comes to by the rules of scripts: it is refused as
-- there, and the run is kept as before; or what it leads to is kept, and its variable stands for
-- the same.
abbrev pub IsLineOutcome : List ObjectDecl → TimedRunning → TimedLineOutcome → Course → LineOutcome → Type 0
IsLineOutcome objects r (Refused refusal) c (line_outcomes.Refused given) =
    (given ≡ refusal) × KeepsRunning objects r c
IsLineOutcome objects r (GoesOn running binds) c (line_outcomes.GoesOn given) =
    (given ≡ binds) × KeepsRunning objects running c
IsLineOutcome objects r _ c _ = ⊥

-- So whichever run the course kept before the line.
abbrev pub IsLine :
    List ObjectDecl → (TimedRunning → TimedLineOutcome) → Course → Course → LineOutcome → Type 0
IsLine objects line old new taken =
    (r : TimedRunning) → KeepsRunning objects r old → IsLineOutcome objects r (line r) new taken

-- The run so far is kept, each step of which makes this of what is kept.
abbrev pub Follows :
    List ObjectDecl → (TimedRunning → TimedRunning) → Course → Course → Type 0
Follows objects step old new =
    (r : TimedRunning) → KeepsRunning objects r old → KeepsRunning objects (step r) new

-- This is the place of the letter of a number, if it was sent and is not lost.
abbrev pub IsPlaceOf : TimedRunning → ℕ → Option ℕ → Type 0
IsPlaceOf r k None = letter_of r k ≡ None
IsPlaceOf r k (Some place) =
    (letter : LetterId) × (letter_of r k ≡ Some letter)
    × (slice_get (letters r.trace) place ≡ Some letter)

-- This is the place of the letter that waits in the run, if one does.
abbrev pub WaitsAt : TimedRunning → Option ℕ → Type 0
WaitsAt r None = waiting r ≡ None
WaitsAt r (Some place) =
    (letter : LetterId) × (slice_get (letters r.trace) place ≡ Some letter)
    × (waiting r ≡ Some (place + 1, letter))

-- the action of a variable
abbrev pub variable_in : List (Option Name) → ℕ → Option Name
variable_in bound v = unwrap_or (slice_get bound v) None

-- What a line owes, if its variables stand for these: it is in range, and an expiry is of a top
-- action.
abbrev pub MayTake : List ObjectDecl → List (Option Name) → TimedAct → Type 0
MayTake objects bound (acts.Expire v) = (a : Name) → variable_in bound v ≡ Some a → is_top a ≡ true
MayTake objects bound act = ActInRange objects [] act
