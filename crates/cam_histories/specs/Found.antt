-- A halt that is found to be taken, after more of a run: what stands is what stood, with the taken
-- event put in at its place.
--
-- Two runs of the same lines, whose halts differ at one input alone: the one loses the event at
-- which its node halts there, the other has it taken. As long as the node is not restarted they go
-- on alike. The trace of the other has the taken event besides, at its place; the events after it
-- have numbers greater by one. The mark of the halt says that it was taken, and it is no more
-- undecided; other halts after it that are have their places moved. Nothing else differs:
-- variables, bodies, which letters were delivered and which were lost, which nodes are halted, what
-- the disks went through, and what each line does and leaves.
use Rattle.std.specs.Prelude.{◌≡◌, ◌⊎◌, ℕ, ◌+◌, ◌<◌, ◌≤◌, eqb, nat_lt, Bool, true, false, not, ◌&&◌}
use Rattle.std.specs.Prelude.{if◌then◌else◌, List, [], ◌∷◌, ◌++◌, length, Option, Some, None}
use Rattle.std.specs.List.{list_any}
use Rattle.cam_type.specs.declared.ObjectDecl.{ObjectDecl}
use Rattle.cam_event.specs.declared.Event.{Event}
use Rattle.cam_event.specs.declared.Mark.{Mark}
use Rattle.cam_event.specs.declared.Mark.TheVariants as marks
use Rattle.cam_event.specs.Inputs.{Input, node_of}
use Rattle.cam_event.specs.Readings.{by_pasts, by_knowledge}
use Rattle.cam_event.specs.Taken.{taken_of}
use Rattle.cam_script.specs.declared.Script.{Script}
use Rattle.cam_script.specs.declared.Step.{Step}
use Rattle.cam_runs.specs.Running.{has_number}
use Rattle.cam_runs.specs.InRange.{IsInRange}
use Rattle.cam_runs.specs.Halts.{Turn, accepted, Halting}
use Rattle.cam_runs.specs.Standing.{Standing, Undecided, undecided_of}
use Rattle.cam_runs.specs.HaltedLines.{after_line, is_restart_act}
pub use Rattle.cam_runs.specs.Stops.{last_input}
use Rattle.cam_runs.specs.UnderHalts.{IsUnderHalts, IsNextStep, act_by}
use Rattle.cam_histories.specs.PutIn.{moved_event, put_in, IsUnseen}

-- the numbers of the taken events, the newest first, with one more
abbrev pub with_number : ℕ → List ℕ → List ℕ
with_number place [] = place ∷ []
with_number place (k ∷ ks) =
    if nat_lt k place then place ∷ k ∷ ks else (k + 1) ∷ with_number place ks

-- the marks, where the last halt of the node was taken
abbrev pub is_halt_of : ℕ → Mark → Bool
is_halt_of s (marks.Halted line m took) = eqb m s
is_halt_of s _ = false

abbrev pub as_taken : Mark → Mark
as_taken (marks.Halted line m took) = marks.Halted line m true
as_taken mark = mark

abbrev pub with_mark_taken : ℕ → List Mark → List Mark
with_mark_taken s [] = []
with_mark_taken s (m ∷ ms) =
    if is_halt_of s m && not (list_any (is_halt_of s) ms) then as_taken m ∷ ms
    else m ∷ with_mark_taken s ms

-- The undecided events without the newest of the node. Those that are newer stand after the place,
-- so they move; those that are older stay.
abbrev pub moved_undecided : ℕ → Undecided → Undecided
moved_undecided place u = record u { before = u.before + 1; event = moved_event place u.event }

abbrev pub undecided_beside : ℕ → ℕ → List Undecided → List Undecided
undecided_beside s place [] = []
undecided_beside s place (u ∷ us) =
    if eqb u.node s then us else moved_undecided place u ∷ undecided_beside s place us

-- what stands with the event put in
abbrev pub with_taken_in : ℕ → List Event → Event → List Event → Standing → Standing
with_taken_in s behind e before st =
    record st {
      running = record st.running {
        trace = put_in behind e before;
        marks = with_mark_taken s st.running.marks;
      };
      taken = with_number (length before) st.taken;
      undecided = undecided_beside s (length before) st.undecided;
    }

-- What stands in the run that lost the event, and what stands in the one that has it taken after
-- the events `before`. The node is halted.
pub record IsFound (s : ℕ) (before : List Event) (e : Event) (lost found : Standing) : Type 0
  where
    pub behind : List Event
    pub unseen : IsUnseen s behind e
    pub was : lost.running.trace ≡ behind ++ before
    pub is : found ≡ with_taken_in s behind e before lost
    pub halted : has_number lost.halted s ≡ true

-- The halts differ at the input of this number alone.
pub record DifferAt (k : ℕ) (losing taking : Halting) : Type 0 where
  pub alike :
      (turns : List Turn) (s : ℕ) (appends restarted : Bool) → (accepted turns ≡ k → ⊥)
      → losing turns s appends restarted ≡ taking turns s appends restarted
  pub lost :
      (turns : List Turn) (s : ℕ) (appends restarted : Bool) → accepted turns ≡ k
      → losing turns s appends restarted ≡ Some false
  pub took :
      (turns : List Turn) (s : ℕ) (appends restarted : Bool) → accepted turns ≡ k
      → taking turns s appends restarted ≡ Some true

-- The input was put: it was one of this node, its last one, and what was taken of its event is put
-- in. That is what is undecided of the node, at that place.
pub record IsBeyond (objects : List ObjectDecl) (k s : ℕ) (before : List Event) (e : Event)
    (lost found : Standing) : Type 0 where
  pub passed : k < accepted lost.turns
  pub last : last_input lost.turns s ≡ Some k
  pub input : Input
  pub of_node : node_of before input ≡ s
  pub event : e ≡ taken_of ((by_knowledge objects).next before input)
  pub undecided :
      undecided_of s lost.undecided
      ≡ Some (record { node = s; before = length before; event = e })
  pub stands : IsFound s before e lost found

pub record HasBeyond (objects : List ObjectDecl) (k : ℕ) (lost found : Standing) : Type 0 where
  pub node : ℕ
  pub before : List Event
  pub event : Event
  pub beyond : IsBeyond objects k node before event lost found

-- The input is still to come, and the same stands.
pub record IsBefore (k : ℕ) (lost found : Standing) : Type 0 where
  pub coming : accepted lost.turns ≤ k
  pub same : found ≡ lost

-- what the next step leaves, by the pasts of events, where these inputs are halts
abbrev pub after_step : Halting → List Step → Script → Standing → Step → Standing
after_step halts later script st step =
    after_line st step.line (act_by by_pasts halts later script st step)

-- what is given of a line of both runs
pub record IsLineOfBoth (script : Script) (k : ℕ) (losing taking : Halting) (lost found : Standing)
    (step : Step) : Type 0 where
  pub in_range : IsInRange script
  pub differ : DifferAt k losing taking
  pub lost_under : IsUnderHalts script lost
  pub found_under : IsUnderHalts script found
  pub next : IsNextStep script lost step

-- While the input is still to come a line leaves the same, or the event at which its node halts is
-- lost in the one run and put in in the other.
abbrev pub LinesLeadToTheHalt : Type 0
LinesLeadToTheHalt =
    (script : Script) (k : ℕ) (losing taking : Halting) (lost found : Standing) (step : Step)
    (later : List Step)
    → IsLineOfBoth script k losing taking lost found step → IsBefore k lost found
    → IsBefore k (after_step losing later script lost step)
    (after_step taking later script found step)
    ⊎ HasBeyond script.objects k (after_step losing later script lost step)
    (after_step taking later script found step)

-- From then on each line but a restart of the node leaves the same event put in at the same place.
abbrev pub LinesKeepTheEvent : Type 0
LinesKeepTheEvent =
    (script : Script) (k s : ℕ) (before : List Event) (e : Event) (losing taking : Halting)
    (lost found : Standing) (step : Step) (later : List Step)
    → IsLineOfBoth script k losing taking lost found step
    → IsBeyond script.objects k s before e lost found → is_restart_act s step.act ≡ false
    → IsBeyond script.objects k s before e (after_step losing later script lost step)
    (after_step taking later script found step)
