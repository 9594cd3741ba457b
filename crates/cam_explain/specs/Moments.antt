-- What happened to each action of a run, in order, with the event and the line in which it did.
use Rattle.std.specs.Prelude.{ℕ, suc, eqb, if◌then◌else◌, List, [], ◌∷◌, ◌++◌, Option, Some, None, option_and_then, slice_get, unwrap_or}
use Rattle.std.specs.List.{flat_map, list_any}
use Rattle.std.specs.Option.{option_map}
use Rattle.std.specs.Ordering.{nat_cmp}
use Rattle.std.specs.BTreeMap.{BTreeMap, get}
use Rattle.cam_names.specs.declared.name.Name.{Name}
use Rattle.cam_names.specs.Names.{home_node, name_cmp, name_eq, parent}
use Rattle.cam_event.specs.declared.Deed.{Deed}
use Rattle.cam_event.specs.declared.Deed.TheVariants.{Create, Ask, Call, Perform, Got, AskCommit, AskAbort, Commit, Abort}
use Rattle.cam_event.specs.declared.Event.{Event}
use Rattle.cam_event.specs.declared.Note.{Note}
use Rattle.cam_event.specs.declared.Note.TheVariants as notes
use Rattle.cam_event.specs.History.{is_crash}
use Rattle.cam_scope.specs.declared.events.NamedEvent.{NamedEvent}
use Rattle.cam_explain.specs.declared.moments.What.{What}
use Rattle.cam_explain.specs.declared.moments.What.TheVariants as whats
use Rattle.cam_explain.specs.declared.moments.Moment.{Moment}
use Rattle.cam_explain.specs.declared.moments.Outcome.{Outcome}
use Rattle.cam_explain.specs.declared.moments.Outcome.TheVariants.{Committed, Aborted}
use Rattle.cam_explain.specs.declared.course.Course.{Course}

-- what a deed is to the action that does it, or that it is done for
abbrev pub own : Deed → Option (Name × What)
own (Create a) = Some (a, whats.Created)
own (Ask a b) = Some (a, whats.Asked b)
own (Call a n x op count) = Some (a, whats.Called x op)
own (Perform a n answer) = Some (a, whats.Performed)
own (Got a n seen) = Some (a, whats.Got seen)
own (AskCommit a v) = Some (a, whats.CommitAsked v)
own (AskAbort a) = Some (a, whats.AbortAsked)
own _ = None

-- what the end of an action is to its parent
abbrev pub child_ended : Name → Outcome → Option (Name × What)
child_ended b outcome = option_map (λ a. (a, whats.ChildEnded b outcome)) (parent b)

abbrev pub of_parent : Deed → Option (Name × What)
of_parent (Commit b) = child_ended b Committed
of_parent (Abort b) = child_ended b Aborted
of_parent _ = None

-- an action is stopped by an event at its home
abbrev pub stopped : ℕ → Note → Option (Name × What)
stopped node (notes.Stopped a reason) = if eqb (home_node a) node then Some (a, whats.Stopped) else None
stopped node _ = None

-- where an event stands: its number, and the line of the script in which it happened
abbrev pub line_at : List NamedEvent → ℕ → ℕ
line_at named number = unwrap_or (option_and_then (λ e. e.line) (slice_get named number)) 0

-- what happened to this action, if it happened to it
abbrev pub kept : Name → ℕ → ℕ → Option (Name × What) → List Moment
kept a event line None = []
kept a event line (Some given) = if name_eq a given.0 then record { event = event; line = line; what = given.1 } ∷ [] else []

abbrev pub of_deed : Name → ℕ → ℕ → Deed → List Moment
of_deed a event line d = kept a event line (own d) ++ kept a event line (of_parent d)

abbrev pub of_event : Name → ℕ → ℕ → Event → List Moment
of_event a event line e = flat_map (of_deed a event line) e.deeds ++ kept a event line (stopped e.node e.note)

-- What happened to an action in these events, of which the first has this number.
abbrev pub moments_from : List NamedEvent → ℕ → List Event → Name → List Moment
moments_from named number [] a = []
moments_from named number (e ∷ es) a = of_event a number (line_at named number) e ++ moments_from named (suc number) es a

-- The last event, from this number on, in which a node restarts; or the one that was found before.
abbrev pub restart_from : ℕ → List Event → Option ℕ → ℕ → Option ℕ
restart_from number [] found node = found
restart_from number (e ∷ es) found node =
    restart_from (suc number) es (if list_any (is_crash node) e.deeds then Some number else found) node

-- The course of a run: what happened to each action, and in which event each node restarted last.
pub record Told : Type 0 where
  pub moments : Name → List Moment
  pub restart : ℕ → Option ℕ

abbrev pub told : List NamedEvent → List Event → Told
told named trace = record { moments = moments_from named 0 trace; restart = restart_from 0 trace None }

-- the same from the tables that a pass fills
abbrev pub moments_in : BTreeMap Name (List Moment) → Name → List Moment
moments_in table a = unwrap_or (get name_cmp table a) []

abbrev pub told_in : Course → Told
told_in course = record { moments = moments_in course.moments; restart = get nat_cmp course.restarts }
