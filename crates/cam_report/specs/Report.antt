-- The report of a run.
use Rattle.std.specs.Prelude.{ℕ, ◌+◌, Bool, true, false, if◌then◌else◌, List, [], ◌∷◌, ◌++◌, length, flat_map, Some, None, codes, decimal}
use Rattle.std.specs.Fmt.{signed_decimal}
use Rattle.cam_names.specs.declared.name.Name.{Name}
use Rattle.cam_type.specs.declared.ObjectDecl.{ObjectDecl}
use Rattle.cam_type.specs.declared.State.{State}
use Rattle.cam_event.specs.declared.Event.{Event}
use Rattle.cam_event.specs.declared.Note.{Note}
use Rattle.cam_event.specs.declared.Note.TheVariants as notes
use Rattle.cam_event.specs.declared.LineRefusal.{LineRefusal}
use Rattle.cam_event.specs.declared.LineRefusal.TheVariants as refusals
use Rattle.cam_event.specs.declared.LetterFault.{LetterFault}
use Rattle.cam_event.specs.declared.LetterFault.TheVariants as faults
use Rattle.cam_event.specs.declared.Mark.{Mark}
use Rattle.cam_event.specs.declared.Mark.TheVariants as marks
use Rattle.cam_event.specs.declared.ViewStep.{ViewStep}
use Rattle.cam_event.specs.declared.ViewStep.TheVariants as steps
use Rattle.cam_event.specs.declared.Deed.{Deed}
use Rattle.cam_event.specs.declared.Deed.TheVariants.{Create}
use Rattle.cam_event.specs.History.{committed, aborted}
use Rattle.cam_event.specs.Settled.{settled}
use Rattle.cam_event.specs.Views.{view}
use Rattle.cam_event.specs.Pasts.{plain_all}
use Rattle.cam_event.specs.Rules.{sorted_names}
use Rattle.cam_names.specs.Text.{name_text}
use Rattle.cam_report.specs.declared.action.ActionState.{ActionState}
use Rattle.cam_report.specs.declared.action.ActionState.TheVariants as states
use Rattle.cam_report.specs.Words.{line, inner_line, object_text, op_words, seen_words, reason_words, state_text}

-- a step of a view in words
abbrev pub step_words : List (List ℕ) → ViewStep → List (List ℕ)
step_words labels steps.Created = codes "created" ∷ []
step_words labels (steps.Asked b) = codes "asked" ∷ name_text b ∷ []
step_words labels (steps.Called n x op) = codes "called" ∷ decimal n ∷ object_text labels x ∷ op_words op
step_words labels (steps.Got n seen) = codes "got" ∷ decimal n ∷ seen_words seen
step_words labels (steps.Child b (Some v)) = codes "child" ∷ name_text b ∷ codes "committed" ∷ signed_decimal v ∷ []
step_words labels (steps.Child b None) = codes "child" ∷ name_text b ∷ codes "aborted" ∷ []
step_words labels (steps.CommitAsked v) = codes "commit" ∷ signed_decimal v ∷ []
step_words labels steps.AbortAsked = codes "abort" ∷ []

-- committed, aborted or open, by the deeds of the run
abbrev pub state_of : List Deed → Name → ActionState
state_of L a = if committed L a then states.Committed else if aborted L a then states.Aborted else states.Open

abbrev pub state_text_of : ActionState → List ℕ
state_text_of states.Committed = codes "committed"
state_text_of states.Aborted = codes "aborted"
state_text_of states.Open = codes "open"

-- the actions that were created, in order of names
abbrev pub create_in : Deed → List Name
create_in (Create a) = a ∷ []
create_in _ = []

abbrev pub actions : List Deed → List Name
actions L = sorted_names (flat_map create_in L)

-- an action with its view
abbrev pub action_text : List (List ℕ) → List Deed → Name → List ℕ
action_text labels L a =
    line (codes "action" ∷ name_text a ∷ state_text_of (state_of L a) ∷ []) ++ flat_map (λ step. inner_line (step_words labels step)) (view L a)

-- the event at which an action was stopped
abbrev pub stop_text : ℕ → Note → List ℕ
stop_text event (notes.Stopped a reason) = line (codes "stop" ∷ decimal event ∷ name_text a ∷ reason_words reason)
stop_text event _ = []

abbrev pub stops_text : List Event → List ℕ
stops_text [] = []
stops_text (e ∷ before) = stops_text before ++ stop_text (length before) e.note

abbrev pub refusal_number : LineRefusal → ℕ
refusal_number refusals.Unbound = 1
refusal_number refusals.NoLetter = 2
refusal_number refusals.Halted = 3
refusal_number refusals.Ended = 4
refusal_number refusals.OpenCall = 5
refusal_number refusals.OpenChild = 6
refusal_number refusals.NotOpen = 7
refusal_number refusals.TooDeep = 8
refusal_number refusals.NothingToDo = 9

abbrev pub fault_word : LetterFault → List ℕ
fault_word faults.Short = codes "short"
fault_word faults.Tag = codes "tag"
fault_word faults.Number = codes "number"
fault_word faults.Order = codes "order"
fault_word faults.Rest = codes "rest"

abbrev pub taken_word : Bool → List ℕ
taken_word true = codes "taken"
taken_word false = codes "lost"

-- a mark
abbrev pub mark_text : Mark → List ℕ
mark_text (marks.Refused n refusal) = line (codes "refused" ∷ decimal n ∷ (76 ∷ decimal (refusal_number refusal)) ∷ [])
mark_text (marks.Cut n letter fault at) = line (codes "cut" ∷ decimal n ∷ decimal letter ∷ fault_word fault ∷ decimal at ∷ [])
mark_text (marks.Halted n node taken) = line (codes "halted" ∷ decimal n ∷ decimal node ∷ taken_word taken ∷ [])

-- the line of an object: its label, and its settled value
abbrev pub value_text : List ℕ → State → List ℕ
value_text label state = line (codes "value" ∷ label ∷ state_text state ∷ [])

-- the lines of the objects from this place on, with these labels
abbrev pub values_from : List ObjectDecl → List Deed → ℕ → List (List ℕ) → List ℕ
values_from objects L x [] = []
values_from objects L x (label ∷ labels) = value_text label (settled objects L x) ++ values_from objects L (x + 1) labels

-- the actions with their views, the stops, the marks, the values
abbrev pub report_of : List ObjectDecl → List (List ℕ) → List Event → List Mark → List Deed → List ℕ
report_of objects labels t left L =
    flat_map (action_text labels L) (actions L) ++ stops_text t ++ flat_map mark_text left ++ values_from objects L 0 labels

abbrev pub report : List ObjectDecl → List (List ℕ) → List Event → List Mark → List ℕ
report objects labels t left = report_of objects labels t left (plain_all t)
