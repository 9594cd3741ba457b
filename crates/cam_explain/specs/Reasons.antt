-- What stood against a refused line.
use Rattle.std.specs.Prelude.{ℕ, ◌-◌, nat_lt, is_some, Bool, if◌then◌else◌, List, [], ◌++◌, length, Option, Some, None, option_and_then, slice_get, codes, decimal}
use Rattle.std.specs.Option.{option_map, option_map_or}
use Rattle.cam_names.specs.declared.name.Name.{Name}
use Rattle.cam_names.specs.Names.{home_node}
use Rattle.cam_event.specs.declared.LineRefusal.{LineRefusal}
use Rattle.cam_event.specs.declared.LineRefusal.TheVariants as refusals
use Rattle.cam_scope.specs.declared.scope.Scope.{Scope}
use Rattle.cam_scope.specs.declared.letters.NamedLetter.{NamedLetter}
use Rattle.cam_scope.specs.declared.letters.Fate.{Fate}
use Rattle.cam_scope.specs.declared.letters.Fate.TheVariants.{Lost}
use Rattle.cam_scope.specs.Words.{name_word, object_word}
use Rattle.cam_scope.specs.Made.{made}
use Rattle.cam_script.specs.declared.Script.{Script}
use Rattle.cam_script.specs.declared.Act.{Act}
use Rattle.cam_script.specs.declared.Act.TheVariants as acts
use Rattle.cam_explain.specs.declared.moments.Moment.{Moment}
use Rattle.cam_explain.specs.declared.standing.Asked.{Asked}
use Rattle.cam_explain.specs.declared.standing.Asked.TheVariants.{ToCommit, ToAbort}
use Rattle.cam_explain.specs.declared.standing.OpenCall.{OpenCall}
use Rattle.cam_explain.specs.Parts.{line_part}
use Rattle.cam_explain.specs.Moments.{Told}
use Rattle.cam_explain.specs.Standings.{before, open_child, standing}

-- the place, from 0, of the word at which a refusal points among the words of its line
abbrev pub pointed_by : Act → LineRefusal → ℕ
pointed_by (acts.Query node a) refusals.Unbound = 2
pointed_by (acts.Query node a) refusals.NothingToDo = 2
pointed_by (acts.GiveUp a b) refusals.NotOpen = 2
pointed_by _ _ = 1

-- the place of the step whose variable a line is about
abbrev pub variable_of : Act → Option ℕ
variable_of (acts.Ask parent node) = Some parent
variable_of (acts.Call a x op) = Some a
variable_of (acts.Commit a v) = Some a
variable_of (acts.Abort a) = Some a
variable_of (acts.GiveUp a b) = Some a
variable_of (acts.Go a) = Some a
variable_of (acts.Query node a) = Some a
variable_of _ = None

-- the number of the letter that a line is about
abbrev pub letter_of : Act → Option ℕ
letter_of (acts.Deliver k) = Some k
letter_of (acts.Cut k bytes) = Some k
letter_of (acts.Lose k) = Some k
letter_of _ = None

-- the node that a line names
abbrev pub named_node : Act → Option ℕ
named_node (acts.Begin n) = Some n
named_node (acts.Start n body) = Some n
named_node (acts.Tell n to) = Some n
named_node (acts.Query n a) = Some n
named_node (acts.Stop n calls) = Some n
named_node _ = None

-- the action for which the variable of a line stands
abbrev pub actor : Scope → Act → Option Name
actor scope act = option_and_then (made scope) (variable_of act)

-- the letter of this number
abbrev pub letter_at : Scope → ℕ → Option NamedLetter
letter_at scope k = slice_get scope.letters (k - 1)

abbrev pub or_else : Option ℕ → Option ℕ → Option ℕ
or_else None other = other
or_else (Some n) other = Some n

-- The node that would have acted in a line: the one that it names, that to which its letter goes, or the home of its action.
abbrev pub node_of : Scope → Act → Option ℕ
node_of scope act =
    or_else (named_node act)
    (or_else (option_map (λ letter. letter.to) (option_and_then (letter_at scope) (letter_of act))) (option_map home_node (actor scope act)))

abbrev pub halted_text : Option ℕ → List ℕ
halted_text None = []
halted_text (Some n) = codes "  It is node " ++ (decimal n ++ codes ".\n")

-- the step that should have bound the variable
abbrev pub binder : Scope → Act → Option ℕ
binder scope (acts.GiveUp a b) = if is_some (made scope a) then Some b else Some a
binder scope act = variable_of act

abbrev pub unbound_text : Script → Scope → Act → List ℕ
unbound_text script scope act =
    option_map_or (λ step. codes "  See line " ++ (decimal step.line ++ codes ".\n")) (option_and_then (slice_get script.steps) (binder scope act)) []

-- the line that took out a letter, if it stands before this one
abbrev pub lost_before : ℕ → Fate → Option ℕ
lost_before line (Lost lost) = if nat_lt lost line then Some lost else None
lost_before line _ = None

-- a letter that was lost, or is sent later
abbrev pub missing_text : NamedLetter → Option ℕ → List ℕ
missing_text letter (Some lost) = codes "  It was lost in line " ++ (decimal lost ++ codes ".\n")
missing_text letter None = codes "  It is sent later, by event " ++ (decimal letter.id.event ++ codes ".\n")

abbrev pub whole_run_text : ℕ → List ℕ
whole_run_text letters = codes "  The whole run sends " ++ (decimal letters ++ codes " letters.\n")

abbrev pub no_letter_text : Scope → ℕ → Option ℕ → List ℕ
no_letter_text scope line None = []
no_letter_text scope line (Some k) =
    option_map_or (λ letter. missing_text letter (lost_before line letter.fate)) (letter_at scope k) (whole_run_text (length scope.letters))

abbrev pub ended_text : Name → Option Asked → List ℕ
ended_text a None = codes "  Its home, node " ++ (decimal (home_node a) ++ codes ", has restarted since.\n")
ended_text a (Some (ToCommit line)) = codes "  It asked to commit in line " ++ (decimal line ++ codes ".\n")
ended_text a (Some (ToAbort line)) = codes "  It asked to abort in line " ++ (decimal line ++ codes ".\n")

abbrev pub unanswered_text : Script → Option OpenCall → List ℕ
unanswered_text script None = []
unanswered_text script (Some call) = codes "  The call of " ++ (object_word script.labels call.object ++ (line_part call.line ++ codes " has no answer.\n"))

abbrev pub undecided_text : Scope → Option (Name × ℕ) → List ℕ
undecided_text scope None = []
undecided_text scope (Some child) = codes "  The child " ++ (name_word scope.names child.0 ++ (line_part child.1 ++ codes " has neither committed nor aborted.\n"))

abbrev pub not_open_text : Bool → List ℕ
not_open_text created =
    if created then codes "  The child is decided, or was never asked for.\n" else codes "  No letter has brought it to its home yet.\n"

-- what stood against the request of an action, by what had happened to it
abbrev pub of_action : Script → Scope → Name → List Moment → LineRefusal → List ℕ
of_action script scope a ms refusals.Ended = ended_text a (standing ms).asked
of_action script scope a ms refusals.OpenCall = unanswered_text script (standing ms).call
of_action script scope a ms refusals.OpenChild = undecided_text scope (open_child ms)
of_action script scope a ms refusals.NotOpen = not_open_text (is_some (standing ms).created_at)
of_action script scope a ms _ = []

abbrev pub by_actor : Script → Scope → Told → ℕ → LineRefusal → Option Name → List ℕ
by_actor script scope course line refusal None = []
by_actor script scope course line refusal (Some a) = of_action script scope a (before line (course.moments a)) refusal

-- What stood against a line.
abbrev pub against_text : Script → Scope → Told → ℕ → Act → LineRefusal → List ℕ
against_text script scope course line act refusals.Unbound = unbound_text script scope act
against_text script scope course line act refusals.NoLetter = no_letter_text scope line (letter_of act)
against_text script scope course line act refusals.Halted = halted_text (node_of scope act)
against_text script scope course line act refusal = by_actor script scope course line refusal (actor scope act)
