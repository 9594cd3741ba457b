-- What is told of each action: how it stands at the end, and its story.
use Rattle.std.specs.Prelude.{ℕ, ℤ, eqb, Bool, true, false, if◌then◌else◌, List, [], ◌∷◌, ◌++◌, length, Option, Some, None, codes}
use Rattle.std.specs.List.{flat_map}
use Rattle.std.specs.Option.{option_map_or}
use Rattle.std.specs.Fmt.{signed_decimal}
use Rattle.cam_names.specs.declared.name.Name.{Name}
use Rattle.cam_names.specs.Text.{name_text}
use Rattle.cam_event.specs.declared.Deed.{Deed}
use Rattle.cam_report.specs.declared.action.ActionState.{ActionState}
use Rattle.cam_report.specs.declared.action.ActionState.TheVariants as states
use Rattle.cam_report.specs.Report.{actions, state_of}
use Rattle.cam_scope.specs.declared.scope.Scope.{Scope}
use Rattle.cam_scope.specs.Words.{bound_line, name_word, object_word, op_text, seen_text}
use Rattle.cam_script.specs.declared.Script.{Script}
use Rattle.cam_explain.specs.declared.moments.What.{What}
use Rattle.cam_explain.specs.declared.moments.What.TheVariants as whats
use Rattle.cam_explain.specs.declared.moments.Moment.{Moment}
use Rattle.cam_explain.specs.declared.moments.Outcome.{Outcome}
use Rattle.cam_explain.specs.declared.moments.Outcome.TheVariants.{Committed, Aborted}
use Rattle.cam_explain.specs.Parts.{line_part}
use Rattle.cam_explain.specs.Moments.{Told}
use Rattle.cam_explain.specs.Standings.{standing}
use Rattle.cam_explain.specs.Open.{open_text}

-- the value with which a child asked to commit
abbrev pub value_part : Option ℤ → List ℕ
value_part None = []
value_part (Some v) = codes " with " ++ signed_decimal v

abbrev pub ended_part : Told → Name → Outcome → List ℕ
ended_part course b Committed = codes " committed" ++ value_part (standing (course.moments b)).value
ended_part course b Aborted = codes " aborted"

-- what happened, in words; nothing where the story leaves it out
abbrev pub what_text : Script → Scope → Told → What → List ℕ
what_text script scope course whats.Created = []
what_text script scope course (whats.Asked b) = codes "asks for " ++ name_word scope.names b
what_text script scope course (whats.Called x op) = codes "calls " ++ object_word script.labels x ++ codes " " ++ op_text op
what_text script scope course (whats.Got seen) = codes "got " ++ seen_text scope.names seen
what_text script scope course (whats.ChildEnded b outcome) = codes "its child " ++ name_word scope.names b ++ ended_part course b outcome
what_text script scope course (whats.CommitAsked v) = codes "asks to commit with " ++ signed_decimal v
what_text script scope course whats.AbortAsked = codes "asks to abort"
what_text script scope course whats.Performed = []
what_text script scope course whats.Stopped = []

abbrev pub is_told : What → Bool
is_told whats.Created = false
is_told whats.Performed = false
is_told whats.Stopped = false
is_told _ = true

-- a line of a story, with the line of the script in which it happened
abbrev pub moment_text : Script → Scope → Told → Moment → List ℕ
moment_text script scope course m =
    if is_told m.what then codes "  " ++ what_text script scope course m.what ++ line_part m.line ++ 10 ∷ [] else []

abbrev pub story : Script → Scope → Told → Name → List ℕ
story script scope course a = flat_map (moment_text script scope course) (course.moments a)

abbrev pub state_text : ActionState → List ℕ
state_text states.Committed = codes " committed"
state_text states.Aborted = codes " aborted"
state_text states.Open = codes " is open at the end"

-- a colon before what is told of the action, else a full stop
abbrev pub head_end : ActionState → ℕ → List ℕ
head_end states.Open told = codes ":\n"
head_end _ told = if eqb told 0 then codes ".\n" else codes ":\n"

-- the action's word, its name in the report, the line that binds its variable if one does, and how it stands
abbrev pub head_text : Scope → Name → ActionState → List ℕ → List ℕ
head_text scope a state told =
    name_word scope.names a ++ (codes " = " ++ (name_text a ++ (option_map_or line_part (bound_line scope.names a) []
    ++ (state_text state ++ head_end state (length told)))))

abbrev pub if_open : ActionState → List ℕ → List ℕ
if_open states.Open text = text
if_open _ text = []

abbrev pub with_story : Script → Scope → Told → Name → ActionState → List ℕ → List ℕ
with_story script scope course a state story =
    head_text scope a state story ++ (story ++ if_open state (open_text script scope course a))

abbrev pub stated_text : Script → Scope → Told → Name → ActionState → List ℕ
stated_text script scope course a state = with_story script scope course a state (story script scope course a)

abbrev pub action_text : Script → Scope → Told → List Deed → Name → List ℕ
action_text script scope course L a = stated_text script scope course a (state_of L a)

-- The created actions, in order of names. The deeds have the newest first.
abbrev pub actions_text : Script → Scope → Told → List Deed → List ℕ
actions_text script scope course L = flat_map (action_text script scope course L) (actions L)
