-- The calls are the rules: what a node does with what is asked of its actions follows from what the
-- actions answer.
use Rattle.std.specs.Prelude.{◌≡◌, ℕ, true, false, not, if◌then◌else◌, List, [], Some, IfSome}
use Rattle.cam_names.specs.declared.name.Name.{Name}
use Rattle.cam_names.specs.Names.{is_top, parent, home_node}
use Rattle.cam_names.specs.Dependencies.{pairs_of}
use Rattle.cam_type.specs.declared.ObjectDecl.{ObjectDecl}
use Rattle.cam_know.specs.Knowledge.{Knowledge}
use Rattle.cam_event.specs.declared.Body.TheVariants as bodies
use Rattle.cam_event.specs.declared.Note.TheVariants as notes
use Rattle.cam_event.specs.declared.Reply.{Reply}
use Rattle.cam_event.specs.declared.Want.{Want}
use Rattle.cam_event.specs.declared.Want.TheVariants as wants
use Rattle.cam_event.specs.declared.Deed.TheVariants.{Create, Got, AskCommit, AskAbort}
use Rattle.cam_event.specs.Live.{site_of}
use Rattle.cam_event.specs.Inputs.{decider}
use Rattle.cam_event.specs.Sights.{Sight, is_present}
use Rattle.cam_event.specs.Refusals.{refusal}
use Rattle.cam_event.specs.Rules.{Did, did, one, send, answers, nothing_but, aborts, unless_orphan}
use Rattle.cam_event.specs.Rules.{begins, asks_child, makes_call, request, with_home, start_comes}
use Rattle.cam_event.specs.Rules.{answer_comes, commits_or_aborts, child_finishes, child_quits}
use Rattle.cam_event.specs.ByKnowledge.{held_sight}
use Rattle.cam_event.specs.Carried.{Carried}
use Rattle.cam_tranman.specs.declared.Started.{Started}
use Rattle.cam_tranman.specs.declared.Started.TheVariants as started
use Rattle.cam_tranman.specs.declared.Taken.{Taken}
use Rattle.cam_tranman.specs.declared.Taken.TheVariants as taken
use Rattle.cam_tranman.specs.Actions.{Actions, deps, RunsActions, AnswersSight}
use Rattle.cam_tranman.specs.Calls.{IsFree, refusal_by, awaits_by, decides_by, next_top, next_child}
use Rattle.cam_tranman.specs.Calls.{next_call, started_by, taken_by}

-- Actions that answer as a node's history does answer as what the node goes by, whatever a letter
-- brings.
abbrev pub SightIsAnswered : Type 0
SightIsAnswered =
    (objects : List ObjectDecl) (s : ℕ) (before : List Carried) (brought : Knowledge)
    (actions : Actions)
    → RunsActions objects s before actions → AnswersSight objects
    (held_sight objects s before brought) actions

-- A top action is begun under the next name.
abbrev pub BegunIsRule : Type 0
BegunIsRule =
    (objects : List ObjectDecl) (g : Sight) (actions : Actions) → AnswersSight objects g actions
    → begins g ≡ did (one (Create (next_top actions))) []

-- What stands against a request is what the actions answer.
abbrev pub RefusalIsRule : Type 0
RefusalIsRule =
    (objects : List ObjectDecl) (g : Sight) (actions : Actions) (a : Name) (want : Want)
    → AnswersSight objects g actions
    → home_node a ≡ g.node → refusal g a want ≡ refusal_by actions a want

-- An action that is an orphan by what it depends on is stopped.
abbrev pub unless_stopped : Sight → Actions → Name → Did → Did
unless_stopped g actions a other = unless_orphan g a (pairs_of (deps actions a)) other

-- what an action that may go on does by the answers to its request: a child or a call with the next
-- number, and letters with what it depends on
abbrev pub did_wanted : List ObjectDecl → Sight → Actions → Name → Want → Did
did_wanted objects g actions a (wants.Ask m) =
    asks_child a (next_child actions a m (g.known_count m)) m (deps actions a)
did_wanted objects g actions a (wants.Call x op) =
    makes_call a (next_call actions a) x op (site_of objects x) (g.known_count (site_of objects x))
    (deps actions a)
did_wanted objects g actions a (wants.Commit v) =
    did (one (AskCommit a v)) (one (send (decider a) (bodies.Finish a v (deps actions a))))
did_wanted objects g actions a wants.Abort = did (one (AskAbort a))
    (one (send (decider a) (bodies.Quit a)))
did_wanted objects g actions a (wants.GiveUp b) = did (aborts g b) []

abbrev pub WantedIsRule : Type 0
WantedIsRule =
    (objects : List ObjectDecl) (g : Sight) (actions : Actions) (a : Name) (want : Want)
    → AnswersSight objects g actions
    → home_node a ≡ g.node → IsFree actions a want
    → request objects g a want ≡ unless_stopped g actions a (did_wanted objects g actions a want)

-- what a child's home does by whether the start is new
abbrev pub did_started : Sight → Name → List ℕ → Started → Did
did_started g b counts started.Known = nothing_but notes.Again
did_started g b counts started.New = unless_orphan g b (with_home counts b)
    (did (one (Create b)) [])

abbrev pub StartedIsRule : Type 0
StartedIsRule =
    (objects : List ObjectDecl) (g : Sight) (actions : Actions) (from : ℕ) (b : Name)
    (counts : List ℕ) → AnswersSight objects g actions
    → home_node b ≡ g.node
    → start_comes g from b counts
    ≡ (if not (is_present g b) then answers notes.Missed (one (send from (bodies.Quit b)))
    else did_started g b counts (started_by actions b))

-- what an action's home does by what the answer to its call makes of it
abbrev pub did_taken : Name → ℕ → Taken → Did
did_taken a n (taken.Got seen) = did (one (Got a n seen)) []
did_taken a n taken.Late = nothing_but notes.Late

-- The count of the open call's site is known as `known`.
abbrev pub TakenIsRule : Type 0
TakenIsRule =
    (objects : List ObjectDecl) (g : Sight) (actions : Actions) (a : Name) (n : ℕ) (reply : Reply)
    (known : ℕ) → AnswersSight objects g actions
    → home_node a ≡ g.node → IfSome (actions.call a) (λ call. known ≡ g.known_count call.site)
    → answer_comes objects g a n reply
    ≡ (if not (awaits_by actions a n) then nothing_but notes.Late
    else unless_stopped g actions a (did_taken a n (taken_by actions a n reply known)))

-- A child is decided where the actions answer so, and its parent is no orphan.
abbrev pub did_decided : Sight → Actions → Name → Name → Did → Did
did_decided g actions p b other =
    if not (decides_by actions b) then nothing_but notes.Late else unless_stopped g actions p other

abbrev pub FinishIsRule : Type 0
FinishIsRule =
    (objects : List ObjectDecl) (g : Sight) (actions : Actions) (p b : Name) (counts : List ℕ)
    → AnswersSight objects g actions
    → parent b ≡ Some p → home_node p ≡ g.node
    → child_finishes g p b counts ≡ did_decided g actions p b
    (commits_or_aborts g b (g.orphan b (pairs_of counts)))

abbrev pub QuitIsRule : Type 0
QuitIsRule =
    (objects : List ObjectDecl) (g : Sight) (actions : Actions) (p b : Name)
    → AnswersSight objects g actions → parent b ≡ Some p
    → home_node p ≡ g.node → child_quits g p b ≡ did_decided g actions p b (did (aborts g b) [])

-- What a top action of the present count depends on, as it is prepared, voted for and told of, is
-- what the actions answer.
abbrev pub DepsAreTheRules : Type 0
DepsAreTheRules =
    (objects : List ObjectDecl) (g : Sight) (actions : Actions) (a : Name)
    → AnswersSight objects g actions → home_node a ≡ g.node
    → is_present g a ≡ true → g.deps a ≡ deps actions a

-- A child that is decided or given up is no top action.
abbrev pub ChildIsNoTop : Type 0
ChildIsNoTop = (p b : Name) → parent b ≡ Some p → is_top b ≡ false

abbrev pub GivenUpIsNoTop : Type 0
GivenUpIsNoTop =
    (objects : List ObjectDecl) (g : Sight) (actions : Actions) (a b : Name)
    → AnswersSight objects g actions → home_node a ≡ g.node
    → IsFree actions a (wants.GiveUp b) → is_top b ≡ false
