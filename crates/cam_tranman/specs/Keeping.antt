-- THE LAW OF ONE STEP: the deeds that a rule makes of the actions at home may come, each event has
-- one at most, and where the actions did what it does they answer as the longer history.
use Rattle.std.specs.Prelude.{◌≡◌, ℕ, ◌+◌, List, [], ◌∷◌, filter, length, Option, Some, None}
use Rattle.cam_type.specs.declared.ObjectDecl.{ObjectDecl}
use Rattle.cam_know.specs.Knowledge.{Knowledge}
use Rattle.cam_know.specs.Known.{nothing}
use Rattle.cam_event.specs.declared.Body.{Body}
use Rattle.cam_event.specs.declared.Body.TheVariants as bodies
use Rattle.cam_event.specs.declared.Deed.{Deed}
use Rattle.cam_event.specs.declared.Deed.TheVariants.{Crash}
use Rattle.cam_event.specs.Inputs.{Input, Mail}
use Rattle.cam_event.specs.Rules.{Did, rule}
use Rattle.cam_event.specs.ByKnowledge.{held_sight}
use Rattle.cam_event.specs.Carried.{Carried}
use Rattle.cam_event.specs.NextStep.{stepped}
use Rattle.cam_tranman.specs.Actions.{Actions, RunsActions}
use Rattle.cam_tranman.specs.Calls.{AreSame, none_run}
use Rattle.cam_tranman.specs.Events.{is_at_home, at_home, MayCome, after_deed}
use Rattle.cam_tranman.specs.Orderly.{present_count, IsOrderly, MayBeAsked}

-- the deeds of a rule that concern the actions at home
abbrev pub did_at_home : Did → List Deed
did_at_home d = filter is_at_home d.deeds

abbrev pub home_deeds : List ObjectDecl → ℕ → List Carried → Input → Option Mail → Knowledge
    → List Deed
home_deeds objects s before input mail brought =
    did_at_home (rule objects (held_sight objects s before brought) mail input)

-- Those of the event are those of its rule.
abbrev pub RulesMakeThem : Type 0
RulesMakeThem =
    (objects : List ObjectDecl) (s : ℕ) (before : List Carried) (input : Input) (mail : Option Mail)
    (brought : Knowledge)
    → at_home (stepped objects s before input mail brought)
    ≡ home_deeds objects s before input mail brought

-- The dependencies on a start or a finish are eight counts.
abbrev pub HasCounts : Body → Type 0
HasCounts (bodies.Start b counts) = length counts ≡ 8
HasCounts (bodies.Finish b v counts) = length counts ≡ 8
HasCounts _ = Unit {0}

abbrev pub MailHasCounts : Option Mail → Type 0
MailHasCounts None = Unit {0}
MailHasCounts (Some mail) = HasCounts mail.body

-- There is one at most: the crash of this node, or one that may come.
abbrev pub IsCrashOrMayCome : ℕ → Option Mail → Deed → Actions → Type 0
IsCrashOrMayCome s mail (Crash m) actions = m ≡ s
IsCrashOrMayCome s mail d actions = MayCome mail d actions

abbrev pub OneMayCome : ℕ → Option Mail → List Deed → Actions → Type 0
OneMayCome s mail [] actions = Unit {0}
OneMayCome s mail (d ∷ []) actions = IsCrashOrMayCome s mail d actions
OneMayCome s mail (d ∷ e ∷ ds) actions = ⊥

abbrev pub DeedsMayCome : Type 0
DeedsMayCome =
    (objects : List ObjectDecl) (s : ℕ) (before : List Carried) (input : Input) (mail : Option Mail)
    (brought : Knowledge) (actions : Actions)
    → RunsActions objects s before actions → IsOrderly s before
    → MayBeAsked s (held_sight objects s before nothing) input mail
    → MailHasCounts mail → OneMayCome s mail (home_deeds objects s before input mail brought)
    actions

-- After a restart nothing runs, and that is what the history has.
abbrev pub RestartKeeps : Type 0
RestartKeeps =
    (objects : List ObjectDecl) (s : ℕ) (before : List Carried) (c : Carried) (new : Actions)
    → IsOrderly s before → at_home c ≡ Crash s ∷ []
    → AreSame (none_run s (present_count s before + 1)) new → RunsActions objects s (c ∷ before) new

-- what the deeds do to the actions, in their order
abbrev pub after_deeds : List ObjectDecl → Option Mail → List Deed → Actions → Actions
after_deeds objects mail [] actions = actions
after_deeds objects mail (d ∷ ds) actions = after_deeds objects mail ds
    (after_deed objects mail d actions)

-- Whatever the step: where the actions did what the deeds of its rule do, they answer as the longer
-- history.
abbrev pub StepKeeps : Type 0
StepKeeps =
    (objects : List ObjectDecl) (s : ℕ) (before : List Carried) (input : Input) (mail : Option Mail)
    (brought : Knowledge) (old new : Actions)
    → RunsActions objects s before old → IsOrderly s before
    → MayBeAsked s (held_sight objects s before nothing) input mail → MailHasCounts mail
    → AreSame (after_deeds objects mail (home_deeds objects s before input mail brought) old) new
    → RunsActions objects s (stepped objects s before input mail brought ∷ before) new
