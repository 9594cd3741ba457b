-- A decision of a node: an event, with a letter or without one, in which it commits or aborts an
-- action, and informs its site of that.
use Rattle.std.specs.Prelude.{◌≡◌, true, false, List, ◌∷◌, [], map, Option, Some, None}
use Rattle.cam_names.specs.declared.name.Name.{Name}
use Rattle.cam_names.specs.Names.{is_top}
use Rattle.cam_type.specs.declared.ObjectDecl.{ObjectDecl}
use Rattle.cam_know.specs.Knowledge.{Knowledge}
use Rattle.cam_know.specs.Known.{with_outcome, knows_abort, knows_commit}
use Rattle.cam_know.specs.declared.Outcome.{Outcome}
use Rattle.cam_know.specs.declared.Outcome.TheVariants.{Aborted, Committed}
use Rattle.cam_event.specs.Inputs.{Input, Mail}
use Rattle.cam_event.specs.ByKnowledge.{commit_counts}
use Rattle.cam_event.specs.Loads.{Load}
use Rattle.cam_event.specs.ByDeltas.{Received, as_carried}
use Rattle.cam_tranman.specs.Actions.{Actions}
use Rattle.cam_tranman.specs.Calls as tranman
use Rattle.cam_tranman.specs.Calls.{decides_by}
use Rattle.cam_tranman.specs.Events.{decides}
use Rattle.cam_tranman.specs.Keeping.{MailHasCounts}
use Rattle.cam_commit.specs.Families.{CommitsFamilies}
use Rattle.cam_commit.specs.Steps.{is_restarting}
use Rattle.cam_server.specs.Server.{Server}
use Rattle.cam_server.specs.Calls.{AreInformed, IsInformedOfAll}
use Rattle.cam_server.specs.Events.{decision}
use Rattle.cam_node.specs.Represents.{Node, Represents}
use Rattle.cam_node.specs.Lawful.{MayBePut}
use Rattle.cam_node.specs.Halting.{IsThrough}
use Rattle.cam_node.specs.Learning.{stepped, ruled, IsSentByNode}
use Rattle.cam_node.specs.Stepping.{known_with, noted_with, news_with, IsCarried, longer, sight_before}

-- A commit is learnt with what the action depends on: a top action by what it did, a child by its
-- finish.
abbrev pub IsOutcomeOf : List ObjectDecl → List Received → Option Mail → Outcome → Type 0
IsOutcomeOf objects history mail (Aborted a) = Unit {0}
IsOutcomeOf objects history mail (Committed a counts) = counts ≡ commit_counts objects (map as_carried history) mail a

-- What the actions do: a child is open no longer, and where it commits its parent depends on what
-- it depends on. A top action is no child.
abbrev pub decided_at_home : Outcome → Actions → Actions
decided_at_home (Aborted a) actions = decides (is_top a) a None actions
decided_at_home (Committed a counts) actions = decides (is_top a) a (Some counts) actions

-- The site is informed of news, and then of an outcome.
pub record AreInformedThen (fresh : Knowledge) (o : Outcome) (old new : Server) : Type 0 where
  pub mid : Server
  pub first : AreInformed (knows_abort fresh) (knows_commit fresh) old mid
  pub then_of : IsInformedOfAll (o ∷ []) mid new

-- The node decides: it knows the outcome besides what the letter tells, has noted the letter's
-- places, its actions are as the decision leaves
-- them, and its site was informed of the letter's news and of the outcome.
pub record HasDecided (o : Outcome) (mail : Option Mail) (load : Load) (old new : Node) : Type 0 where
  pub number : new.number ≡ old.number
  pub count : new.count ≡ old.count
  pub know : new.know ≡ with_outcome o (known_with mail load old.know)
  pub noted : new.places ≡ noted_with mail load old
  pub actions : tranman.AreSame (decided_at_home o old.actions) new.actions
  pub server : AreInformedThen (news_with mail load old.know) o old.server new.server

-- THE LAW. After a step whose deeds are a decision and the Inform of it the node stands for the
-- longer history, where its families answer as that.
abbrev pub DecidesKeep : Type 0
DecidesKeep =
    (objects : List ObjectDecl) (history : List Received) (input : Input) (mail : Option Mail) (load : Load) (o : Outcome) (old new : Node)
    → is_restarting input ≡ false → IsCarried mail load old.know → MailHasCounts mail
    → IsSentByNode mail
    → IsThrough objects old.number history
    → MayBePut objects old.number (sight_before objects old.number history) input mail load
    → ruled objects old.number history input mail load ≡ decision old.number o
    → IsOutcomeOf objects history mail o
    → HasDecided o mail load old new
    → CommitsFamilies objects old.number (longer objects old.number history input mail load) new.families
    → Represents objects history old
    → Represents objects (stepped objects old.number history input mail load ∷ history) new

-- Where what a letter brought stands already: the site was informed of the outcome besides, the actions are these, and all else is as it was.
pub record IsDecided (o : Outcome) (actions : Actions) (old new : Node) : Type 0 where
  pub number : new.number ≡ old.number
  pub count : new.count ≡ old.count
  pub know : new.know ≡ old.know
  pub places : new.places ≡ old.places
  pub acted : tranman.AreSame actions new.actions
  pub families : new.families ≡ old.families
  pub server : IsInformedOfAll (o ∷ []) old.server new.server

-- the action of which it is the outcome
abbrev pub decided_action : Outcome → Name
decided_action (Aborted a) = a
decided_action (Committed a counts) = a

-- A child that is decided is one that its parent's home may decide.
abbrev pub MayDecide : Outcome → Actions → Type 0
MayDecide o actions = is_top (decided_action o) ≡ false → decides_by actions (decided_action o) ≡ true
