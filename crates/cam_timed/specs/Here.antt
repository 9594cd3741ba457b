-- When tables stand for what a node goes by at an event, and what it is given.
use Rattle.std.specs.Prelude.{◌≡◌, ℕ, List, [], ◌∷◌, Option, Some, None}
use Rattle.cam_names.specs.Names.{parent}
use Rattle.cam_type.specs.declared.ObjectDecl.{ObjectDecl}
use Rattle.cam_event.specs.declared.Event.{Event}
use Rattle.cam_event.specs.declared.Deed.{Deed}
use Rattle.cam_event.specs.declared.Deed.TheVariants.{Ask}
use Rattle.cam_event.specs.History.{after, count}
use Rattle.cam_event.specs.Inputs.{Mail, Begins, Requests, Receives, Tells, Queries}
use Rattle.cam_event.specs.Pasts.{plain_all}
use Rattle.cam_event.specs.Runs.{IsNode}
use Rattle.cam_event.specs.Sights.{entries, own_deeds}
use Rattle.cam_own.specs.declared.own.Own.{Own}
use Rattle.cam_own.specs.declared.all_nodes.AllNodes.{AllNodes}
use Rattle.cam_own.specs.Own.{KeepsOwn}
use Rattle.cam_own.specs.AllNodes.{KeepsAllNodes}
use Rattle.cam_rules.specs.Untested.{HasPlace}
use Rattle.cam_timed.specs.declared.ruled.NodeInput.{NodeInput}
use Rattle.cam_timed.specs.declared.ruled.NodeInput.TheVariants as inputs
use Rattle.cam_timed.specs.TimedRules.{TimedInput, WithoutTime, Ticks, Expires}

-- each child that was asked for is one of the action that asked
abbrev pub AskedByParents : List Deed → Type 0
AskedByParents [] = Unit {0}
AskedByParents (Ask p b ∷ before) = (parent b ≡ Some p) × AskedByParents before
AskedByParents (_ ∷ before) = AskedByParents before

-- at an event of a node with these first Informs
pub record StandHere (objects : List ObjectDecl) (t : List Event) (s : ℕ) (first : List Deed)
    (own : Own) (all_nodes : AllNodes) : Type 0 where
  pub node : IsNode s
  pub keeps_own :
      KeepsOwn objects s (after (own_deeds (entries t s)) first) (entries t s) own
  pub keeps_all_nodes : KeepsAllNodes objects (after (plain_all t) first) all_nodes
  pub count : count (after (own_deeds (entries t s)) first) s ≡ 1
  pub asked : AskedByParents (after (own_deeds (entries t s)) first)

-- what a node is given, as the rules by time name it
abbrev pub input_of : NodeInput → TimedInput
input_of (inputs.Begin s until) = WithoutTime (Begins s) until
input_of (inputs.Request a want until) = WithoutTime (Requests (record { action = a; want = want })) until
input_of (inputs.Letter id) = WithoutTime (Receives id) 0
input_of (inputs.Tell s to) = WithoutTime (Tells s to) 0
input_of (inputs.Query s f) = WithoutTime (Queries s f) 0
input_of (inputs.Tick s moment) = Ticks s moment
input_of (inputs.Expire a) = Expires a

-- a letter comes from a node
abbrev pub ComesFromNode : Option Mail → Type 0
ComesFromNode None = Unit {0}
ComesFromNode (Some mail) = IsNode mail.from

-- a child or a call that is asked for has a place, and what is told goes to a node
abbrev pub HasPlaceHere : List ObjectDecl → NodeInput → Type 0
HasPlaceHere objects (inputs.Begin s until) = Unit {0}
HasPlaceHere objects (inputs.Request a want until) = HasPlace objects a want
HasPlaceHere objects (inputs.Letter id) = Unit {0}
HasPlaceHere objects (inputs.Tell s to) = IsNode to
HasPlaceHere objects (inputs.Query s f) = Unit {0}
HasPlaceHere objects (inputs.Tick s moment) = Unit {0}
HasPlaceHere objects (inputs.Expire a) = Unit {0}
