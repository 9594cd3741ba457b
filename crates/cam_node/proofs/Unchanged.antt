-- Nodes that answer the same; and what an event leaves that changes nothing besides what was
-- learnt.
use Rattle.std.proofs.Common.{◌≡◌, List, [], Some, refl, sym, ◌∙◌, subst}
use Rattle.cam_type.specs.declared.ObjectDecl.{ObjectDecl}
use Rattle.cam_know.specs.Knowledge.{Knowledge}
use Rattle.cam_event.specs.declared.Deed.{Deed}
use Rattle.cam_event.specs.declared.LetterId.{LetterId}
use Rattle.cam_event.specs.Inputs.{Mail}
use Rattle.cam_event.specs.Rules.{Did}
use Rattle.cam_event.specs.Loads.{Load}
use Rattle.cam_tranman.specs.Actions.{Actions}
use Rattle.cam_tranman.specs.Calls as tranman
use Rattle.cam_tranman.specs.Events.{is_at_home}
use Rattle.cam_tranman.specs.Keeping.{after_deeds}
use Rattle.std.specs.Prelude.{filter}
use Rattle.cam_node.specs.declared.knowing.Heard.{Heard}
use Rattle.cam_node.specs.Represents.{Node}
use Rattle.cam_node.specs.Calls.{AreSame}
use Rattle.cam_node.specs.Standing.{HasLearnt}
use Rattle.cam_node.proofs.HomePlans.{HaveDone}

-- actions that answer as others that answer as the first
pub same_on : (one two three : Actions) → tranman.AreSame one two → tranman.AreSame two three
    → tranman.AreSame one three
same_on one two three first next = record {
  node = next.node ∙ first.node;
  count = next.count ∙ first.count;
  tops = next.tops ∙ first.tops;
  action = λ a. next.action a ∙ first.action a;
  call = λ a. next.call a ∙ first.call a;
  children = λ b. next.children b ∙ first.children b;
}

-- a node that answers as another but for the room of its actions
pub same_with : (old mid : Node) (actions : Actions) → AreSame old mid
    → tranman.AreSame mid.actions actions
    → AreSame old (record mid { actions = actions })
same_with old mid actions same room = record {
  number = same.number;
  count = same.count;
  know = same.know;
  places = same.places;
  actions = same_on old.actions mid.actions actions same.actions room;
  families = same.families;
  server = same.server;
}

-- its actions are as they were
pub unchanged : (objects : List ObjectDecl) (old mid new : Node) (id : LetterId) (mail : Mail)
    (load : Load) (heard : Heard) (known : Knowledge)
    (d : Did) → AreSame old mid → d.deeds ≡ [] → HasLearnt (Some heard) known mid new
    → HasLearnt (Some heard) known mid (record new { actions = mid.actions }) × HaveDone objects old
    id mail load d new
unchanged objects old mid new id mail load heard known d same none has = (
  record {
    number = has.number;
    count = has.count;
    know = has.know;
    places_are = has.places_are;
    actions = refl;
    families = has.families;
    server = has.server;
  },
  λ history through rep may.
      subst (λ (ds : List Deed). tranman.AreSame
      (after_deeds objects (Some mail) (filter is_at_home ds) old.actions) new.actions)
      (sym none)
      (subst (tranman.AreSame old.actions) (sym has.actions) same.actions),
)
