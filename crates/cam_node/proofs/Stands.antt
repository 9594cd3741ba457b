-- An event stands whose change is of the actions: first what was learnt, then what they do.
use Rattle.std.proofs.Common.{Option, Some, refl, sym, ap, ◌∙◌, subst}
use Rattle.cam_know.specs.Knowledge.{Knowledge}
use Rattle.cam_tranman.specs.Actions.{Actions}
use Rattle.cam_tranman.specs.Calls as tranman
use Rattle.cam_comman.specs.Letters.{IsWithin}
use Rattle.cam_event.specs.declared.LetterId.{LetterId}
use Rattle.cam_node.specs.declared.did.Doing.{Doing}
use Rattle.cam_node.specs.declared.knowing.Heard.{Heard}
use Rattle.cam_node.specs.declared.learning.Learnt.{Learnt}
use Rattle.cam_node.specs.declared.plan.Change.{Change}
use Rattle.cam_node.specs.declared.plan.Plan.{Plan}
use Rattle.cam_node.specs.declared.state.Core.{Core}
use Rattle.cam_node.specs.Planning.{IsMade}
use Rattle.cam_node.specs.Represents.{Node}
use Rattle.cam_node.specs.Standing.{HasActed, HasLearnt, HasRoom, HaveActed, IsInformed, MayChange, MayStand, places_heard}

pub acts_stand : (heard : Option Heard) (known : Knowledge) (act : Actions → Actions)
    (old mid new : Node) → HasLearnt heard known old mid
    → HaveActed (act mid.actions) mid new → HasActed heard known (act old.actions) old new
acts_stand heard known act old mid new learnt acted = record {
  learnt = record {
    number = ap (λ (n : Node). n.number) acted.rest ∙ learnt.number;
    count = ap (λ (n : Node). n.count) acted.rest ∙ learnt.count;
    know = ap (λ (n : Node). n.know) acted.rest ∙ learnt.know;
    places_are = ap (λ (n : Node). n.places) acted.rest ∙ learnt.places_are;
    actions = refl;
    families = ap (λ (n : Node). n.families) acted.rest ∙ learnt.families;
    server = subst (λ (n : Node). IsInformed heard old.server n.server) (sym acted.rest)
        learnt.server;
  };
  acted = subst (λ (actions : Actions). tranman.AreSame (act actions) new.actions) learnt.actions
      acted.acted;
}

-- a plan may stand where what it was made of may
pub made_may : (core : Core) (id : LetterId) (learnt : Learnt) (doing : Doing) (plan : Plan)
    → IsMade core id learnt doing plan
    → HasRoom (Some learnt.heard) core.server → IsWithin core.knowing.known learnt.heard.places
    → MayChange doing.change (Some learnt.heard) core
    → MayStand plan core
made_may core id learnt doing plan made room within may = record {
  room = subst (λ (h : Option Heard). HasRoom h core.server) (sym made.heard) room;
  within =
      subst (λ (h : Option Heard). IsWithin core.knowing.known (places_heard h core.knowing.places))
      (sym made.heard) within;
  change =
      subst (λ (h : Option Heard). MayChange plan.change h core) (sym made.heard)
      (subst (λ (c : Change). MayChange c (Some learnt.heard) core) (sym made.change) may);
}
