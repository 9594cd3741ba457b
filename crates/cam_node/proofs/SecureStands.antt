-- An event stands at which the site secures a family: first what was learnt, then the family is secured.
use Rattle.std.proofs.Common.{◌≡◌, Option, refl, sym, ap, ◌∙◌, subst}
use Rattle.cam_names.specs.declared.name.Name.{Name}
use Rattle.cam_know.specs.Knowledge.{Knowledge}
use Rattle.cam_commit.specs.Families.{Families}
use Rattle.cam_commit.specs.Calls.{IsSecured}
use Rattle.cam_node.specs.declared.knowing.Heard.{Heard}
use Rattle.cam_node.specs.Represents.{Node}
use Rattle.cam_node.specs.Standing.{HasLearnt, HasSecured, HaveSecured, IsInformed}

-- what was learnt stands, where the families alone have changed since
pub learnt_besides : (heard : Option Heard) (known : Knowledge) (old mid new : Node)
    → HasLearnt heard known old mid → new ≡ record mid { families = new.families }
    → HasLearnt heard known old (record new { families = old.families })
learnt_besides heard known old mid new learnt rest = record {
  number = ap (λ (n : Node). n.number) rest ∙ learnt.number;
  count = ap (λ (n : Node). n.count) rest ∙ learnt.count;
  know = ap (λ (n : Node). n.know) rest ∙ learnt.know;
  places_are = ap (λ (n : Node). n.places) rest ∙ learnt.places_are;
  actions = ap (λ (n : Node). n.actions) rest ∙ learnt.actions;
  families = refl;
  server = subst (λ (n : Node). IsInformed heard old.server n.server) (sym rest) learnt.server;
}

pub families_stand : (heard : Option Heard) (known : Knowledge) (f : Name) (old mid new : Node)
    → HasLearnt heard known old mid → HaveSecured f mid new → HasSecured heard known f old new
families_stand heard known f old mid new learnt has = record {
  learnt = learnt_besides heard known old mid new learnt has.rest;
  secured =
      subst (λ (families : Families). IsSecured f families new.families) learnt.families has.secured;
}
