-- What a node's test takes, and nothing stands against, may be put to the node.
use Rattle.std.proofs.Common.{List, map, refl, ◌∙◌, subst}
use Rattle.cam_type.specs.declared.ObjectDecl.{ObjectDecl}
use Rattle.cam_know.specs.Known.{nothing}
use Rattle.cam_event.specs.ByDeltas.{as_carried}
use Rattle.cam_event.specs.ByKnowledge.{held_sight}
use Rattle.cam_event.specs.Runs.{IsWant}
use Rattle.cam_comman.specs.Letters.{load_on}
use Rattle.cam_tranman.proofs.Requests.{refusal_is_rule}
use Rattle.cam_tranman.proofs.Sights.{sight_is_answered}
use Rattle.cam_node.specs.declared.Input.{Input}
use Rattle.cam_node.specs.declared.Input.TheVariants as inputs
use Rattle.cam_node.specs.Calls.{mail_on}
use Rattle.cam_node.specs.Lawful.{IsLetter}
use Rattle.cam_node.specs.MayStep.{MayBePutNow, MayStep}
use Rattle.cam_node.specs.Represents.{Node}
use Rattle.cam_node.proofs.QueryRefused.{query_is_rule}

pub may_be_put_now : (node : Node) (input : Input) → MayStep node input → MayBePutNow node input
may_be_put_now node inputs.Begin may objects history through rep free = (refl, (refl, refl))
may_be_put_now node (inputs.Request r) may objects history through rep free = (
  may.0,
  refusal_is_rule objects (held_sight objects node.number (map as_carried history) nothing)
      node.actions r.action r.want
      (sight_is_answered objects node.number (map as_carried history) nothing node.actions rep.runs)
      may.0
      ∙ free,
  subst (λ (os : List ObjectDecl). IsWant os r.want) rep.serves.site.objects_are may.1,
  (refl, refl),
)
may_be_put_now node (inputs.Letter id letter) may objects history through rep free =
    subst (λ (os : List ObjectDecl). IsLetter os node.number (mail_on letter) (load_on letter))
    rep.serves.site.objects_are may.3
may_be_put_now node (inputs.Tell to) may objects history through rep free =
    (refl, may, free, (refl, refl))
may_be_put_now node (inputs.Query f) may objects history through rep free =
    (refl, query_is_rule objects node history f rep ∙ free, (refl, refl))
