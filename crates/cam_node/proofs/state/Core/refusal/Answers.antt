-- What stands against a request is what the actions answer.
use Rattle.std.proofs.Common.{map, sym, ◌∙◌}
use Rattle.cam_know.specs.Known.{nothing}
use Rattle.cam_event.specs.ByKnowledge.{held_sight}
use Rattle.cam_event.specs.ByDeltas.{as_carried}
use Rattle.cam_tranman.specs.Tables as tranman
use Rattle.cam_tranman.proofs.Sights.{sight_is_answered}
use Rattle.cam_tranman.proofs.Requests.{refusal_is_rule}
use Rattle.cam_node.proofs.state.Core.refusal.Goals as goal

pub returns-clause-rule : goal.returns-clause-rule
returns-clause-rule c = λ objects history through rep home.
    c.refusal.ensures
    ∙ sym (refusal_is_rule objects (held_sight objects c.args.self.now.number (map as_carried history) nothing) (tranman.answers c.args.self.now.actions)
    c.args.request.now.action c.args.request.now.want
    (sight_is_answered objects c.args.self.now.number (map as_carried history) nothing (tranman.answers c.args.self.now.actions) rep.runs) home)
