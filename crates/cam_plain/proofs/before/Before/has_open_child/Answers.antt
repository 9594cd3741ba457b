use Rattle.std.proofs.Common.{◌≤◌, eqb, not, length, ap, ◌∙◌, arith}
use Rattle.cam_plain.specs.declared.actions.Action.{Action}
use Rattle.cam_plain.specs.Legal.{history}
use Rattle.cam_plain.proofs.Children.{open_kept}
use Rattle.cam_plain.proofs.before.Before.has_open_child.Goals as goal

pub returns : goal.returns
returns c =
    let a = c.args.name.now in
    let named : 1 ≤ length a = omega (arith, c.depth.ensures.from, c.depth.ensures.value) in
    ap (λ (r : Action). not (eqb r.asks r.decisions)) c.action-action.ensures
    ∙ open_kept c.args.self.now.objects.now (history c.args.self.now.deeds.now) a named c.requires.legal
