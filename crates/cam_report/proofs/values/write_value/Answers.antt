use Rattle.std.proofs.Common.{◌≡◌, arith, ap, ◌∙◌}
use Rattle.std.proofs.lemmas.Grind.{common_steps}
use Rattle.cam_report.specs.Words.{state_text}
use Rattle.cam_event.specs.Settled.{settled}
use Rattle.cam_live.proofs.Settling.{settled_state}
use Rattle.cam_report.proofs.values.write_value.Goals as goal

pub returns : goal.returns
returns c = λ L operations.
    let state : state_text c.in_ok-state.state ≡ state_text (settled c.args.script.now.objects L c.args.object) =
    ap state_text (c.in_ok-state.ensures ∙ settled_state c.args.script.now.objects L c.args.object c.args.operations.now operations)
    in
    grind (arith, common_steps, state)
