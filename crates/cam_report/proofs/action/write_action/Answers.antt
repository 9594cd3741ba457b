use Rattle.std.proofs.Common.{◌≡◌, ◌≤◌, length, arith, ◌∙◌}
use Rattle.std.proofs.lemmas.Grind.{common_steps}
use Rattle.cam_event.specs.Views.{view}
use Rattle.cam_report.specs.Report.{state_of}
use Rattle.cam_report.proofs.action.write_action.Goals as goal

pub returns : goal.returns
returns c = λ L g.
    let named : 1 ≤ length c.args.action.now = omega arith in
    let state : c.state.result ≡ state_of L c.args.action.now = c.state.ensures L g in
    let steps : c.view.result.now ≡ view L c.args.action.now = c.view.ensures ∙ g.views c.args.action.now named in
    grind (arith, common_steps, state, steps)
