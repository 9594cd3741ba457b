use Rattle.std.proofs.Common.{◌++◌, string_bytes, ap, ◌∙◌}
use Rattle.cam_report.specs.declared.action.ActionState.{ActionState}
use Rattle.cam_explain.specs.Moments.{told_in}
use Rattle.cam_explain.specs.Stories.{stated_text}
use Rattle.cam_explain.proofs.actions.write_action.Goals as goal

pub returns : goal.returns
returns c = λ L gathered.
    c.in_ok-write_stated.ensures
    ∙ ap (λ (s : ActionState). string_bytes c.args.out.now ++ stated_text c.args.script.now c.args.scope.now (told_in c.args.course.now) c.args.action.now s)
    (c.state-state.ensures L gathered)
