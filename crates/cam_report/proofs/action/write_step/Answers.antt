use Rattle.std.proofs.Common.{◌≡◌, ◌++◌, string_bytes, sym, subst}
use Rattle.cam_event.specs.declared.ViewStep.{ViewStep}
use Rattle.cam_report.specs.Words.{words}
use Rattle.cam_report.specs.Report.{step_words}
use Rattle.cam_report.proofs.action.write_step.Goals as goal

pub returns-in_ok-write_child-in-Child : goal.returns-in_ok-write_child-in-Child
returns-in_ok-write_child-in-Child c =
    subst (λ (s : ViewStep). string_bytes c.write_child.new.out ≡ string_bytes c.args.out.now ++ words (step_words c.args.labels.now s)) (sym c.in-Child.is)
    (c.in_ok-write_child-in-Child.ensures c.args.labels.now)
