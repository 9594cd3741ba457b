use Rattle.std.proofs.Common.{ap, sym, ◌∙◌}
use Rattle.cam_event.specs.declared.Deed.{Deed}
use Rattle.cam_event.specs.Views.{step_of}
use Rattle.cam_cut.specs.Witness.{is_some_step}
use Rattle.cam_cut.proofs.Watching.{commit_step}
use Rattle.cam_cut.proofs.watch.Watch.gives_step.Goals as goal

pub returns-in-Commit : goal.returns-in-Commit
returns-in-Commit c = λ L a has.
    c.contains.ensures ∙ commit_step L a c.in-Commit.action c.args.self.now has ∙ ap (λ (d : Deed). is_some_step (step_of L d a)) (sym c.in-Commit.is)
