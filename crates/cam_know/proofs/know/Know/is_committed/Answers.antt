use Rattle.std.proofs.Common.{ap, ◌∙◌}
use Rattle.cam_know.specs.Known.{knows_commit}
use Rattle.cam_know.proofs.know.Know.is_committed.Goals as goal

pub returns : goal.returns
returns c =
    ap (λ e. e.committed) c.entry.ensures ∙ c.self.invariant.indexed.committed c.args.name.now
    ∙ ap (λ k. knows_commit k c.args.name.now) c.self.view_is
