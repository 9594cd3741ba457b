use Rattle.std.proofs.Common.{ap, ◌∙◌}
use Rattle.cam_know.specs.Known.{knows_abort}
use Rattle.cam_know.proofs.know.Know.is_aborted.Goals as goal

pub returns : goal.returns
returns c =
    ap (λ e. e.aborted) c.entry.ensures ∙ c.self.invariant.indexed.aborted c.args.name.now
    ∙ ap (λ k. knows_abort k c.args.name.now) c.self.view_is
