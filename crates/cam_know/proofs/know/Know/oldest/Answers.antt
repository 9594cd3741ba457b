use Rattle.std.proofs.Common.{◌≤◌, length, arith, ap, ◌∙◌}
use Rattle.cam_know.specs.Orphans.{children_pairs}
use Rattle.cam_know.specs.LeastCounts.{least_counts}
use Rattle.cam_know.proofs.know.Know.oldest.Goals as goal

pub returns : goal.returns
returns c =
    let named : 1 ≤ length c.args.name.now = omega (arith, c.depth.ensures.from, c.depth.ensures.value) in
    ap (λ e. e.oldest) c.entry.ensures
    ∙ c.self.invariant.indexed.oldest c.args.name.now named
    ∙ ap (λ k. least_counts (children_pairs k c.args.name.now)) c.self.view_is
