-- The least counts among the pairs are the counts themselves.
use Rattle.std.proofs.Common.{length, ap, sym, ◌∙◌}
use Rattle.cam_know.proofs.LeastCounts.{least_are_counts}
use Rattle.cam_know.proofs.oldest.Oldest.of.Goals as goal

pub returns : goal.returns
returns c = c.counts.ensures.value ∙ sym (least_are_counts c.args.deps.now (ap length (sym c.counts.ensures.value) ∙ c.counts.ensures.range.eight))
