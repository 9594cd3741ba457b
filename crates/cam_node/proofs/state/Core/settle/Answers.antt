-- Counts are eight.
use Rattle.std.proofs.Common.{ap, subst, ◌∙◌}
use Rattle.cam_names.specs.Dependencies.{AreCounts}
use Rattle.cam_know.specs.Knowledge.{Knowledge}
use Rattle.cam_node.proofs.state.Core.settle.Goals as goal

pub returns-clause-counts : goal.returns-clause-counts
returns-clause-counts c = subst (AreCounts 1) (c.counts-counts.ensures.value ∙ ap (λ (k : Knowledge). k.counts) c.know-know.ensures) c.counts-counts.ensures.range
