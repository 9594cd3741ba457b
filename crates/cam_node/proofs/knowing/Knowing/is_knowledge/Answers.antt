-- What stands is knowledge.
use Rattle.std.proofs.Common.{subst}
use Rattle.cam_node.specs.Knowing.{KnowingView}
use Rattle.cam_node.specs.Opened.{IsKnowledge}
use Rattle.cam_node.proofs.StandingKnowledge.{standing_knowledge}
use Rattle.cam_node.proofs.knowing.Knowing.is_knowledge.Goals as goal

pub returns : goal.returns
returns c =
    subst (λ (v : KnowingView). IsKnowledge v.stands) c.self.view_is
    (standing_knowledge c.self.inside.mark c.self.inside.know c.outcomes-outcomes.result.now
    c.counts-counts.result c.self.invariant.marked
    c.outcomes-outcomes.ensures.value c.outcomes-outcomes.ensures.distinct
    c.counts-counts.ensures.value c.counts-counts.ensures.range)
