-- An outcome is a commit or an abort.
use Rattle.std.proofs.Common.{ap, ◌∙◌}
use Rattle.std.specs.List.{list_any}
use Rattle.cam_node.specs.Knowing.{KnowingView, is_outcome_of}
use Rattle.cam_node.proofs.StandingOutcomes.{committed_is, aborted_is}
use Rattle.cam_node.proofs.knowing.Knowing.knows.Goals as goal

pub returns-then-is_committed : goal.returns-then-is_committed
returns-then-is_committed c =
    committed_is c.args.name.now c.self.inside.know c.is_committed.result c.is_committed.ensures
    c.if-is_committed.true
    ∙ ap (λ (v : KnowingView). list_any (is_outcome_of c.args.name.now) v.known.outcomes) c.self.view_is

pub returns-else-is_committed : goal.returns-else-is_committed
returns-else-is_committed c =
    aborted_is c.args.name.now c.self.inside.know c.is_aborted.result c.is_committed.result
    c.is_aborted.ensures c.is_committed.ensures c.if-is_committed.false
    ∙ ap (λ (v : KnowingView). list_any (is_outcome_of c.args.name.now) v.known.outcomes) c.self.view_is
