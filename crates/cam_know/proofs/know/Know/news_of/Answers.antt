use Rattle.std.proofs.Common.{List, ℕ, ap, sym, subst, ◌∙◌}
use Rattle.cam_names.specs.Dependencies.{AreCounts, greater_counts}
use Rattle.cam_know.specs.Knowledge.{Knowledge}
use Rattle.cam_know.specs.Known.{unknown}
use Rattle.cam_know.specs.Order.{in_order, told_in_order}
use Rattle.cam_know.specs.Invariant.{NoTwice}
use Rattle.cam_know.proofs.Distinct.{distinct_behind, greater_counted}
use Rattle.cam_know.proofs.InOrder.{distinct_ordered}
use Rattle.cam_know.proofs.News.{is_news}
use Rattle.cam_know.proofs.know.Know.news_of.Goals as goal

pub of-requires-clause-distinct : goal.of-requires-clause-distinct
of-requires-clause-distinct c =
    distinct_behind c.args.self.now.outcomes c.in_ok-fresh.fresh
    (c.in_ok-fresh.ensures.distinct
    (subst NoTwice (sym (c.as_slice-2.ensures ∙ c.in_ok-told_in_order.ensures))
    (distinct_ordered c.as_slice.result.now (subst NoTwice (sym c.as_slice.ensures.value) c.told.invariant.distinct))))

pub of-requires-clause-counts : goal.of-requires-clause-counts
of-requires-clause-counts c =
    subst (λ (cs : List ℕ). AreCounts 1 cs) (sym c.greater.ensures)
    (greater_counted c.self.inside.counts c.told.inside.counts c.self.invariant.counted c.told.invariant.counted)

pub returns : goal.returns
returns c =
    is_news c.of.result c.args.self.now (told_in_order c.args.told.now) c.in_ok-fresh.fresh c.greater.result
    (c.in_ok-fresh.ensures.value ∙ ap (unknown c.args.self.now) (c.as_slice-2.ensures ∙ c.in_ok-told_in_order.ensures ∙ ap in_order (c.as_slice.ensures.value ∙ ap (λ (k : Knowledge). k.outcomes) c.told.view_is)))
    (c.greater.ensures ∙ (λ i. greater_counts (c.self.view_is i).counts (c.told.view_is i).counts)) c.of.ensures
