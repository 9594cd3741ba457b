-- The home is one pair, by the last part of the name.
use Rattle.std.proofs.Common.{◌-◌, List, ℕ, [], ◌∷◌, set, sym, ap, subst, ◌∙◌}
use Rattle.cam_names.specs.Part.{PartFields}
use Rattle.cam_names.specs.Names.{last_part}
use Rattle.cam_names.specs.Dependencies.{pairs_of}
use Rattle.cam_know.specs.LeastCounts.{least_counts}
use Rattle.cam_orphan.specs.Stale.{Valid}
use Rattle.cam_orphan.proofs.Home.{one_pair, last_at}
use Rattle.cam_orphan.proofs.home_oldest.Goals as goal

pub returns-clause-value : goal.returns-clause-value
returns-clause-value c =
    let node = c.part.inside.node in
    let count = c.part.inside.count in
    c.of.ensures
    ∙ ap (λ (d : List ℕ). least_counts (pairs_of d)) (c.with.ensures.value ∙ ap (λ (d : List ℕ). set d (node - 1) count) c.none.ensures)
    ∙ ap least_counts (one_pair node count c.part.invariant.node_from c.part.invariant.node_to c.part.invariant.count_from)
    ∙ ap (λ (p : PartFields). least_counts ((p.node, p.count) ∷ []))
    (c.part.view_is ∙ c.index-parts-parts.is ∙ sym (last_at c.parts-parts.result.now c.index-parts-parts.result c.parts-parts.ensures.from) ∙ ap last_part c.parts-parts.ensures.value)

pub returns-clause-valid : goal.returns-clause-valid
returns-clause-valid c =
    subst (λ (p : PartFields). Valid ((p.node, p.count) ∷ []))
    (c.part.view_is ∙ c.index-parts-parts.is ∙ sym (last_at c.parts-parts.result.now c.index-parts-parts.result c.parts-parts.ensures.from) ∙ ap last_part c.parts-parts.ensures.value)
    ((c.part.invariant.node_from, c.part.invariant.count_from), tt)
