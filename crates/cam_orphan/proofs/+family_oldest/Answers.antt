use Rattle.std.proofs.Common.{◌∙◌, ap₂, List, ℕ, refl}
use Rattle.cam_know.specs.LeastCounts.{lesser_counts}
use Rattle.cam_orphan.proofs.Family.{family_top, family_above}
use Rattle.cam_orphan.proofs.+family_oldest.Goals as goal

pub returns-in-None : goal.returns-in-None
returns-in-None t c = c.oldest-own.ensures ∙ family_top c.args.know.now c.args.name.now (c.in-None.ensures.top.0 refl)

pub returns-in-Some : goal.returns-in-Some
returns-in-Some t c =
    c.join.ensures ∙ ap₂ (λ (x y : List ℕ). lesser_counts x y) c.family_oldest.ensures c.oldest-own.ensures
    ∙ family_above c.args.know.now c.args.name.now c.in-Some.parent c.in-Some.ensures.value
