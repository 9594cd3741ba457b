-- What is tested of an action is what is tested of its parent, and the commits of its own children.
use Rattle.std.proofs.Common.{◌≡◌, ℕ, ◌-◌, ◌<◌, List, [], ◌∷◌, ◌++◌, length, filter, Some, None, arith, sym, ap, ap₂, ◌∙◌}
use Rattle.std.specs.Prelude.{flat_map}
use Rattle.std.proofs.lemmas.List.{append-nil, get_or_past}
use Rattle.std.proofs.lemmas.Grind.{flat_map-append}
use Rattle.cam_names.specs.declared.name.Name.{Name}
use Rattle.cam_names.specs.Names.{ancestors, parent}
use Rattle.cam_know.specs.declared.Reason.TheVariants.{Abort}
use Rattle.cam_know.specs.Knowledge.{Knowledge}
use Rattle.cam_know.specs.Known.{known_count, aborted_by}
use Rattle.cam_know.specs.Orphans.{children_pairs, known_orphan, reason_of, least, is_stale}
use Rattle.cam_know.specs.LeastCounts.{least_counts, lesser_counts}
use Rattle.cam_know.proofs.LeastCounts.{least_counts_append, lesser_counts_length}
use Rattle.cam_know.proofs.Climbs.{ancestors_parent}
use Rattle.cam_orphan.specs.Stale.{Valid, first_stale}
use Rattle.cam_orphan.proofs.FirstStale.{least_is_first, valid_tested}

pub family_top : (k : Knowledge) (a : Name) → length a ≡ 1 → least_counts (children_pairs k a) ≡ least_counts (flat_map (children_pairs k) (ancestors a))
family_top k [] h = absurd (omega arith)
family_top k (p ∷ []) h = ap least_counts (sym (append-nil (children_pairs k (p ∷ []))))
family_top k (p ∷ q ∷ a) h = absurd (omega arith)

pub family_above : (k : Knowledge) (a p : Name) → Some p ≡ parent a →
    lesser_counts (least_counts (flat_map (children_pairs k) (ancestors p))) (least_counts (children_pairs k a)) ≡ least_counts (flat_map (children_pairs k) (ancestors a))
family_above k a p is =
    sym (least_counts_append (flat_map (children_pairs k) (ancestors p)) (children_pairs k a))
    ∙ ap least_counts
    (ap (λ ps. flat_map (children_pairs k) (ancestors p) ++ ps) (sym (append-nil (children_pairs k a)))
    ∙ sym (flat_map-append (children_pairs k) (ancestors p) (a ∷ []))
    ∙ ap (flat_map (children_pairs k)) (sym (ancestors_parent a p is)))

-- The rule by the least counts is the rule.
pub rule_by_least : (k : Knowledge) (a : Name) (pairs : List (ℕ × ℕ)) (oldest : List ℕ) → length k.counts ≡ 8 → Valid pairs → None ≡ aborted_by k a →
    oldest ≡ least_counts (pairs ++ flat_map (children_pairs k) (ancestors a)) →
    reason_of (known_count k) None (first_stale (known_count k) 1 oldest) ≡ known_orphan k a pairs
rule_by_least k a pairs oldest eight valid none is =
    ap (λ cs. reason_of (known_count k) None (first_stale (known_count k) 1 cs)) is
    ∙ ap (reason_of (known_count k) None)
    (sym (least_is_first (known_count k) (pairs ++ flat_map (children_pairs k) (ancestors a)) (valid_tested k pairs (ancestors a) valid) past))
    ∙ ap (λ u. reason_of (known_count k) u (least (filter (is_stale (known_count k)) (pairs ++ flat_map (children_pairs k) (ancestors a))))) none
  where
    past : (n : ℕ) → 8 < n → known_count k n ≡ 0
    past n h = get_or_past k.counts (n - 1) 0 (omega arith)

pub rule_by_abort : (k : Knowledge) (a : Name) (pairs : List (ℕ × ℕ)) (u : Name) → Some u ≡ aborted_by k a → Some (Abort u) ≡ known_orphan k a pairs
rule_by_abort k a pairs u is =
    ap (λ x. reason_of (known_count k) x (least (filter (is_stale (known_count k)) (pairs ++ flat_map (children_pairs k) (ancestors a))))) is

-- the least counts of pairs of two kinds
pub together : (ps qs : List (ℕ × ℕ)) (one other both : List ℕ) → one ≡ least_counts ps → other ≡ least_counts qs → both ≡ lesser_counts one other → both ≡ least_counts (ps ++ qs)
together ps qs one other both h1 h2 h3 = h3 ∙ ap₂ (λ (x y : List ℕ). lesser_counts x y) h1 h2 ∙ sym (least_counts_append ps qs)

pub together_eight : (qs : List (ℕ × ℕ)) (one other both : List ℕ) → length one ≡ 8 → other ≡ least_counts qs → both ≡ lesser_counts one other → length both ≡ 8
together_eight qs one other both eight h2 h3 =
    ap length h3 ∙ lesser_counts_length one other (eight ∙ sym (ap length h2)) ∙ eight
