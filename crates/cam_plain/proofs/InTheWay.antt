-- Where a lift is not in the way of an action, each ancestor that is none of its own was committed.
use Rattle.std.proofs.Common.{◌≡◌, Bool, true, false, List, [], ◌∷◌, Some, None, refl, sym, ap, ◌∙◌, cond, not, Option, reverse, find}
use Rattle.std.proofs.lemmas.Bool.{and_from, true≢false, not-false}
use Rattle.std.proofs.lemmas.List.{reverse-append}
use Rattle.std.proofs.lemmas.List.Folds.{find-append}
use Rattle.std.specs.Option.{option_or}
use Rattle.cam_names.proofs.Names.{part_eq_refl, ancestors_any}
use Rattle.cam_names.specs.Names.{is_prefix, is_ancestor, ancestors}
use Rattle.cam_names.specs.Part.{PartFields, part_eq}
use Rattle.cam_know.specs.Known.{lift_by}
use Rattle.cam_event.specs.Live.{is_in_the_way}
use Rattle.cam_names.proofs.Ancestry.{is_ancestor_trans}
use Rattle.cam_names.proofs.Any.{any_every, found_of}
use Rattle.cam_names.proofs.Every.{Every, Pairs, every_any, pairs_weaker, every_map, pairs_map, every_reverse}

-- ancestors stand in a list each before those that it is an ancestor of
ancestors_chain : (a : List PartFields) → Pairs (λ u v. is_ancestor u v ≡ true) (ancestors a)
ancestors_chain [] = tt
ancestors_chain (p ∷ a) = (
  every_map (λ v. is_ancestor (p ∷ []) v ≡ true) (λ u. p ∷ u) (ancestors a) (every_any (λ u. is_ancestor (p ∷ []) (p ∷ u) ≡ true) (ancestors a) (λ u. and_from (part_eq p p) true (part_eq_refl p) refl)),
  pairs_map (λ u v. is_ancestor u v ≡ true) (λ u. p ∷ u) (ancestors a) (pairs_weaker (λ u v. is_ancestor u v ≡ true) (λ u v. is_ancestor (p ∷ u) (p ∷ v) ≡ true) (ancestors a) longer (ancestors_chain a)),
)
  where
    longer : (u v : List PartFields) → is_ancestor u v ≡ true → is_ancestor (p ∷ u) (p ∷ v) ≡ true
    longer [] v h = cc
    longer (q ∷ u) v h = and_from (part_eq p p) (is_prefix (q ∷ u) v) (part_eq_refl p) h

-- A lift that is not in the way: each ancestor that is none of the other's has committed.
climbed : (c : List PartFields → Bool) (b : List PartFields) (us : List (List PartFields)) → Pairs (λ u v. is_ancestor u v ≡ true) us → is_in_the_way b (find (λ u. not (c u)) (reverse us)) ≡ false → Every (λ u. is_ancestor u b ≡ false → c u ≡ true) us
climbed c b [] chain h = tt
climbed c b (u ∷ us) chain h =
    let split : is_in_the_way b (option_or (find (λ v. not (c v)) (reverse us)) (find (λ v. not (c v)) (u ∷ []))) ≡ false =
    sym (ap (is_in_the_way b) (ap (find (λ v. not (c v))) (reverse-append (u ∷ []) us) ∙ find-append (λ v. not (c v)) (reverse us) (u ∷ []))) ∙ h in
    by (find (λ v. not (c v)) (reverse us)) refl split (λ free. climbed c b us chain.1 free)
  where
    here : (t : Bool) → c u ≡ t → is_in_the_way b (cond (not t) (Some u) None) ≡ false → is_ancestor u b ≡ false → c u ≡ true
    here true e free n = e
    here false e free n = absurd (true≢false (sym (not-false (is_ancestor u b) free) ∙ n))

    by : (o : Option (List PartFields)) → find (λ v. not (c v)) (reverse us) ≡ o → is_in_the_way b (option_or o (find (λ v. not (c v)) (u ∷ []))) ≡ false → (is_in_the_way b (find (λ v. not (c v)) (reverse us)) ≡ false → Every (λ v. is_ancestor v b ≡ false → c v ≡ true) us) → Every (λ v. is_ancestor v b ≡ false → c v ≡ true) (u ∷ us)
    by None e free rest = (here (c u) refl free, rest (ap (is_in_the_way b) e))
    by (Some w) e free rest =
        let above : is_ancestor u w ≡ true = found_of (λ v. is_ancestor u v ≡ true) (λ v. not (c v)) (reverse us) w (every_reverse (λ v. is_ancestor u v ≡ true) us chain.0) e in
        let below : is_ancestor w b ≡ true = not-false (is_ancestor w b) free in (
          λ n. absurd (true≢false (sym (is_ancestor_trans u w b above below) ∙ n)),
          rest (ap (is_in_the_way b) e ∙ free),
        )

-- where a lift is not in the way of an action, each ancestor that is none of its own was committed
pub not_in_the_way : (c : List PartFields → Bool) (a b : List PartFields) → is_in_the_way b (lift_by c a) ≡ false → (u : List PartFields) → is_ancestor u a ≡ true → is_ancestor u b ≡ false → c u ≡ true
not_in_the_way c a b h u above n = any_every (ancestors a) (λ v. is_ancestor v b ≡ false → c v ≡ true) u (climbed c b (ancestors a) (ancestors_chain a) h) (ancestors_any u a ∙ above) n
