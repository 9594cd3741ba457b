-- An orphan stays one where more is known.
use Rattle.std.proofs.Common.{inl, inr, ◌≡◌, ℕ, ◌<◌, Bool, true, ◌||◌, List, [], ◌∷◌, ◌++◌, filter, Option, Some, None, is_some, arith, sym, ap, ap₂, ◌∙◌, refl}
use Rattle.std.specs.Prelude.{find, flat_map}
use Rattle.std.specs.List.{list_any}
use Rattle.std.proofs.lemmas.List.Folds.{list_any-append}
use Rattle.std.proofs.lemmas.Bool.{cases_Bool, or_cases, or_left, or_right, ltb-true, lt-ltb}
use Rattle.cam_names.specs.declared.name.Name.{Name}
use Rattle.cam_names.specs.Names.{ancestors}
use Rattle.cam_know.specs.Knowledge.{Knowledge}
use Rattle.cam_know.specs.Known.{knows_abort, is_abort_of, known_count, aborted_by}
use Rattle.cam_know.specs.Orphans.{least, is_stale, reason_of, commit_pairs, children_pairs, known_orphan}
use Rattle.cam_know.specs.Laws.{KnowsAtLeast, OrphanStays}
use Rattle.cam_know.proofs.OrphanBySet.{any_within}

some_found : (p : Name → Bool) (us : List Name) → is_some (find p us) ≡ list_any p us
some_found p [] = refl
some_found p (u ∷ us) = elim (cases_Bool (p u)) [ inl t ↦ rw t refl | inr f ↦ rw f (some_found p us) ]

some_least : (s : ℕ × ℕ → Bool) (ps : List (ℕ × ℕ)) → is_some (least (filter s ps)) ≡ list_any s ps
some_least s [] = refl
some_least s (p ∷ ps) = elim (cases_Bool (s p)) [ inl t ↦ rw t refl | inr f ↦ rw f (some_least s ps) ]

some_reason : (counts : ℕ → ℕ) (u : Option Name) (p : Option (ℕ × ℕ)) → is_some (reason_of counts u p) ≡ (is_some u || is_some p)
some_reason counts (Some u) p = refl
some_reason counts None (Some p) = refl
some_reason counts None None = refl

-- the pairs that are tested
abbrev tested : Knowledge → Name → List (ℕ × ℕ) → List (ℕ × ℕ)
tested k a visited = visited ++ flat_map (children_pairs k) (ancestors a)

is_orphan : (k : Knowledge) (a : Name) (visited : List (ℕ × ℕ)) →
    is_some (known_orphan k a visited) ≡ (list_any (knows_abort k) (ancestors a) || list_any (is_stale (known_count k)) (tested k a visited))
is_orphan k a visited =
    some_reason (known_count k) (aborted_by k a) (least (filter (is_stale (known_count k)) (tested k a visited)))
    ∙ ap₂ (λ (x y : Bool). x || y) (some_found (knows_abort k) (ancestors a)) (some_least (is_stale (known_count k)) (tested k a visited))

any_more : {X : Type 0} (p q : X → Bool) (xs : List X) → ((x : X) → p x ≡ true → q x ≡ true) → list_any p xs ≡ true → list_any q xs ≡ true
any_more p q [] h t = t
any_more p q (x ∷ xs) h t =
    elim (or_cases (p x) (list_any p xs) t) [
      | inl here ↦ or_left (q x) (list_any q xs) (h x here)
      | inr later ↦ or_right (q x) (list_any q xs) (any_more p q xs h later)
    ]

any_flat : {X Y : Type 0} (s : Y → Bool) (f : X → List Y) (xs : List X) → list_any s (flat_map f xs) ≡ list_any (λ x. list_any s (f x)) xs
any_flat s f [] = refl
any_flat s f (x ∷ xs) = list_any-append s (f x) (flat_map f xs) ∙ ap (λ t. list_any s (f x) || t) (any_flat s f xs)

stale_more : (more less : Knowledge) → KnowsAtLeast more less → (p : ℕ × ℕ) → is_stale (known_count less) p ≡ true → is_stale (known_count more) p ≡ true
stale_more more less at_least p h = let below : p.1 < known_count less p.0 = ltb-true p.1 (known_count less p.0) h in lt-ltb p.1 (known_count more p.0) (omega (arith, at_least.counts p.0))

children_more : (more less : Knowledge) → KnowsAtLeast more less → (u : Name) → list_any (is_stale (known_count less)) (children_pairs less u) ≡ true → list_any (is_stale (known_count more)) (children_pairs more u) ≡ true
children_more more less at_least u h =
    any_flat (is_stale (known_count more)) (commit_pairs u) more.outcomes
    ∙ any_within (λ o. list_any (is_stale (known_count more)) (commit_pairs u o)) less.outcomes more.outcomes at_least.outcomes
    (any_more (λ o. list_any (is_stale (known_count less)) (commit_pairs u o)) (λ o. list_any (is_stale (known_count more)) (commit_pairs u o)) less.outcomes
    (λ o. any_more (is_stale (known_count less)) (is_stale (known_count more)) (commit_pairs u o) (stale_more more less at_least))
    (sym (any_flat (is_stale (known_count less)) (commit_pairs u) less.outcomes) ∙ h))

tested_more : (more less : Knowledge) → KnowsAtLeast more less → (a : Name) (visited : List (ℕ × ℕ)) →
    list_any (is_stale (known_count less)) (tested less a visited) ≡ true → list_any (is_stale (known_count more)) (tested more a visited) ≡ true
tested_more more less at_least a visited h =
    let s = is_stale (known_count less) in
    let t = is_stale (known_count more) in
    let from = flat_map (children_pairs less) (ancestors a) in
    let to = flat_map (children_pairs more) (ancestors a) in
    list_any-append t visited to ∙
    elim (or_cases (list_any s visited) (list_any s from) (sym (list_any-append s visited from) ∙ h)) [
      | inl own ↦ or_left (list_any t visited) (list_any t to) (any_more s t visited (stale_more more less at_least) own)
      | inr child ↦ or_right (list_any t visited) (list_any t to)
          (any_flat t (children_pairs more) (ancestors a)
          ∙ any_more (λ u. list_any s (children_pairs less u)) (λ u. list_any t (children_pairs more u)) (ancestors a) (children_more more less at_least)
          (sym (any_flat s (children_pairs less) (ancestors a)) ∙ child))
    ]

pub orphan_stays : OrphanStays
orphan_stays more less at_least a visited h =
    is_orphan more a visited ∙
    elim (or_cases (list_any (knows_abort less) (ancestors a)) (list_any (is_stale (known_count less)) (tested less a visited)) (sym (is_orphan less a visited) ∙ h)) [
      | inl aborted ↦ or_left (list_any (knows_abort more) (ancestors a)) _
          (any_more (knows_abort less) (knows_abort more) (ancestors a) (λ u. any_within (is_abort_of u) less.outcomes more.outcomes at_least.outcomes) aborted)
      | inr stale ↦ or_right (list_any (knows_abort more) (ancestors a)) _ (tested_more more less at_least a visited stale)
    ]
