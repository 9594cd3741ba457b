-- Two lists that are in order, and in which the same elements tie with each one, are the same.
use Rattle.std.proofs.Common.{◌≡◌, ℕ, suc, ◌+◌, Bool, true, false, not, ◌&&◌, cond, List, [], ◌∷◌, length, get_or, drop, filter, arith, sym, ap, subst, ◌∙◌, refl}
use Rattle.std.specs.Cmp.{IsStrictWeakOrder}
use Rattle.std.specs.List.{AllByRecursion}
use Rattle.std.specs.List.Sorted.{IsSortedBy, ties}
use Rattle.std.proofs.lemmas.Bool.{and_parts, true≢false}
use Rattle.std.proofs.lemmas.List.Elements.{recursion_from_All}
use Rattle.std.proofs.lemmas.List.Sorted.{sorted_far}

no_not : (b : Bool) → not b ≡ true → b ≡ false
no_not true h = sym h
no_not false h = refl

module _ {X : Type 0} (lt : X → X → Bool) (o : IsStrictWeakOrder lt) where
  -- no element is below x
  abbrev pub AllFrom : X → List X → Type 0
  AllFrom x xs = AllByRecursion (λ y. lt y x ≡ false) xs

  -- no element is below one in front of it
  abbrev pub Rises : List X → Type 0
  Rises [] = Unit {0}
  Rises (x ∷ xs) = AllFrom x xs × Rises xs

  abbrev tied : X → List X → List X
  tied x xs = filter (ties lt x) xs

  pub not_below_itself : (x : X) → lt x x ≡ false
  not_below_itself x = by (lt x x) refl
    where
      by : (b : Bool) → lt x x ≡ b → b ≡ false
      by true h = sym h ∙ o.one_way x x h
      by false h = refl

  ties_itself : (x : X) → ties lt x x ≡ true
  ties_itself x = λ i. not (not_below_itself x i) && not (not_below_itself x i)

  first_kept : (x : X) (xs : List X) → tied x (x ∷ xs) ≡ x ∷ tied x xs
  first_kept x xs = ap (λ b. cond b (x ∷ tied x xs) (tied x xs)) (ties_itself x)

  -- nothing ties with what is below it
  none_tied : (x y : X) (zs : List X) → lt x y ≡ true → AllFrom y zs → tied x zs ≡ []
  none_tied x y [] less from = refl
  none_tied x y (z ∷ zs) less from = by (ties lt x z) refl (none_tied x y zs less from.1)
    where
      by : (b : Bool) → ties lt x z ≡ b → tied x zs ≡ [] → cond b (z ∷ tied x zs) (tied x zs) ≡ []
      by true tie rest = absurd (true≢false (sym less ∙ o.chain x z y (no_not (lt x z) (and_parts (not (lt x z)) (not (lt z x)) tie).0) from.0))
      by false apart rest = rest

  -- so a list from y on has not the elements of one that begins with something less
  not_same : (x y : X) (xs ys : List X) → lt x y ≡ true → AllFrom y ys → tied x (x ∷ xs) ≡ tied x (y ∷ ys) → ⊥
  not_same x y xs ys less from same =
      let none : tied x (y ∷ ys) ≡ [] = none_tied x y (y ∷ ys) less (not_below_itself y, from) in
      let long : suc (length (tied x xs)) ≡ 0 = ap length (sym (first_kept x xs) ∙ same ∙ none) in
      absurd (omega arith)

  -- both begin with the same
  heads : (x y : X) (xs ys : List X) → AllFrom x xs → AllFrom y ys → ((w : X) → tied w (x ∷ xs) ≡ tied w (y ∷ ys)) → x ≡ y
  heads x y xs ys from above same = by (lt x y) (lt y x) refl refl
    where
      by : (b c : Bool) → lt x y ≡ b → lt y x ≡ c → x ≡ y
      by true c h k = absurd (not_same x y xs ys h above (same x))
      by false true h k = absurd (not_same y x ys xs k from (sym (same y)))
      by false false h k =
          let tie : ties lt x y ≡ true = λ i. not (h i) && not (k i) in
          ap (λ (zs : List X). get_or zs 0 x) (sym (first_kept x xs) ∙ same x ∙ ap (λ b. cond b (y ∷ tied x ys) (tied x ys)) tie)

  rest_same : (w x : X) (xs ys : List X) → tied w (x ∷ xs) ≡ tied w (x ∷ ys) → tied w xs ≡ tied w ys
  rest_same w x xs ys = by (ties lt w x)
    where
      by : (b : Bool) → cond b (x ∷ tied w xs) (tied w xs) ≡ cond b (x ∷ tied w ys) (tied w ys) → tied w xs ≡ tied w ys
      by true h = ap (drop 1) h
      by false h = h

  pub risen_same : (xs ys : List X) → Rises xs → Rises ys → ((w : X) → tied w xs ≡ tied w ys) → xs ≡ ys
  risen_same [] [] r s same = refl
  risen_same [] (y ∷ ys) r s same =
      let long : 0 ≡ suc (length (tied y ys)) = ap length (same y ∙ first_kept y ys) in
      absurd (omega arith)
  risen_same (x ∷ xs) [] r s same =
      let long : suc (length (tied x xs)) ≡ 0 = ap length (sym (first_kept x xs) ∙ same x) in
      absurd (omega arith)
  risen_same (x ∷ xs) (y ∷ ys) r s same =
      let head : x ≡ y = heads x y xs ys r.0 s.0 same in
      let rest : xs ≡ ys = risen_same xs ys r.1 s.1 (λ w. rest_same w x xs ys (same w ∙ ap (λ z. tied w (z ∷ ys)) (sym head))) in
      λ i. head i ∷ rest i

  -- what a sort leaves is in order
  sorted_rest : (x : X) (xs : List X) → IsSortedBy lt (x ∷ xs) → IsSortedBy lt xs
  sorted_rest x xs up = λ k d low high.
      let next : suc k + 1 ≡ suc (k + 1) = omega arith in
      subst (λ (n : ℕ). lt (get_or (x ∷ xs) n d) (get_or xs k d) ≡ false) next (up (suc k) d (omega arith) (omega arith))

  pub sorted_rises : (xs : List X) → IsSortedBy lt xs → Rises xs
  sorted_rises [] up = tt
  sorted_rises (x ∷ xs) up = (
    recursion_from_All (λ y. lt y x ≡ false) xs (λ k d below. sorted_far lt o (x ∷ xs) up 0 (suc k) d (omega arith) (omega arith)),
    sorted_rises xs (sorted_rest x xs up),
  )
