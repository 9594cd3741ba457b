-- Operations in the order of their indices.
use Rattle.std.proofs.Common.{◌≡◌, ◌⊎◌, ℕ, ◌+◌, ◌≤◌, ◌<◌, eqb, nat_lt, Bool, true, false, cond, List, [], ◌∷◌, length, map, get_or, zero, suc, refl, sym, ap, subst, ◌∙◌, arith, All}
use Rattle.std.proofs.Math.Logic.{inl, inr}
use Rattle.std.specs.List.{IsDistinct, AllByRecursion}
use Rattle.std.specs.List.Sorted.{IsPermutation, IsNonDecreasingBy}
use Rattle.std.proofs.lemmas.List.Sorted.{IsPermutation-map, IsPermutation-sym, All-permutation}
use Rattle.std.proofs.lemmas.Map.Keys.{IsDistinct-cons, IsDistinct-tail, IsDistinct-IsPermutation, apart_from_distinct}
use Rattle.cam_locks.specs.declared.LiveOp.{LiveOp}
use Rattle.cam_locks.specs.Members.{In}
use Rattle.cam_locks.specs.Site.{IndicesRise}
use Rattle.cam_locks.specs.Holding.{has_op}
use Rattle.cam_locks.specs.Restored.{put_in_order, in_order, EachOnce}
use Rattle.cam_locks.proofs.Members.{above}
use Rattle.cam_locks.proofs.Bools.{or_parts, or_false, eqb_sym}

-- what is put in order is a member, with those that were
in_put : (o : LiveOp) (os : List LiveOp) (p : LiveOp) → In p (put_in_order o os) → (p ≡ o) ⊎ In p os
in_put o [] p h = h
in_put o (q ∷ os) p h = by_test (nat_lt q.index o.index) h (in_put o os p)
  where
    by_test : (b : Bool) → In p (cond b (q ∷ put_in_order o os) (o ∷ q ∷ os)) → (In p (put_in_order o os) → (p ≡ o) ⊎ In p os) → (p ≡ o) ⊎ ((p ≡ q) ⊎ In p os)
    by_test true (inl e) rest = inr (inl e)
    by_test true (inr k) rest = elim (rest k) [ inl e ↦ inl e | inr j ↦ inr (inr j) ]
    by_test false k rest = k

put_in : (o : LiveOp) (os : List LiveOp) (p : LiveOp) → (p ≡ o) ⊎ In p os → In p (put_in_order o os)
put_in o [] p h = h
put_in o (q ∷ os) p h = by_test (nat_lt q.index o.index) h (put_in o os p)
  where
    by_test : (b : Bool) → (p ≡ o) ⊎ ((p ≡ q) ⊎ In p os) → ((p ≡ o) ⊎ In p os → In p (put_in_order o os)) → In p (cond b (q ∷ put_in_order o os) (o ∷ q ∷ os))
    by_test true (inl e) rest = inr (rest (inl e))
    by_test true (inr (inl e)) rest = inl e
    by_test true (inr (inr k)) rest = inr (rest (inr k))
    by_test false k rest = k

-- what stands in order is of the list
pub in_ordered : (os : List LiveOp) (p : LiveOp) → In p (in_order os) → In p os
in_ordered [] p h = h
in_ordered (o ∷ os) p h = elim (in_put o (in_order os) p h) [ inl e ↦ inl e | inr k ↦ inr (in_ordered os p k) ]

-- and what is of the list stands in order
pub ordered_in : (os : List LiveOp) (p : LiveOp) → In p os → In p (in_order os)
ordered_in [] p h = h
ordered_in (o ∷ os) p (inl e) = put_in o (in_order os) p (inl e)
ordered_in (o ∷ os) p (inr k) = put_in o (in_order os) p (inr (ordered_in os p k))

-- an index that is absent stays so
put_has : (o : LiveOp) (os : List LiveOp) (i : ℕ) → eqb o.index i ≡ false → has_op os i ≡ false → has_op (put_in_order o os) i ≡ false
put_has o [] i h k = or_false (eqb o.index i) false h refl
put_has o (p ∷ os) i h k = by_test (nat_lt p.index o.index) (put_has o os i h)
  where
    parts : (eqb p.index i ≡ false) × (has_op os i ≡ false)
    parts = or_parts (eqb p.index i) (has_op os i) k

    by_test : (b : Bool) → (has_op os i ≡ false → has_op (put_in_order o os) i ≡ false) → has_op (cond b (p ∷ put_in_order o os) (o ∷ p ∷ os)) i ≡ false
    by_test true rest = or_false (eqb p.index i) (has_op (put_in_order o os) i) parts.0 (rest parts.1)
    by_test false rest = or_false (eqb o.index i) (has_op (p ∷ os) i) h k

absent_ordered : (os : List LiveOp) (i : ℕ) → has_op os i ≡ false → has_op (in_order os) i ≡ false
absent_ordered [] i h = refl
absent_ordered (o ∷ os) i h =
    let parts = or_parts (eqb o.index i) (has_op os i) h in
    put_has o (in_order os) i parts.0 (absent_ordered os i parts.1)

put_rises : (o : LiveOp) (os : List LiveOp) (low next : ℕ) → low ≤ o.index → o.index < next → has_op os o.index ≡ false
    → IndicesRise low os next → IndicesRise low (put_in_order o os) next
put_rises o [] low next from to absent rise = (from, to)
put_rises o (p ∷ os) low next from to absent rise = by_test (nat_lt p.index o.index) refl (put_rises o os (suc p.index) next)
  where
    by_test : (b : Bool) → nat_lt p.index o.index ≡ b
        → (suc p.index ≤ o.index → o.index < next → has_op os o.index ≡ false → IndicesRise (suc p.index) os next → IndicesRise (suc p.index) (put_in_order o os) next)
        → IndicesRise low (cond b (p ∷ put_in_order o os) (o ∷ p ∷ os)) next
    by_test true is rest = (rise.0, rest (grind arith) to (or_parts (eqb p.index o.index) (has_op os o.index) absent).1 rise.1)
    by_test false is rest =
        let apart = (or_parts (eqb p.index o.index) (has_op os o.index) absent).0 in
        let after : suc o.index ≤ p.index = grind (arith, apart, is) in
        (from, (after, rise.1))

-- where each index stands once and below the next one, the indices rise once they are in order
abbrev pub AllBelow : List LiveOp → ℕ → Type 0
AllBelow os next = (o : LiveOp) → In o os → o.index < next

-- put in order, indices of which each stands once rise
pub in_order_rises : (os : List LiveOp) (next : ℕ) → EachOnce os → AllBelow os next → IndicesRise 0 (in_order os) next
in_order_rises [] next once below = omega arith
in_order_rises (o ∷ os) next once below =
    put_rises o (in_order os) 0 next (omega arith) (below o (inl refl)) (absent_ordered os o.index once.0) (in_order_rises os next once.1 (λ p h. below p (inr h)))

-- two lists with the same members whose indices rise are the same
pub rise_same : (low lower : ℕ) (os ps : List LiveOp) (next later : ℕ) → IndicesRise low os next → IndicesRise lower ps later
    → ((o : LiveOp) → In o os → In o ps) → ((o : LiveOp) → In o ps → In o os) → os ≡ ps
rise_same low lower [] [] next later rise rise' there back = refl
rise_same low lower [] (p ∷ ps) next later rise rise' there back = absurd (back p (inl refl))
rise_same low lower (o ∷ os) [] next later rise rise' there back = absurd (there o (inl refl))
rise_same low lower (o ∷ os) (p ∷ ps) next later rise rise' there back =
    λ i. heads i ∷ rise_same (suc o.index) (suc p.index) os ps next later rise.1 rise'.1 further nearer i
  where
    heads : o ≡ p
    heads = elim (there o (inl refl)) [
      | inl e ↦ e
      | inr k ↦ elim (back p (inl refl)) [
        | inl e ↦ sym e
        | inr j ↦
            let one : suc p.index ≤ o.index = above (suc p.index) ps later o rise'.1 k in
            let other : suc o.index ≤ p.index = above (suc o.index) os next p rise.1 j in absurd (omega arith)
      ]
    ]

    further : (q : LiveOp) → In q os → In q ps
    further q h = elim (there q (inr h)) [
      | inl e ↦
          let after : suc o.index ≤ q.index = above (suc o.index) os next q rise.1 h in
          let same : q.index ≡ o.index = ap (λ (r : LiveOp). r.index) (e ∙ sym heads) in absurd (omega arith)
      | inr k ↦ k
    ]

    nearer : (q : LiveOp) → In q ps → In q os
    nearer q h = elim (back q (inr h)) [
      | inl e ↦
          let after : suc p.index ≤ q.index = above (suc p.index) ps later q rise'.1 h in
          let same : q.index ≡ p.index = ap (λ (r : LiveOp). r.index) (e ∙ heads) in absurd (omega arith)
      | inr k ↦ k
    ]

-- what a sort by the index leaves
get_map : (os : List LiveOp) (k : ℕ) (d : LiveOp) → get_or (map (λ (o : LiveOp). o.index) os) k d.index ≡ (get_or os k d).index
get_map [] k d = refl
get_map (o ∷ os) zero d = refl
get_map (o ∷ os) (suc k) d = get_map os k d

length_map : (os : List LiveOp) → length (map (λ (o : LiveOp). o.index) os) ≡ length os
length_map [] = refl
length_map (o ∷ os) = ap suc (length_map os)

rise_sorted : (low : ℕ) (os : List LiveOp) (next : ℕ) → low ≤ next → ((k : ℕ) (d : LiveOp) → k < length os → low ≤ (get_or os k d).index)
    → IsNonDecreasingBy (λ o. o.index) os → IsDistinct eqb (map (λ o. o.index) os) → AllBelow os next → IndicesRise low os next
rise_sorted low [] next le from sorted distinct below = le
rise_sorted low (o ∷ os) next le from sorted distinct below = (
  from 0 o (omega arith),
  rise_sorted (suc o.index) os next (below o (inl refl)) after (λ i j d ij lt. sorted (suc i) (suc j) d (omega arith) (omega arith))
      (IsDistinct-tail eqb o.index (map (λ (p : LiveOp). p.index) os) distinct) (λ p h. below p (inr h)),
)
  where
    after : (k : ℕ) (d : LiveOp) → k < length os → suc o.index ≤ (get_or os k d).index
    after k d lt =
        let le : o.index ≤ (get_or os k d).index = sorted 0 (suc k) d (omega arith) (omega arith) in
        let apart : eqb o.index (get_or os k d).index ≡ false =
        ap (eqb o.index) (sym (get_map os k d))
        ∙ apart_from_distinct eqb (map (λ (p : LiveOp). p.index) (o ∷ os)) 0 (suc k) d.index distinct (omega arith) (subst (λ (n : ℕ). suc k < suc n) (sym (length_map os)) (omega arith)) in
        grind (arith, le, apart)

in_got : (os : List LiveOp) (k : ℕ) (d : LiveOp) → k < length os → In (get_or os k d) os
in_got [] k d lt = absurd (omega arith)
in_got (o ∷ os) zero d lt = inl refl
in_got (o ∷ os) (suc k) d lt = inr (in_got os k d (omega arith))

got_in : (os : List LiveOp) (o : LiveOp) → In o os → (k : ℕ) × (k < length os) × (get_or os k o ≡ o)
got_in [] o h = absurd h
got_in (p ∷ os) o (inl e) = (0, omega arith, sym e)
got_in (p ∷ os) o (inr h) = let r = got_in os o h in let lt = r.1 in (suc r.0, omega (arith, lt), r.2)

moved : (os ps : List LiveOp) → IsPermutation os ps → (o : LiveOp) → In o ps → In o os
moved os ps perm o h =
    let all : All (λ (p : LiveOp). In p os) ps = All-permutation (λ (p : LiveOp). In p os) os ps perm (λ k d lt. in_got os k d lt) in
    let at = got_in ps o h in subst (λ (p : LiveOp). In p os) at.2 (all at.0 o at.1)

absent_apart : (os : List LiveOp) (i : ℕ) → has_op os i ≡ false → AllByRecursion (λ j. eqb i j ≡ false) (map (λ o. o.index) os)
absent_apart [] i h = tt
absent_apart (o ∷ os) i h =
    let parts = or_parts (eqb o.index i) (has_op os i) h in
    (eqb_sym i o.index ∙ parts.0, absent_apart os i parts.1)

once_distinct : (os : List LiveOp) → EachOnce os → IsDistinct eqb (map (λ o. o.index) os)
unfolding IsDistinct
once_distinct [] once = tt
once_distinct (o ∷ os) once = IsDistinct-cons eqb o.index (map (λ (p : LiveOp). p.index) os) (absent_apart os o.index once.0) (once_distinct os once.1)

bound : (os : List LiveOp) → (next : ℕ) × AllBelow os next
bound [] = (0, λ o h. absurd h)
bound (p ∷ os) =
    let rest = bound os in (
      rest.0 + suc p.index,
      λ o h. elim h [
        | inl e ↦ let same : o.index ≡ p.index = ap (λ (q : LiveOp). q.index) e in omega arith
        | inr k ↦ let lt : o.index < rest.0 = rest.1 o k in omega arith
      ],
    )

-- a list that is sorted by indices is the list put in order
pub sorted_in_order : (os ps : List LiveOp) → EachOnce os → IsPermutation os ps → IsNonDecreasingBy (λ o. o.index) ps → ps ≡ in_order os
sorted_in_order os ps once perm sorted =
    rise_same 0 0 ps (in_order os) (bound os).0 (bound os).0
    (rise_sorted 0 ps (bound os).0 (omega arith) (λ k d lt. omega arith) sorted
    (IsDistinct-IsPermutation eqb eqb_sym (map (λ o. o.index) os) (map (λ o. o.index) ps) (IsPermutation-map (λ (o : LiveOp). o.index) os ps perm) (once_distinct os once))
    (λ o h. (bound os).1 o (moved os ps perm o h)))
    (in_order_rises os (bound os).0 once (bound os).1)
    (λ o h. ordered_in os o (moved os ps perm o h))
    (λ o h. moved ps os (IsPermutation-sym os ps perm) o (in_ordered os o h))
