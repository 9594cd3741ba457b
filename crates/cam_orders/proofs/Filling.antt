-- Each beginning can be filled up to an order, so there are at least as many orders as beginnings.
use Rattle.std.proofs.Common.{◌≡◌, ◌<◌, ◌+◌, ◌-◌, ℕ, zero, suc, List, [], ◌∷◌, ◌++◌, length, get_or, map, replicate, take, refl, sym, ap, ◌∙◌, subst, inl, inr, arith}
use Rattle.std.proofs.lemmas.List.{length-map, take_at}
use Rattle.cam_orders.specs.Orders.{times, beginnings, AllDiffer, AreOrders, IsOneOf, IsOrder}
use Rattle.cam_orders.proofs.Counting.{one_other, one_same, times_append, Fits}
use Rattle.cam_orders.proofs.Levels.{begun_differ, begun_fits, FitsIn}

same_again : (m family other : ℕ) → other ≡ family → times family (replicate m other) ≡ m
same_again zero family other e = refl
same_again (suc m) family other e = omega (arith, same_again m family other e, one_same other family e)

other_again : (m family other : ℕ) → (other ≡ family → ⊥) → times family (replicate m other) ≡ 0
other_again zero family other d = refl
other_again (suc m) family other d = omega (arith, other_again m family other d, one_other other family d)

-- the lines that a beginning leaves, family by family from k on
rest_from : ℕ → List ℕ → List ℕ → List ℕ
rest_from k [] begun = []
rest_from k (count ∷ counts) begun = replicate (count - times k begun) k ++ rest_from (k + 1) counts begun

rest_below : (k : ℕ) (counts begun : List ℕ) (family : ℕ) → family < k → times family (rest_from k counts begun) ≡ 0
unfolding rest_from
rest_below k [] begun family h = refl
rest_below k (count ∷ counts) begun family h =
    omega (
      arith,
      times_append family (replicate (count - times k begun) k) (rest_from (k + 1) counts begun),
      other_again (count - times k begun) family k (λ e. omega (arith, e, h)),
      rest_below (k + 1) counts begun family (omega (arith, h)),
    )

rest_at : (k : ℕ) (counts begun : List ℕ) (family place : ℕ) → family ≡ k + place
    → times family (rest_from k counts begun) ≡ get_or counts place 0 - times family begun
unfolding rest_from
rest_at k [] begun family place e = omega arith
rest_at k (count ∷ counts) begun family zero e =
    let same : k ≡ family = omega (arith, e) in
    omega (
      arith,
      times_append family (replicate (count - times k begun) k) (rest_from (k + 1) counts begun),
      same_again (count - times k begun) family k same,
      ap (λ f. times f begun) same,
      rest_below (k + 1) counts begun family (omega (arith, e)),
    )
rest_at k (count ∷ counts) begun family (suc place) e =
    omega (
      arith,
      times_append family (replicate (count - times k begun) k) (rest_from (k + 1) counts begun),
      other_again (count - times k begun) family k (λ same. omega (arith, same, e)),
      rest_at (k + 1) counts begun family place (omega (arith, e)),
    )

abbrev filled : List ℕ → List ℕ → List ℕ
filled counts begun = begun ++ rest_from 0 counts begun

filled_is_order : (counts begun : List ℕ) → Fits counts begun → IsOrder counts (filled counts begun)
filled_is_order counts begun fits family =
    omega (arith, times_append family begun (rest_from 0 counts begun), rest_at 0 counts begun family family (omega arith), fits family)

filled_apart : (counts : List ℕ) (n : ℕ) (x y : List ℕ) → FitsIn counts n x → FitsIn counts n y → filled counts x ≡ filled counts y → x ≡ y
filled_apart counts n x y h k e =
    sym (take_at x (rest_from 0 counts x) n h.long) ∙ ap (take n) e ∙ take_at y (rest_from 0 counts y) n k.long

-- one of what g gives of each
pub record IsMapped (g : List ℕ → List ℕ) (x : List ℕ) (ys : List (List ℕ)) : Type 0 where
  pub source : List ℕ
  pub is_there : IsOneOf source ys
  pub is : x ≡ g source

mapped : (g : List ℕ → List ℕ) (x : List ℕ) (ys : List (List ℕ)) → IsOneOf x (map g ys) → IsMapped g x ys
mapped g x [] h = absurd h
mapped g x (y ∷ ys) (inl e) = record { source = y; is_there = inl refl; is = e }
mapped g x (y ∷ ys) (inr h) =
    let m = mapped g x ys h in
    record { source = m.source; is_there = inr m.is_there; is = m.is }

differ_map : (g : List ℕ → List ℕ) (ys : List (List ℕ)) → AllDiffer ys
    → ((x y : List ℕ) → IsOneOf x ys → IsOneOf y ys → g x ≡ g y → x ≡ y) → AllDiffer (map g ys)
differ_map g [] h apart = tt
differ_map g (y ∷ ys) h apart = (
  λ one.
      let m = mapped g (g y) ys one in
      let P : List ℕ → Type 0 = λ w. IsOneOf w ys in
      h.0 (subst P (sym (apart y m.source (inl refl) (inr m.is_there) m.is)) m.is_there),
  differ_map g ys h.1 (λ a b p q. apart a b (inr p) (inr q)),
)

-- Where there are more beginnings of so many places, there are more orders.
pub more_orders : (counts : List ℕ) (n most : ℕ) (begun : List (List ℕ)) → begun ≡ beginnings counts n → most < length begun
    → (some : List (List ℕ)) × (most < length some) × AreOrders counts some
more_orders counts n most begun e h =
    let level : List (List ℕ) = beginnings counts n in (
      map (filled counts) level,
      omega (arith, h, length-map level (filled counts), ap length e),
      record {
        only = λ order one.
            (let m = mapped (filled counts) order level one in
            let P : List ℕ → Type 0 = λ w. IsOrder counts w in
            subst P (sym m.is) (filled_is_order counts m.source (begun_fits counts n m.source m.is_there).fits));
        once = differ_map (filled counts) level (begun_differ counts n)
            (λ x y p q. filled_apart counts n x y (begun_fits counts n x p) (begun_fits counts n y q));
      },
    )
