-- Indices rise on, whatever is left out or put at the end.
use Rattle.std.proofs.Common.{◌≡◌, ℕ, ◌+◌, ◌≤◌, ◌<◌, Bool, true, false, List, [], ◌∷◌, ◌++◌, length, drop, get_or, zero, suc, arith, ap, sym, subst, cond, refl}
use Rattle.std.specs.Prelude.{filter}
use Rattle.cam_locks.specs.declared.LiveOp.{LiveOp}
use Rattle.cam_locks.specs.Site.{IndicesRise}

-- indices that rise from a number rise from a lower one
pub rise_from_lower : (low lower : ℕ) (os : List LiveOp) (next : ℕ) → lower ≤ low → IndicesRise low os next → IndicesRise lower os next
rise_from_lower low lower [] next le h = omega arith
rise_from_lower low lower (o ∷ os) next le h = let from : low ≤ o.index = h.0 in (omega arith, h.1)

-- Of no operations the indices rise, whatever the next one is.
pub rise_none : (os : List LiveOp) (next : ℕ) → os ≡ [] → IndicesRise 0 os next
rise_none os next none = subst (λ (ps : List LiveOp). IndicesRise 0 ps next) (sym none) (omega arith)

-- they rise where some operations are left out
pub rise_filter : (test : LiveOp → Bool) (low : ℕ) (os : List LiveOp) (next : ℕ) → IndicesRise low os next → IndicesRise low (filter test os) next
rise_filter test low [] next h = h
rise_filter test low (o ∷ os) next h = kept (test o) (rise_filter test (suc o.index) os next h.1)
  where
    kept : (b : Bool) → IndicesRise (suc o.index) (filter test os) next → IndicesRise low (cond b (o ∷ filter test os) (filter test os)) next
    kept true rest = (h.0, rest)
    kept false rest = let from : low ≤ o.index = h.0 in rise_from_lower (suc o.index) low (filter test os) next (omega arith) rest

-- and with one more at the end, under the next index
pub rise_push : (low : ℕ) (os : List LiveOp) (next : ℕ) (o : LiveOp) → IndicesRise low os next → o.index ≡ next → IndicesRise low (os ++ o ∷ []) (next + 1)
rise_push low [] next o h is = let at : low ≤ next = h in (omega arith, omega arith)
rise_push low (p ∷ os) next o h is = (h.0, rise_push (suc p.index) os next o h.1 is)

-- and below a later next index
pub rise_later : (low : ℕ) (os : List LiveOp) (next later : ℕ) → next ≤ later → IndicesRise low os next → IndicesRise low os later
rise_later low [] next later le h = let at : low ≤ next = h in omega arith
rise_later low (o ∷ os) next later le h = (h.0, rise_later (suc o.index) os next later le h.1)

-- and with one more at the end, under an index above the next one
pub rise_above : (low : ℕ) (os : List LiveOp) (next : ℕ) (o : LiveOp) → next ≤ o.index → IndicesRise low os next → IndicesRise low (os ++ o ∷ []) (o.index + 1)
rise_above low os next o le h = rise_push low os o.index o (rise_later low os next o.index le h) refl

-- the next index is no less than where they begin
pub next_at_least : (low : ℕ) (os : List LiveOp) (next : ℕ) → IndicesRise low os next → low ≤ next
next_at_least low [] next h = h
next_at_least low (o ∷ os) next h = let from : low ≤ o.index = h.0 in let on : suc o.index ≤ next = next_at_least (suc o.index) os next h.1 in omega arith

-- The operation at a place of a list whose indices rise, and the rest behind it.
pub rise_at : (n : ℕ) (os : List LiveOp) (i bound : ℕ) (x : LiveOp) → i < length os → x ≡ get_or os i x → IndicesRise n (drop i os) bound
    → (n ≤ x.index) × (x.index < bound) × IndicesRise (x.index + 1) (drop (i + 1) os) bound
rise_at n [] i bound x lt is rise = absurd (omega arith)
rise_at n (o ∷ os) zero bound x lt is rise =
    let same : x.index ≡ o.index = ap (λ (p : LiveOp). p.index) is in
    let from : n ≤ o.index = rise.0 in
    let to : suc o.index ≤ bound = next_at_least (suc o.index) os bound rise.1 in
    let at : suc o.index ≡ x.index + 1 = omega (arith, same) in
    (omega (arith, same), omega (arith, same), subst (λ (k : ℕ). IndicesRise k os bound) at rise.1)
rise_at n (o ∷ os) (suc i) bound x lt is rise =
    let r = rise_at n os i bound x (omega arith) is rise in
    let e : suc (i + 1) ≡ suc i + 1 = omega arith in
    (r.0, r.1, subst (λ (k : ℕ). IndicesRise (x.index + 1) (drop k (o ∷ os)) bound) e r.2)
