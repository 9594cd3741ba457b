-- What is live once the slots of some operations are dropped.
use Rattle.std.proofs.Common.{◌≡◌, ℕ, ◌≤◌, ◌<◌, eqb, Bool, true, false, not, ◌&&◌, ◌||◌, cond, List, [], ◌∷◌, length, map, get_or, set, zero, suc, refl, sym, ap, subst, ◌∙◌, arith}
use Rattle.std.specs.Prelude.{filter}
use Rattle.std.proofs.Math.Logic.{inl, inr}
use Rattle.cam_names.specs.declared.name.Name.{Name}
use Rattle.cam_locks.specs.declared.LiveOp.{LiveOp}
use Rattle.cam_locks.specs.declared.live.Slot.{Slot}
use Rattle.cam_locks.specs.Site.{IndicesRise}
use Rattle.cam_locks.specs.Calls.{is_below}
use Rattle.cam_locks.specs.Holding.{has_op}
use Rattle.cam_locks.specs.Members.{In}
use Rattle.cam_locks.specs.Live.{all_of, live_of, other}
use Rattle.cam_locks.proofs.Bools.{eqb_sym, kept_once}
use Rattle.cam_locks.proofs.Lists.{filter_twice}
use Rattle.cam_locks.proofs.Members.{filter_agree, same_op}
use Rattle.cam_locks.proofs.Slots.{kept, ops, slots_rise, at_least}

-- an index that is not there takes nothing away
pub without_none : (os : List LiveOp) (i : ℕ) → has_op os i ≡ false → filter (other i) os ≡ os
without_none [] i h = refl
without_none (o ∷ os) i h = by_test (eqb o.index i) (eqb_sym i o.index) h (without_none os i)
  where
    by_test : (b : Bool) → eqb i o.index ≡ b → (b || has_op os i) ≡ false → (has_op os i ≡ false → filter (other i) os ≡ os) → cond (not (eqb i o.index)) (o ∷ filter (other i) os) (filter (other i) os) ≡ o ∷ os
    by_test true e k rest = cc
    by_test false e k rest = ap (λ (c : Bool). cond (not c) (o ∷ filter (other i) os) (filter (other i) os)) e ∙ ap (λ (ps : List LiveOp). o ∷ ps) (rest k)

keep_above : (os : List LiveOp) (i low next : ℕ) → IndicesRise low os next → i < low → filter (other i) os ≡ os
keep_above [] i low next rise lt = refl
keep_above (o ∷ os) i low next rise lt =
    ap (λ (c : Bool). cond (not c) (o ∷ filter (other i) os) (filter (other i) os)) apart
    ∙ ap (λ (ps : List LiveOp). o ∷ ps) (keep_above os i (suc o.index) next rise.1 (omega (arith, above)))
  where
    above : low ≤ o.index
    above = rise.0

    apart : eqb i o.index ≡ false
    apart = grind (arith, above, lt)

abbrev pub dropped : Slot → Slot
dropped s = record s { is_dropped = true }

-- a slot is dropped
pub live_dropped : (low : ℕ) (ss : List Slot) (next place : ℕ) (s : Slot) → IndicesRise low (all_of ss) next → place < length ss → s ≡ get_or ss place s
    → live_of (set ss place (dropped s)) ≡ filter (other s.operation.index) (live_of ss)
live_dropped low [] next place s rise lt is = absurd (omega arith)
live_dropped low (t ∷ ss) next zero s rise lt is = by_drop t.is_dropped
  where
    same : eqb s.operation.index t.operation.index ≡ true
    same = let at : s.operation.index ≡ t.operation.index = ap (λ (r : Slot). r.operation.index) is in grind (arith, at)

    rest : live_of ss ≡ filter (other s.operation.index) (live_of ss)
    rest =
        let at : s.operation.index ≡ t.operation.index = ap (λ (r : Slot). r.operation.index) is in
        sym (keep_above (live_of ss) s.operation.index (suc t.operation.index) next (slots_rise (suc t.operation.index) ss next rise.1) (omega arith))

    by_drop : (d : Bool) → live_of ss ≡ filter (other s.operation.index) (ops (cond (not d) (t ∷ kept ss) (kept ss)))
    by_drop true = rest
    by_drop false =
        rest ∙ sym (ap (λ (c : Bool). cond (not c) (t.operation ∷ filter (other s.operation.index) (live_of ss)) (filter (other s.operation.index) (live_of ss))) same)
live_dropped low (t ∷ ss) next (suc k) s rise lt is = by_drop t.is_dropped (live_dropped (suc t.operation.index) ss next k s rise.1 (omega arith) is)
  where
    less : (ks : List Slot) (j : ℕ) → IndicesRise (suc t.operation.index) (all_of ks) next → j < length ks → s ≡ get_or ks j s → suc t.operation.index ≤ s.operation.index
    less ks j rise lt is = subst (λ (r : Slot). suc t.operation.index ≤ r.operation.index) (sym is) (at_least (suc t.operation.index) ks next j s rise lt)

    apart : eqb s.operation.index t.operation.index ≡ false
    apart = let before : suc t.operation.index ≤ s.operation.index = less ss k rise.1 (omega arith) is in grind (arith, before)

    by_drop : (d : Bool) → live_of (set ss k (dropped s)) ≡ filter (other s.operation.index) (live_of ss)
        → ops (cond (not d) (t ∷ kept (set ss k (dropped s))) (kept (set ss k (dropped s)))) ≡ filter (other s.operation.index) (ops (cond (not d) (t ∷ kept ss) (kept ss)))
    by_drop true rest = rest
    by_drop false rest =
        ap (λ (os : List LiveOp). t.operation ∷ os) rest
        ∙ sym (ap (λ (c : Bool). cond (not c) (t.operation ∷ filter (other s.operation.index) (live_of ss)) (filter (other s.operation.index) (live_of ss))) apart)

-- A slot that is marked as dropped keeps its operation.
pub all_dropped : (ss : List Slot) (place : ℕ) (s : Slot) → place < length ss → s ≡ get_or ss place s → all_of (set ss place (dropped s)) ≡ all_of ss
all_dropped [] place s lt is = absurd (omega arith)
all_dropped (t ∷ ss) zero s lt is = ap (λ (r : Slot). r.operation ∷ all_of ss) is
all_dropped (t ∷ ss) (suc k) s lt is = ap (λ (os : List LiveOp). t.operation ∷ os) (all_dropped ss k s (omega arith) is)

-- what a sweep leaves is live as before
pub live_swept : (ss : List Slot) → live_of (filter (λ s. not s.is_dropped) ss) ≡ live_of ss
live_swept ss = ap (map (λ (s : Slot). s.operation)) (kept_once (λ (s : Slot). not s.is_dropped) ss)

-- An operation below an action is dropped, of some that are left of others: what is not below it is as it was.
pub dropped_below : (n : Name) (os ops : List LiveOp) (next : ℕ) (f : LiveOp) → IndicesRise 0 os next → ((o : LiveOp) → In o ops → In o os) → In f ops → is_below n f ≡ true
    → filter (λ o. not (is_below n o)) (filter (other f.index) ops) ≡ filter (λ o. not (is_below n o)) ops
dropped_below n os ops next f rise among there under =
    filter_twice (λ o. not (is_below n o)) (other f.index) ops
    ∙ filter_agree (λ o. other f.index o && not (is_below n o)) (λ o. not (is_below n o)) ops (λ o h. by_test o h (eqb f.index o.index) refl)
  where
    by_test : (o : LiveOp) → In o ops → (b : Bool) → eqb f.index o.index ≡ b → (not b && not (is_below n o)) ≡ not (is_below n o)
    by_test o h false e = refl
    by_test o h true e =
        let same : f.index ≡ o.index = grind (arith, e) in
        let one : f ≡ o = same_op 0 os next f o rise (among f there) (among o h) same in
        sym (ap not (ap (is_below n) (sym one) ∙ under))

-- where nothing below the action is left, only that is left
pub none_below : (n : Name) (ops : List LiveOp) → ((o : LiveOp) → In o ops → is_below n o ≡ false) → filter (λ o. not (is_below n o)) ops ≡ ops
none_below n [] h = refl
none_below n (o ∷ ops) h =
    ap (λ (b : Bool). cond (not b) (o ∷ filter (λ o. not (is_below n o)) ops) (filter (λ o. not (is_below n o)) ops)) (h o (inl refl))
    ∙ ap (λ (ps : List LiveOp). o ∷ ps) (none_below n ops (λ p k. h p (inr k)))
