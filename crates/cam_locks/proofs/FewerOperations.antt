-- Fewer operations pass a test that one of them passes no more.
use Rattle.std.proofs.Common.{◌≡◌, ℕ, ◌≤◌, ◌<◌, Bool, true, false, not, cond, List, [], ◌∷◌, length, refl, sym, ap, subst, ◌∙◌, arith, eq-eqb}
use Rattle.std.proofs.Math.Logic.{inl, inr}
use Rattle.std.specs.Prelude.{filter}
use Rattle.cam_locks.specs.declared.LiveOp.{LiveOp}
use Rattle.cam_locks.specs.Members.{In}
use Rattle.cam_locks.specs.Live.{other}

shorter : (p q : LiveOp → Bool) (os : List LiveOp) → ((x : LiveOp) → q x ≡ true → p x ≡ true) → length (filter q os) ≤ length (filter p os)
shorter p q [] weaker = omega arith
shorter p q (x ∷ os) weaker = by_test (p x) (q x) (weaker x) (shorter p q os weaker)
  where
    by_test : (b c : Bool) → (c ≡ true → b ≡ true) → length (filter q os) ≤ length (filter p os) → length (cond c (x ∷ filter q os) (filter q os)) ≤ length (cond b (x ∷ filter p os) (filter p os))
    by_test true true f rest = omega (arith, rest)
    by_test true false f rest = omega (arith, rest)
    by_test false true f rest = let no : false ≡ true = f refl in cc
    by_test false false f rest = rest

-- Where one test passes less than another, and one operation fewer, what passes it is shorter.
pub one_shorter : (p q : LiveOp → Bool) (os : List LiveOp) (o : LiveOp) → ((x : LiveOp) → q x ≡ true → p x ≡ true) → In o os → p o ≡ true → q o ≡ false
    → length (filter q os) < length (filter p os)
one_shorter p q [] o weaker h yes_p no_q = absurd h
one_shorter p q (x ∷ os) o weaker (inl e) yes_p no_q =
    by_test (p x) (q x) (ap p (sym e) ∙ yes_p) (ap q (sym e) ∙ no_q) (shorter p q os weaker)
  where
    by_test : (b c : Bool) → b ≡ true → c ≡ false → length (filter q os) ≤ length (filter p os) → length (cond c (x ∷ filter q os) (filter q os)) < length (cond b (x ∷ filter p os) (filter p os))
    by_test true false f g rest = omega (arith, rest)
    by_test true true f g rest = cc
    by_test false c f g rest = cc
one_shorter p q (x ∷ os) o weaker (inr h) yes_p no_q = by_test (p x) (q x) (weaker x) (one_shorter p q os o weaker h yes_p no_q)
  where
    by_test : (b c : Bool) → (c ≡ true → b ≡ true) → length (filter q os) < length (filter p os) → length (cond c (x ∷ filter q os) (filter q os)) < length (cond b (x ∷ filter p os) (filter p os))
    by_test true true f rest = omega (arith, rest)
    by_test true false f rest = omega (arith, rest)
    by_test false true f rest = let no : false ≡ true = f refl in cc
    by_test false false f rest = rest

-- one less is left
pub fewer : (ops : List LiveOp) (f : LiveOp) → In f ops → length (filter (other f.index) ops) < length ops
fewer ops f there =
    subst (λ (k : ℕ). length (filter (other f.index) ops) < k) (ap length (all_kept ops))
    (one_shorter (λ o. true) (other f.index) ops f (λ x h. refl) there refl (ap not (eq-eqb f.index f.index refl)))
  where
    all_kept : (os : List LiveOp) → filter (λ o. true) os ≡ os
    all_kept [] = refl
    all_kept (o ∷ os) = ap (λ (ps : List LiveOp). o ∷ ps) (all_kept os)
