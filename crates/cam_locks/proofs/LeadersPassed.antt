-- The holders whose locks a walk has gone past, noted by their depths: they are ancestors of one action, so each depth has one.
use Rattle.std.proofs.Common.{◌≡◌, ℕ, ◌+◌, ◌<◌, Bool, true, false, ◌&&◌, ◌||◌, if◌then◌else◌, List, [], ◌∷◌, ◌++◌, length, take, get_or, set, Option, Some, None, suc, refl, sym, ap, subst, ◌∙◌, arith}
use Rattle.std.proofs.Math.Logic.{inl, inr}
use Rattle.std.specs.Prelude.{is_none}
use Rattle.std.specs.List.{list_any}
use Rattle.std.proofs.lemmas.Bool.{and_parts}
use Rattle.std.proofs.lemmas.List.{get_or-set_other}
use Rattle.cam_names.specs.Part.{PartFields, part_eq}
use Rattle.cam_names.specs.declared.name.Name.{Name}
use Rattle.cam_names.specs.Names.{name_eq, is_prefix}
use Rattle.cam_names.proofs.Names.{part_eq_same, name_eq_refl}
use Rattle.cam_locks.specs.declared.LiveOp.{LiveOp}
use Rattle.cam_locks.specs.Moss.{lift_in}
use Rattle.cam_type.specs.Moss.{is_in_the_way}
use Rattle.cam_locks.specs.Holding.{has_op}
use Rattle.cam_locks.specs.Changes.{lift_eq, leads, holder_in, depth_of}
use Rattle.cam_locks.proofs.Bools.{not_false}
use Rattle.cam_locks.proofs.Lists.{taken}
use Rattle.cam_locks.proofs.EachObject.{by_eq}

-- a depth that is noted is that of an ancestor of the action that holds one of these
abbrev pub ArePast : List Name → List LiveOp → Name → List Bool → List LiveOp → Type 0
ArePast ns os a past ts = (n : ℕ) → get_or past (suc n) false ≡ true → list_any (leads ns os (Some (take (suc n) a))) ts ≡ true

prefix_is : (u a : List PartFields) → is_prefix u a ≡ true → u ≡ take (length u) a
prefix_is [] a h = refl
prefix_is (p ∷ u) [] h = cc
prefix_is (p ∷ u) (q ∷ a) h =
    let parts = and_parts (part_eq p q) (is_prefix u a) h in
    λ i. part_eq_same p q parts.0 i ∷ prefix_is u a parts.1 i

-- a holder that stands not in the way is the ancestor at its depth
holder_is : (a u : Name) → is_in_the_way a (Some u) ≡ false → u ≡ take (length u) a
holder_is a [] clear = cc
holder_is a (p ∷ u) clear = prefix_is (p ∷ u) a (not_false (is_prefix (p ∷ u) a) clear)

-- a lock of a depth that is noted need not be kept
pub led_past : (ns : List Name) (os : List LiveOp) (a : Name) (past : List Bool) (ts : List LiveOp) (r : Option Name) → ArePast ns os a past ts
    → is_in_the_way a r ≡ false → get_or past (depth_of r) false ≡ true → (is_none r || list_any (leads ns os r) ts) ≡ true
led_past ns os a past ts None are clear noted = refl
led_past ns os a past ts (Some []) are clear noted = cc
led_past ns os a past ts (Some (p ∷ u)) are clear noted =
    subst (λ (v : Name). list_any (leads ns os (Some v)) ts ≡ true) (sym (holder_is a (p ∷ u) clear)) (are (length u) noted)

any_old : {X : Type 0} (test : X → Bool) (xs ys : List X) → list_any test xs ≡ true → list_any test (xs ++ ys) ≡ true
any_old test [] ys h = cc
any_old {X} test (x ∷ xs) ys h = by_test (test x) h (any_old test xs ys)
  where
    by_test : (b : Bool) → (b || list_any test xs) ≡ true → (list_any test xs ≡ true → list_any test (xs ++ ys) ≡ true) → (b || list_any test (xs ++ ys)) ≡ true
    by_test true k rest = refl
    by_test false k rest = rest k

any_last : {X : Type 0} (test : X → Bool) (xs : List X) (x : X) → test x ≡ true → list_any test (xs ++ x ∷ []) ≡ true
any_last test [] x is = ap (λ (b : Bool). b || false) is
any_last {X} test (y ∷ xs) x is = by_test (test y) (any_last test xs x is)
  where
    by_test : (b : Bool) → list_any test (xs ++ x ∷ []) ≡ true → (b || list_any test (xs ++ x ∷ [])) ≡ true
    by_test true rest = refl
    by_test false rest = rest

holder_parts : (ns : List Name) (os : List LiveOp) (t : LiveOp) (u : Name) → holder_in ns os t ≡ Some u → (has_op os t.index ≡ true) × (lift_in ns t.action ≡ Some u)
holder_parts ns os t u holds = by_test (has_op os t.index) holds
  where
    by_test : (b : Bool) → (if b then lift_in ns t.action else None) ≡ Some u → (b ≡ true) × (lift_in ns t.action ≡ Some u)
    by_test true h = (refl, h)
    by_test false h = cc

leads_itself : (ns : List Name) (os : List LiveOp) (a : Name) (t : LiveOp) (n : ℕ) (r : Option Name) → holder_in ns os t ≡ r → is_in_the_way a r ≡ false → suc n ≡ depth_of r
    → leads ns os (Some (take (suc n) a)) t ≡ true
leads_itself ns os a t n None holds clear is = absurd (omega (arith, is))
leads_itself ns os a t n (Some u) holds clear is =
    let parts = holder_parts ns os t u holds in
    let v : Name = take (suc n) a in
    let same : lift_in ns t.action ≡ Some v = parts.1 ∙ ap Some (holder_is a u clear ∙ ap (λ (k : ℕ). take k a) (sym is)) in
    ap (λ (r : Option Name). lift_eq r (Some v) && has_op os t.index) same
    ∙ ap (λ (b : Bool). name_eq v v && b) parts.0 ∙ ap (λ (b : Bool). b && true) (name_eq_refl v)

-- one more is gone past
pub past_more : (ns : List Name) (os : List LiveOp) (a : Name) (past : List Bool) (ts : List LiveOp) (p : ℕ) (t : LiveOp) → p < length ts → t ≡ get_or ts p t
    → is_in_the_way a (holder_in ns os t) ≡ false → ArePast ns os a past (take p ts)
    → ArePast ns os a (set past (depth_of (holder_in ns os t)) true) (take (p + 1) ts)
past_more ns os a past ts p t lt is clear are = λ n noted.
    subst (λ (us : List LiveOp). list_any (leads ns os (Some (take (suc n) a))) us ≡ true) (sym (taken ts p t lt is)) (by_depth n noted)
  where
    depth : ℕ
    depth = depth_of (holder_in ns os t)

    by_depth : (n : ℕ) → get_or (set past depth true) (suc n) false ≡ true → list_any (leads ns os (Some (take (suc n) a))) (take p ts ++ t ∷ []) ≡ true
    by_depth n noted = elim (by_eq (suc n) depth) [
      | inl e ↦ any_last (leads ns os (Some (take (suc n) a))) (take p ts) t (leads_itself ns os a t n (holder_in ns os t) refl clear e)
      | inr other ↦
          any_old (leads ns os (Some (take (suc n) a))) (take p ts) (t ∷ []) (are n (sym (get_or-set_other past depth (suc n) true false other) ∙ noted))
    ]
