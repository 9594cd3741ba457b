-- Tests that answer true or false, and what may be there.
use Rattle.std.proofs.Common.{◌≡◌, ◌≤◌, ◌<◌, ℕ, eqb, Bool, true, false, not, ◌&&◌, ◌||◌, cond, List, [], ◌∷◌, inl, inr, Option, Some, None, Result, Ok, Err, refl, ap, ◌∙◌, arith}
use Rattle.std.specs.Prelude.{is_none, is_some, nat_le, filter, find, OnErr, OnSome, IsSome}
use Rattle.std.proofs.lemmas.Bool.{cases_Bool}
use Rattle.std.specs.List.{list_any}

-- a test whose negation passes fails
pub not_true : (b : Bool) → not b ≡ true → b ≡ false
not_true true h = cc
not_true false h = refl

-- a test whose negation fails passes
pub not_false : (b : Bool) → not b ≡ false → b ≡ true
not_false true h = refl
not_false false h = cc

-- nothing and false is false
pub and_no : (b : Bool) → (b && false) ≡ false
and_no true = refl
and_no false = refl

-- what is tested to be none is none
pub none_is : {X : Type 0} (r : Option X) → is_none r ≡ true → r ≡ None
none_is None h = refl
none_is (Some u) h = cc

-- the test of an order, where it holds
pub le_yes : (i j : ℕ) → i ≤ j → nat_le i j ≡ true
le_yes i j h = grind arith

-- the test of an order, where it does not hold
pub le_no : (i j : ℕ) → j < i → nat_le i j ≡ false
le_no i j h = grind arith

-- where the test of an order fails the other number is less
pub lt_from : (i j : ℕ) → nat_le i j ≡ false → j < i
lt_from i j h = grind arith

-- where the test of an order passes it holds
pub le_from : (i j : ℕ) → nat_le i j ≡ true → i ≤ j
le_from i j h = grind arith

-- What follows from a fact holds where memory ran out, if the fact does.
pub on_err : {T E : Type 0} (r : Result T E) (P Q : Type 0) → (P → Q) → OnErr r P → OnErr r Q
on_err (Ok x) P Q f h = h
on_err (Err e) P Q f h = f h

-- where neither of two holds, each does not
pub or_parts : (a b : Bool) → (a || b) ≡ false → (a ≡ false) × (b ≡ false)
or_parts true b h = cc
or_parts false b h = (refl, h)

-- where each of two does not hold, neither does
pub or_false : (a b : Bool) → a ≡ false → b ≡ false → (a || b) ≡ false
or_false a b h k = ap (λ c. c || b) h ∙ k

-- the test of two numbers is the same either way
pub eqb_sym : (i j : ℕ) → eqb i j ≡ eqb j i
eqb_sym i j = grind arith

-- a fact for what is there holds, since something is
pub on_some : {T : Type 0} (r : Option T) (P : Type 0) → IsSome r → OnSome r P → P
on_some (Some x) P is h = h
on_some None P is h = cc

-- a fact that holds anyway holds where memory ran out
pub any_err : {T E : Type 0} (r : Result T E) (P : Type 0) → P → OnErr r P
any_err (Ok x) P h = tt
any_err (Err e) P h = h

-- to filter twice by one test is to filter once
pub kept_once : {X : Type 0} (test : X → Bool) (xs : List X) → filter test (filter test xs) ≡ filter test xs
kept_once test [] = refl
kept_once {X} test (x ∷ xs) = by_test (test x) refl (kept_once test xs)
  where
    by_test : (b : Bool) → test x ≡ b → filter test (filter test xs) ≡ filter test xs → filter test (cond b (x ∷ filter test xs) (filter test xs)) ≡ cond b (x ∷ filter test xs) (filter test xs)
    by_test true is rest = ap (λ (c : Bool). cond c (x ∷ filter test (filter test xs)) (filter test (filter test xs))) is ∙ ap (λ (ys : List X). x ∷ ys) rest
    by_test false is rest = rest

-- what is found is there
pub some_found : {X : Type 0} (test : X → Bool) (xs : List X) → is_some (find test xs) ≡ list_any test xs
some_found test [] = refl
some_found {X} test (x ∷ xs) = by_test (test x) (some_found test xs)
  where
    by_test : (b : Bool) → is_some (find test xs) ≡ list_any test xs → is_some (cond b (Some x) (find test xs)) ≡ (b || list_any test xs)
    by_test true rest = refl
    by_test false rest = rest

-- to keep the same twice, with another test between, keeps no less than once
pub kept_among : {X : Type 0} (p q : X → Bool) (xs : List X) → filter p (filter q (filter p xs)) ≡ filter p (filter q xs)
kept_among p q [] = refl
kept_among {X} p q (x ∷ xs) = elim (cases_Bool (p x)) [
  | inl t ↦ elim (cases_Bool (q x)) [
    | inl s ↦ simp (t, s) (ap (λ (ys : List X). x ∷ ys) (kept_among p q xs))
    | inr n ↦ simp (t, n) (kept_among p q xs)
  ]
  | inr m ↦ elim (cases_Bool (q x)) [
    | inl s ↦ simp (m, s) (kept_among p q xs)
    | inr n ↦ simp (m, n) (kept_among p q xs)
  ]
]
