-- One more element of a list that is gone through.
use Rattle.std.proofs.Common.{◌≡◌, ℕ, ◌+◌, ◌<◌, Bool, true, false, ◌&&◌, cond, if◌then◌else◌, List, [], ◌∷◌, ◌++◌, length, take, drop, get_or, Option, Some, None, zero, suc, refl, sym, ap, ◌∙◌}
use Rattle.std.specs.Prelude.{filter, find}
use Rattle.std.specs.Option.{option_or}
use Rattle.std.proofs.lemmas.List.{take_more}
use Rattle.std.proofs.lemmas.List.Folds.{find-append}

-- one more element of a list that is gone through
pub taken : {X : Type 0} (xs : List X) (i : ℕ) (x : X) → i < length xs → x ≡ get_or xs i x → take (i + 1) xs ≡ take i xs ++ x ∷ []
taken {X} xs i x h is = take_more xs i x h ∙ ap (λ (y : X). take i xs ++ y ∷ []) (sym is)

-- the first element that passes
find_one : {X : Type 0} (test : X → Bool) (xs : List X) (i : ℕ) (x : X) (b : Bool)
    → i < length xs → x ≡ get_or xs i x → None ≡ find test (take i xs) → test x ≡ b → find test (take (i + 1) xs) ≡ (if b then Some x else None)
find_one {X} test xs i x b h is none passes =
    ap (find test) (taken xs i x h is) ∙ find-append test (take i xs) (x ∷ [])
    ∙ ap (λ (p : Option X). option_or p (find test (x ∷ []))) (sym none) ∙ ap (λ (c : Bool). if c then Some x else None) passes

-- no element passes so far, with one more that does not
pub find_none : {X : Type 0} (test : X → Bool) (xs : List X) (i : ℕ) (x : X)
    → i < length xs → x ≡ get_or xs i x → None ≡ find test (take i xs) → test x ≡ false → None ≡ find test (take (i + 1) xs)
find_none test xs i x h is none fails = sym (find_one test xs i x false h is none fails)

front_back : {X : Type 0} (xs : List X) (n : ℕ) → take n xs ++ drop n xs ≡ xs
front_back xs zero = refl
front_back [] (suc n) = refl
front_back {X} (x ∷ xs) (suc n) = ap (λ (ys : List X). x ∷ ys) (front_back xs n)

find_front : {X : Type 0} (test : X → Bool) (xs : List X) (n : ℕ) (x : X) → find test (take n xs) ≡ Some x → find test xs ≡ Some x
find_front {X} test xs n x h =
    ap (find test) (sym (front_back xs n)) ∙ find-append test (take n xs) (drop n xs) ∙ ap (λ (p : Option X). option_or p (find test (drop n xs))) h

-- the first element that passes is the first of the whole list
pub find_some : {X : Type 0} (test : X → Bool) (xs : List X) (i : ℕ) (x : X)
    → i < length xs → x ≡ get_or xs i x → None ≡ find test (take i xs) → test x ≡ true → Some x ≡ find test xs
find_some test xs i x h is none passes = sym (find_front test xs (i + 1) x (find_one test xs i x true h is none passes))

-- to filter by two tests is to filter by both
pub filter_twice : {X : Type 0} (p q : X → Bool) (xs : List X) → filter p (filter q xs) ≡ filter (λ x. q x && p x) xs
filter_twice p q [] = refl
filter_twice {X} p q (x ∷ xs) = by_test (q x) (p x) refl (filter_twice p q xs)
  where
    by_test : (b c : Bool) → p x ≡ c → filter p (filter q xs) ≡ filter (λ x. q x && p x) xs
        → filter p (cond b (x ∷ filter q xs) (filter q xs)) ≡ cond (b && c) (x ∷ filter (λ x. q x && p x) xs) (filter (λ x. q x && p x) xs)
    by_test true true is rest = ap (λ (d : Bool). cond d (x ∷ filter p (filter q xs)) (filter p (filter q xs))) is ∙ ap (λ (ys : List X). x ∷ ys) rest
    by_test true false is rest = ap (λ (d : Bool). cond d (x ∷ filter p (filter q xs)) (filter p (filter q xs))) is ∙ rest
    by_test false c is rest = rest

-- the first of those that pass a test that passes another is the first that passes both
pub find_filter : {X : Type 0} (p q : X → Bool) (xs : List X) → find p (filter q xs) ≡ find (λ x. q x && p x) xs
find_filter p q [] = refl
find_filter {X} p q (x ∷ xs) = by_test (q x) (p x) refl (find_filter p q xs)
  where
    by_test : (b c : Bool) → p x ≡ c → find p (filter q xs) ≡ find (λ y. q y && p y) xs
        → find p (cond b (x ∷ filter q xs) (filter q xs)) ≡ cond (b && c) (Some x) (find (λ y. q y && p y) xs)
    by_test true true is rest = ap (λ (d : Bool). cond d (Some x) (find p (filter q xs))) is
    by_test true false is rest = ap (λ (d : Bool). cond d (Some x) (find p (filter q xs))) is ∙ rest
    by_test false c is rest = rest
