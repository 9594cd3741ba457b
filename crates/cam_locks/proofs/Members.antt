-- Laws of members, of rising indices and of what is found first.
use Rattle.std.proofs.Common.{eq-eqb, ◌≡◌, ◌⊎◌, ℕ, ◌≤◌, ◌<◌, eqb, Bool, true, false, ◌||◌, cond, List, [], ◌∷◌, ◌++◌, Option, Some, None, zero, suc, refl, sym, ap, subst, ◌∙◌, arith}
use Rattle.std.proofs.Math.Logic.{inl, inr}
use Rattle.std.specs.Prelude.{filter, find, slice_get}
use Rattle.std.specs.List.{list_any}
use Rattle.cam_locks.specs.declared.LiveOp.{LiveOp}
use Rattle.cam_locks.specs.Members.{In}
use Rattle.cam_locks.specs.Site.{IndicesRise}
use Rattle.cam_locks.specs.Holding.{has_op}
use Rattle.cam_locks.proofs.Indices.{next_at_least}

-- a member of the first of two lists is one of both
pub in_left : {X : Type 0} (x : X) (xs ys : List X) → In x xs → In x (xs ++ ys)
in_left x [] ys h = absurd h
in_left x (z ∷ xs) ys (inl e) = inl e
in_left x (z ∷ xs) ys (inr h) = inr (in_left x xs ys h)

-- and so is one of the second
pub in_right : {X : Type 0} (x : X) (xs ys : List X) → In x ys → In x (xs ++ ys)
in_right x [] ys h = h
in_right x (z ∷ xs) ys h = inr (in_right x xs ys h)

-- a member of both is one of either
pub in_either : {X : Type 0} (x : X) (xs ys : List X) → In x (xs ++ ys) → In x xs ⊎ In x ys
in_either x [] ys h = inr h
in_either x (z ∷ xs) ys (inl e) = inl (inl e)
in_either x (z ∷ xs) ys (inr h) = elim (in_either x xs ys h) [ inl a ↦ inl (inr a) | inr b ↦ inr b ]

-- the member of a list of one
pub in_last : {X : Type 0} (x y : X) → In x (y ∷ []) → x ≡ y
in_last x y (inl e) = e
in_last x y (inr h) = absurd h

-- a member of what passes a test is a member, and passes it
pub in_filter : {X : Type 0} (test : X → Bool) (x : X) (xs : List X) → In x (filter test xs) → In x xs × (test x ≡ true)
in_filter {X} test x [] h = absurd h
in_filter {X} test x (y ∷ xs) h = by_test (test y) refl (in_filter test x xs) h
  where
    by_test : (b : Bool) → test y ≡ b → (In x (filter test xs) → In x xs × (test x ≡ true)) → In x (cond b (y ∷ filter test xs) (filter test xs)) → ((x ≡ y) ⊎ In x xs) × (test x ≡ true)
    by_test true is rest (inl e) = (inl e, ap test e ∙ is)
    by_test true is rest (inr k) = (inr (rest k).0, (rest k).1)
    by_test false is rest k = (inr (rest k).0, (rest k).1)

-- and one that passes it is among what does
pub in_filtered : {X : Type 0} (test : X → Bool) (x : X) (xs : List X) → In x xs → test x ≡ true → In x (filter test xs)
in_filtered {X} test x [] h passes = absurd h
in_filtered {X} test x (y ∷ xs) h passes = by_test (test y) refl (in_filtered test x xs) h
  where
    by_test : (b : Bool) → test y ≡ b → (In x xs → test x ≡ true → In x (filter test xs)) → (x ≡ y) ⊎ In x xs → In x (cond b (y ∷ filter test xs) (filter test xs))
    by_test true is rest (inl e) = inl e
    by_test true is rest (inr k) = inr (rest k passes)
    by_test false is rest (inl e) = let no : true ≡ false = sym passes ∙ ap test e ∙ is in cc
    by_test false is rest (inr k) = rest k passes

-- two tests that agree on the members keep the same
pub filter_agree : {X : Type 0} (p q : X → Bool) (xs : List X) → ((x : X) → In x xs → p x ≡ q x) → filter p xs ≡ filter q xs
filter_agree p q [] h = refl
filter_agree {X} p q (x ∷ xs) h = λ i. cond (h x (inl refl) i) (x ∷ filter_agree p q xs (λ y k. h y (inr k)) i) (filter_agree p q xs (λ y k. h y (inr k)) i)

-- where none passes none is found
pub find_no : {X : Type 0} (test : X → Bool) (xs : List X) → ((x : X) → In x xs → test x ≡ false) → find test xs ≡ None
find_no test [] h = refl
find_no {X} test (x ∷ xs) h = ap (λ (b : Bool). cond b (Some x) (find test xs)) (h x (inl refl)) ∙ find_no test xs (λ y k. h y (inr k))

-- where none is found none passes
pub find_none_all : {X : Type 0} (test : X → Bool) (xs : List X) → find test xs ≡ None → (x : X) → In x xs → test x ≡ false
find_none_all test [] h x k = absurd k
find_none_all {X} test (y ∷ xs) h x k = by_test (test y) refl h (find_none_all test xs) k
  where
    by_test : (b : Bool) → test y ≡ b → cond b (Some y) (find test xs) ≡ None → (find test xs ≡ None → (z : X) → In z xs → test z ≡ false) → (x ≡ y) ⊎ In x xs → test x ≡ false
    by_test true is none rest m = cc
    by_test false is none rest (inl e) = ap test e ∙ is
    by_test false is none rest (inr m) = rest none x m

-- the members of a list whose indices rise
pub above : (low : ℕ) (os : List LiveOp) (next : ℕ) (o : LiveOp) → IndicesRise low os next → In o os → low ≤ o.index
above low [] next o rise h = absurd h
above low (p ∷ os) next o rise (inl e) = subst (λ (i : ℕ). low ≤ i) (sym (ap (λ (q : LiveOp). q.index) e)) rise.0
above low (p ∷ os) next o rise (inr h) = let from : low ≤ p.index = rise.0 in let on : suc p.index ≤ o.index = above (suc p.index) os next o rise.1 h in omega arith

-- the index of a live operation is below the next one
pub below : (low : ℕ) (os : List LiveOp) (next : ℕ) (o : LiveOp) → IndicesRise low os next → In o os → o.index < next
below low [] next o rise h = absurd h
below low (p ∷ os) next o rise (inl e) = subst (λ (i : ℕ). i < next) (sym (ap (λ (q : LiveOp). q.index) e)) (next_at_least (suc p.index) os next rise.1)
below low (p ∷ os) next o rise (inr h) = below (suc p.index) os next o rise.1 h

-- of rising indices each is of one operation
pub same_op : (low : ℕ) (os : List LiveOp) (next : ℕ) (o p : LiveOp) → IndicesRise low os next → In o os → In p os → o.index ≡ p.index → o ≡ p
same_op low [] next o p rise h k is = absurd h
same_op low (q ∷ os) next o p rise (inl e) (inl d) is = e ∙ sym d
same_op low (q ∷ os) next o p rise (inl e) (inr k) is =
    let on : suc q.index ≤ p.index = above (suc q.index) os next p rise.1 k in
    let at : o.index ≡ q.index = ap (λ (r : LiveOp). r.index) e in absurd (omega arith)
same_op low (q ∷ os) next o p rise (inr h) (inl d) is =
    let on : suc q.index ≤ o.index = above (suc q.index) os next o rise.1 h in
    let at : p.index ≡ q.index = ap (λ (r : LiveOp). r.index) d in absurd (omega arith)
same_op low (q ∷ os) next o p rise (inr h) (inr k) is = same_op (suc q.index) os next o p rise.1 h k is

-- what is found is a member that passes, and no other that passes has a lesser index
pub record IsFirst (test : LiveOp → Bool) (os : List LiveOp) (o : LiveOp) : Type 0 where
  pub member : In o os
  pub passes : test o ≡ true
  pub first : (p : LiveOp) → In p os → test p ≡ true → o.index ≤ p.index

-- what is found is the first of those that pass
pub found_first : (test : LiveOp → Bool) (low : ℕ) (os : List LiveOp) (next : ℕ) (o : LiveOp) → IndicesRise low os next → find test os ≡ Some o → IsFirst test os o
found_first test low [] next o rise h = cc
found_first test low (q ∷ os) next o rise h = by_test (test q) refl h (found_first test (suc q.index) os next o rise.1)
  where
    by_test : (b : Bool) → test q ≡ b → cond b (Some q) (find test os) ≡ Some o → (find test os ≡ Some o → IsFirst test os o) → IsFirst test (q ∷ os) o
    by_test true is found rest =
        let at : q ≡ o = cc in
        record {
          member = inl (sym at);
          passes = ap test (sym at) ∙ is;
          first = λ p m t. elim m [
            | inl e ↦ let same : o.index ≡ p.index = ap (λ (r : LiveOp). r.index) (sym at ∙ sym e) in omega arith
            | inr k ↦ let on : suc q.index ≤ p.index = above (suc q.index) os next p rise.1 k in let same : o.index ≡ q.index = ap (λ (r : LiveOp). r.index) (sym at) in omega arith
          ];
        }
    by_test false is found rest =
        let r = rest found in
        record {
          member = inr r.member;
          passes = r.passes;
          first = λ p m t. elim m [ inl e ↦ let no : true ≡ false = sym t ∙ ap test e ∙ is in cc | inr k ↦ r.first p k t ];
        }

-- and the first of those that pass is found
pub first_found : (test : LiveOp → Bool) (low : ℕ) (os : List LiveOp) (next : ℕ) (o : LiveOp) → IndicesRise low os next → IsFirst test os o → find test os ≡ Some o
first_found test low os next o rise is = by_found (find test os) refl
  where
    by_found : (r : Option LiveOp) → find test os ≡ r → r ≡ Some o
    by_found None none = let fails : test o ≡ false = find_none_all test os none o is.member in let no : true ≡ false = sym is.passes ∙ fails in cc
    by_found (Some p) found =
        let f = found_first test low os next p rise found in
        let one : p.index ≤ o.index = f.first o is.member is.passes in
        let other : o.index ≤ p.index = is.first p f.member f.passes in
        ap Some (same_op low os next p o rise f.member is.member (omega arith))

-- a member that passes
pub any_passes : {X : Type 0} (test : X → Bool) (x : X) (xs : List X) → In x xs → test x ≡ true → list_any test xs ≡ true
any_passes test x [] h passes = absurd h
any_passes {X} test x (y ∷ xs) (inl e) passes = ap (λ (b : Bool). b || list_any test xs) (ap test (sym e) ∙ passes)
any_passes {X} test x (y ∷ xs) (inr h) passes = or_true (test y) (any_passes test x xs h passes)
  where
    or_true : (b : Bool) → list_any test xs ≡ true → (b || list_any test xs) ≡ true
    or_true true k = refl
    or_true false k = k

-- an index is live just where a member has it
pub has_member : (os : List LiveOp) (o : LiveOp) → In o os → has_op os o.index ≡ true
has_member os o h = any_passes (λ p. eqb p.index o.index) o os h (eq-eqb o.index o.index refl)

-- of an index that is live there is an operation
pub member_at : (os : List LiveOp) (i : ℕ) → has_op os i ≡ true → (o : LiveOp) × In o os × (o.index ≡ i)
member_at [] i h = cc
member_at (p ∷ os) i h = by_test (eqb p.index i) refl h (member_at os i)
  where
    by_test : (b : Bool) → eqb p.index i ≡ b → (b || has_op os i) ≡ true → (has_op os i ≡ true → (o : LiveOp) × In o os × (o.index ≡ i)) → (o : LiveOp) × In o (p ∷ os) × (o.index ≡ i)
    by_test true is k rest = (p, inl refl, grind (arith, is))
    by_test false is k rest = let r = rest k in (r.0, inr r.1, r.2)

-- what is found is a member, and passes
pub found_in : {X : Type 0} (test : X → Bool) (xs : List X) (x : X) → find test xs ≡ Some x → In x xs × (test x ≡ true)
found_in test [] x h = cc
found_in {X} test (y ∷ xs) x h = by_test (test y) refl h (found_in test xs x)
  where
    by_test : (b : Bool) → test y ≡ b → cond b (Some y) (find test xs) ≡ Some x → (find test xs ≡ Some x → In x xs × (test x ≡ true)) → ((x ≡ y) ⊎ In x xs) × (test x ≡ true)
    by_test true is k rest = let e : y ≡ x = cc in (inl (sym e), ap test (sym e) ∙ is)
    by_test false is k rest = (inr (rest k).0, (rest k).1)

-- where some member passes, there is one
pub any_member : {X : Type 0} (test : X → Bool) (xs : List X) → list_any test xs ≡ true → (x : X) × In x xs × (test x ≡ true)
any_member test [] h = cc
any_member {X} test (y ∷ xs) h = by_test (test y) refl h (any_member test xs)
  where
    by_test : (b : Bool) → test y ≡ b → (b || list_any test xs) ≡ true → (list_any test xs ≡ true → (x : X) × In x xs × (test x ≡ true)) → (x : X) × In x (y ∷ xs) × (test x ≡ true)
    by_test true is k rest = (y, inl refl, is)
    by_test false is k rest = let r = rest k in (r.0, inr r.1, r.2)

-- what stands at a place is a member
pub in_got : {X : Type 0} (xs : List X) (k : ℕ) (x : X) → slice_get xs k ≡ Some x → In x xs
in_got [] zero x is = cc
in_got [] (suc k) x is = cc
in_got (y ∷ xs) zero x is = let same : y ≡ x = cc in inl (sym same)
in_got (y ∷ xs) (suc k) x is = inr (in_got xs k x is)
