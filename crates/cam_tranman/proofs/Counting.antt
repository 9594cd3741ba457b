-- How many open children an action has, where one is put to them or taken away.
use Rattle.std.proofs.Common.{◌≡◌, ℕ, ◌+◌, ◌-◌, ◌≤◌, Bool, true, false, not, ◌||◌, cond, if◌then◌else◌, nat_eq, List, [], ◌∷◌, length, Option, Some, None, refl, sym, ap, subst, ◌∙◌, arith, inl, inr}
use Rattle.std.specs.List.{list_any}
use Rattle.std.specs.Set.{remove_key}
use Rattle.std.specs.List.Sorted.{IsPermutation}
use borrow.Author.Tests.{eqb-true}
use Rattle.std.proofs.lemmas.Bool.{cases_Bool}
use Rattle.std.proofs.lemmas.List.Sorted.{sum_by_pushed, list_any-IsPermutation, IsPermutation-refl}
use Rattle.std.proofs.lemmas.Map.Made.{sum_by-remove_same}
use Rattle.cam_names.specs.declared.name.Name.{Name}
use Rattle.cam_names.specs.Names.{name_eq, is_child, parent, before_last}
use Rattle.cam_names.proofs.Names.{name_eq_decides, name_eq_same, name_eq_sym, name_eq_refl}
use Rattle.cam_names.proofs.Children.{is_some_name, child_of}
use Rattle.cam_tranman.specs.Children.{number_of}

-- 1 where it is so, and for a child of the action
abbrev flag : Bool → ℕ
flag t = if t then 1 else 0

abbrev one_for : Name → Name → ℕ
one_for a b = flag (is_child a b)

-- one more in front
number_cons : (a b : Name) (names : List Name) → number_of a (b ∷ names) ≡ one_for a b + number_of a names
number_cons a b names = sum_by_pushed (one_for a) b names (b ∷ names) (IsPermutation-refl (b ∷ names))

-- An action has a child among them where their number is not 0.
pub some_number : (a : Name) (names : List Name) → list_any (is_child a) names ≡ not (nat_eq (number_of a names) 0)
some_number a [] = refl
some_number a (b ∷ names) = by (some_number a names) (is_child a b) ∙ ap (λ (n : ℕ). not (nat_eq n 0)) (sym (number_cons a b names))
  where
    above : (n : ℕ) → nat_eq (1 + n) 0 ≡ false
    above n = elim (cases_Bool (nat_eq (1 + n) 0)) [ inl same ↦ absurd (omega (arith, eqb-true (1 + n) 0 same)) | inr apart ↦ apart ]

    by : list_any (is_child a) names ≡ not (nat_eq (number_of a names) 0) → (child : Bool)
        → (child || list_any (is_child a) names) ≡ not (nat_eq (flag child + number_of a names) 0)
    by rest true = sym (ap not (above (number_of a names)))
    by rest false = rest ∙ ap (λ (n : ℕ). not (nat_eq n 0)) (let e : number_of a names ≡ 0 + number_of a names = omega arith in e)

-- of another action, and of the parent
one_of : (a b : Name) → 1 ≤ length a → one_for a b ≡ flag (is_some_name a (parent b))
one_of a b named = ap flag (child_of a b named)

-- One more child: its parent has one more.
pub more_counted : (b p : Name) (names more : List Name) (old new : Name → ℕ) → parent b ≡ Some p → ((a : Name) → 1 ≤ length a → old a ≡ number_of a names)
    → IsPermutation (b ∷ names) more → ((a : Name) → new a ≡ (if name_eq p a then old p + 1 else old a))
    → (a : Name) → 1 ≤ length a → new a ≡ number_of a more
more_counted b p names more old new is counted put noted a named =
    noted a ∙ by (name_eq p a) refl ∙ sym (sum_by_pushed (one_for a) b names more put ∙ ap (λ (n : ℕ). n + number_of a names) here)
  where
    here : one_for a b ≡ flag (name_eq p a)
    here = one_of a b named ∙ ap (λ (o : Option Name). flag (is_some_name a o)) is ∙ ap flag (name_eq_sym a p)

    by : (t : Bool) → name_eq p a ≡ t → (if t then old p + 1 else old a) ≡ flag t + number_of a names
    by true same = let e = ap (λ (x : Name). old x) (name_eq_same p a same) in let f = counted a named in omega (arith, e, f)
    by false other = let f = counted a named in omega (arith, f)

-- a child without a parent counts for none
pub more_uncounted : (b : Name) (names more : List Name) (old : Name → ℕ) → parent b ≡ None → ((a : Name) → 1 ≤ length a → old a ≡ number_of a names)
    → IsPermutation (b ∷ names) more → (a : Name) → 1 ≤ length a → old a ≡ number_of a more
more_uncounted b names more old is counted put a named =
    counted a named ∙ sym (sum_by_pushed (one_for a) b names more put ∙ ap (λ (n : ℕ). n + number_of a names) here ∙ zero_first)
  where
    here : one_for a b ≡ 0
    here = one_of a b named ∙ ap (λ (o : Option Name). flag (is_some_name a o)) is

    zero_first : 0 + number_of a names ≡ number_of a names
    zero_first = omega arith

-- One child less: its parent has one less, and it had one at least.
rest_number : (a b : Name) (names rest : List Name) → 1 ≤ length a → list_any (name_eq b) names ≡ true → IsPermutation (remove_key (name_eq b) names) rest
    → number_of a rest + flag (is_some_name a (parent b)) ≡ number_of a names
rest_number a b names rest named among taken =
    ap (λ (n : ℕ). number_of a rest + n) (sym (one_of a b named) ∙ sym (ap (λ (t : Bool). cond t (one_for a b) 0) among))
    ∙ sum_by-remove_same (one_for a) {eq = name_eq} name_eq_decides b names rest taken

pub has_one : (b p : Name) (names rest : List Name) (old : Name → ℕ) → parent b ≡ Some p → 1 ≤ length p → ((a : Name) → 1 ≤ length a → old a ≡ number_of a names)
    → list_any (name_eq b) names ≡ true → IsPermutation (remove_key (name_eq b) names) rest → 1 ≤ old p
has_one b p names rest old is named counted among taken =
    let e = rest_number p b names rest named among taken in
    let f : flag (is_some_name p (parent b)) ≡ flag true = ap (λ (o : Option Name). flag (is_some_name p o)) is ∙ ap flag (name_eq_refl p) in
    let g = counted p named in
    omega (arith, e, f, g)

pub less_counted : (b p : Name) (names rest : List Name) (old new : Name → ℕ) → parent b ≡ Some p → ((a : Name) → 1 ≤ length a → old a ≡ number_of a names)
    → list_any (name_eq b) names ≡ true → IsPermutation (remove_key (name_eq b) names) rest
    → ((a : Name) → new a ≡ (if name_eq p a then old p - 1 else old a)) → (a : Name) → 1 ≤ length a → new a ≡ number_of a rest
less_counted b p names rest old new is counted among taken noted a named = noted a ∙ by (name_eq p a) refl
  where
    here : flag (is_some_name a (parent b)) ≡ flag (name_eq p a)
    here = ap (λ (o : Option Name). flag (is_some_name a o)) is ∙ ap flag (name_eq_sym a p)

    by : (t : Bool) → name_eq p a ≡ t → (if t then old p - 1 else old a) ≡ number_of a rest
    by true same =
        let e = rest_number a b names rest named among taken in
        let f = here ∙ ap flag same in
        let g = counted a named in
        let h = ap (λ (x : Name). old x) (name_eq_same p a same) in
        omega (arith, e, f, g, h)
    by false other =
        let e = rest_number a b names rest named among taken in
        let f = here ∙ ap flag other in
        let g = counted a named in
        omega (arith, e, f, g)

pub less_uncounted : (b : Name) (names rest : List Name) (old : Name → ℕ) → parent b ≡ None → ((a : Name) → 1 ≤ length a → old a ≡ number_of a names)
    → list_any (name_eq b) names ≡ true → IsPermutation (remove_key (name_eq b) names) rest → (a : Name) → 1 ≤ length a → old a ≡ number_of a rest
less_uncounted b names rest old is counted among taken a named =
    let e = rest_number a b names rest named among taken in
    let f = ap (λ (o : Option Name). flag (is_some_name a o)) is in
    let g = counted a named in
    omega (arith, e, f, g)

-- A parent has a part.
pub parent_named : (b p : Name) → parent b ≡ Some p → 1 ≤ length p
parent_named [] p is = cc
parent_named (x ∷ []) p is = cc
parent_named (x ∷ y ∷ b) p is = subst (λ (q : Name). 1 ≤ length q) (let e : (x ∷ before_last (y ∷ b)) ≡ p = cc in e) (omega arith)

-- one more name among them, or one that was among them
pub put_among : (b : Name) (names more : List Name) → IsPermutation (b ∷ names) more → (q : Name)
    → list_any (name_eq q) more ≡ (name_eq b q || list_any (name_eq q) names)
put_among b names more put q =
    sym (list_any-IsPermutation (name_eq q) (b ∷ names) more put) ∙ ap (λ (t : Bool). t || list_any (name_eq q) names) (name_eq_sym q b)

pub was_among : (b : Name) (names : List Name) → list_any (name_eq b) names ≡ true → (q : Name)
    → list_any (name_eq q) names ≡ (name_eq b q || list_any (name_eq q) names)
was_among b names among q = by (name_eq b q) refl
  where
    by : (t : Bool) → name_eq b q ≡ t → list_any (name_eq q) names ≡ (t || list_any (name_eq q) names)
    by true same = subst (λ (x : Name). list_any (name_eq x) names ≡ true) (name_eq_same b q same) among
    by false other = refl

-- a number of children is at most the number of all
pub number_small : (a : Name) (names : List Name) → number_of a names ≤ length names
number_small a [] = omega arith
number_small a (b ∷ names) = by (number_small a names) (is_child a b) refl
  where
    by : number_of a names ≤ length names → (t : Bool) → is_child a b ≡ t → number_of a (b ∷ names) ≤ length (b ∷ names)
    by rest true is = let e = number_cons a b names in let f = ap flag is in omega (arith, rest, e, f)
    by rest false is = let e = number_cons a b names in let f = ap flag is in omega (arith, rest, e, f)

-- a parent's number, with its new child
pub one_more_of : (b p : Name) (names more : List Name) → parent b ≡ Some p → 1 ≤ length p → IsPermutation (b ∷ names) more
    → number_of p more ≡ 1 + number_of p names
one_more_of b p names more is named put =
    sum_by_pushed (one_for p) b names more put
    ∙ ap (λ (n : ℕ). n + number_of p names) (one_of p b named ∙ ap (λ (o : Option Name). flag (is_some_name p o)) is ∙ ap flag (name_eq_refl p))
