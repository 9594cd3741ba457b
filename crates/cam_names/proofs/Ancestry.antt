-- Ancestors of actions: their order, the parent, the family, and tests of all of them.
use Rattle.std.proofs.Common.{◌≡◌, inl, inr, ◌+◌, ◌<◌, ◌≤◌, eqb, Bool, true, false, ◌&&◌, List, [], ◌∷◌, length, Some, None, refl, sym, ap, ◌∙◌, subst, arith}
use Rattle.std.proofs.lemmas.Bool.{and_parts, and_from, cases_Bool, true≢false, eq-eqb, or_cases, or_left, or_right}
use Rattle.std.specs.List.{list_any, list_all}
use Rattle.cam_names.proofs.Names.{part_eq_same, part_eq_refl, name_eq_same, name_eq_refl, ancestors_any}
use Rattle.cam_names.specs.Names.{name_eq, is_prefix, is_ancestor, ancestors, family, before_last, parent, is_child}
use Rattle.cam_names.specs.Part.{PartFields, part_eq}

-- a name is a beginning of itself
pub is_prefix_refl : (a : List PartFields) → is_prefix a a ≡ true
is_prefix_refl [] = refl
is_prefix_refl (p ∷ a) = and_from (part_eq p p) (is_prefix a a) (part_eq_refl p) (is_prefix_refl a)

-- a beginning of a beginning is one
pub is_prefix_trans : (u v a : List PartFields) → is_prefix u v ≡ true → is_prefix v a ≡ true → is_prefix u a ≡ true
is_prefix_trans [] v a h g = refl
is_prefix_trans (p ∷ u) [] a h g = cc
is_prefix_trans (p ∷ u) (q ∷ v) [] h g = cc
is_prefix_trans (p ∷ u) (q ∷ v) (r ∷ a) h g =
    let one = and_parts (part_eq p q) (is_prefix u v) h in
    let other = and_parts (part_eq q r) (is_prefix v a) g in
    and_from (part_eq p r) (is_prefix u a) (subst (λ x. part_eq x r ≡ true) (sym (part_eq_same p q one.0)) other.0) (is_prefix_trans u v a one.1 other.1)

-- an ancestor of an ancestor is one
pub is_ancestor_trans : (u v a : List PartFields) → is_ancestor u v ≡ true → is_ancestor v a ≡ true → is_ancestor u a ≡ true
is_ancestor_trans [] v a h g = cc
is_ancestor_trans (p ∷ u) [] a h g = cc
is_ancestor_trans (p ∷ u) (q ∷ v) a h g = is_prefix_trans (p ∷ u) (q ∷ v) a h g

-- an action is its own ancestor, where its name isn't empty
pub is_ancestor_self : (u a : List PartFields) → is_ancestor u a ≡ true → is_ancestor u u ≡ true
is_ancestor_self [] a h = cc
is_ancestor_self (p ∷ u) a h = is_prefix_refl (p ∷ u)

-- of two beginnings of a name one is a beginning of the other
prefix_order : (u v a : List PartFields) → is_prefix u a ≡ true → is_prefix v a ≡ true → is_prefix u v ≡ false → is_prefix v u ≡ true
prefix_order [] v a h g n = cc
prefix_order (p ∷ u) [] a h g n = refl
prefix_order (p ∷ u) (q ∷ v) [] h g n = cc
prefix_order (p ∷ u) (q ∷ v) (r ∷ a) h g n =
    let one = and_parts (part_eq p r) (is_prefix u a) h in
    let other = and_parts (part_eq q r) (is_prefix v a) g in
    let same : p ≡ q = part_eq_same p r one.0 ∙ sym (part_eq_same q r other.0) in
    let there : part_eq p q ≡ true = subst (λ x. part_eq p x ≡ true) same (part_eq_refl p) in
    let back : part_eq q p ≡ true = subst (λ x. part_eq x p ≡ true) same (part_eq_refl p) in
    let less : is_prefix u v ≡ false = sym (ap (λ b. b && is_prefix u v) there) ∙ n in
    and_from (part_eq q p) (is_prefix v u) back (prefix_order u v a one.1 other.1 less)

-- of two ancestors of an action one is an ancestor of the other
pub ancestor_order : (u v a : List PartFields) → is_ancestor u a ≡ true → is_ancestor v a ≡ true → is_ancestor u v ≡ false → is_ancestor v u ≡ true
ancestor_order [] v a h g n = cc
ancestor_order (p ∷ u) [] a h g n = cc
ancestor_order (p ∷ u) (q ∷ v) a h g n = prefix_order (p ∷ u) (q ∷ v) a h g n

-- two names that are beginnings of each other are the same
prefix_same : (u v : List PartFields) → is_prefix u v ≡ true → is_prefix v u ≡ true → u ≡ v
prefix_same [] [] h g = refl
prefix_same [] (q ∷ v) h g = cc
prefix_same (p ∷ u) [] h g = cc
prefix_same (p ∷ u) (q ∷ v) h g =
    let one = and_parts (part_eq p q) (is_prefix u v) h in
    let other = and_parts (part_eq q p) (is_prefix v u) g in
    λ i. part_eq_same p q one.0 i ∷ prefix_same u v one.1 other.1 i

-- two actions that are ancestors of each other are the same
pub ancestor_same : (u v : List PartFields) → is_ancestor u v ≡ true → is_ancestor v u ≡ true → u ≡ v
ancestor_same [] v h g = cc
ancestor_same (p ∷ u) [] h g = cc
ancestor_same (p ∷ u) (q ∷ v) h g = prefix_same (p ∷ u) (q ∷ v) h g

-- an action and its ancestors are of one family
pub family_ancestor : (u a : List PartFields) → is_ancestor u a ≡ true → family u ≡ family a
family_ancestor [] a h = cc
family_ancestor (p ∷ u) [] h = cc
family_ancestor (p ∷ u) (q ∷ a) h = let parts = and_parts (part_eq p q) (is_prefix u a) h in λ i. part_eq_same p q parts.0 i ∷ []

-- the family is an ancestor of the action, and each ancestor has it as its own
pub family_is_ancestor : (u a : List PartFields) → is_ancestor u a ≡ true → is_ancestor (family a) a ≡ true
family_is_ancestor [] a h = cc
family_is_ancestor (p ∷ u) [] h = cc
family_is_ancestor (p ∷ u) (q ∷ a) h = and_from (part_eq q q) true (part_eq_refl q) refl

-- an action without a parent is its family, where it has a name
pub top_family : (b a : List PartFields) → parent b ≡ None → is_ancestor b a ≡ true → b ≡ family a
top_family [] a h g = cc
top_family (p ∷ []) [] h g = cc
top_family (p ∷ []) (q ∷ a) h g = let parts = and_parts (part_eq p q) true g in λ i. part_eq_same p q parts.0 i ∷ []
top_family (p ∷ q ∷ b) a h g = cc

-- a name without its last part is a beginning with one part less
pub before_last_child : (p q : PartFields) (a : List PartFields) → (is_prefix (before_last (p ∷ q ∷ a)) (p ∷ q ∷ a) ≡ true) × (length (p ∷ q ∷ a) ≡ length (before_last (p ∷ q ∷ a)) + 1)
before_last_child p q [] = (and_from (part_eq p p) true (part_eq_refl p) refl, omega arith)
before_last_child p q (r ∷ a) = let rest = before_last_child q r a in (and_from (part_eq p p) (is_prefix (before_last (q ∷ r ∷ a)) (q ∷ r ∷ a)) (part_eq_refl p) rest.0, omega (arith, rest.1))

-- the parent is an ancestor with one part less
pub record IsParent (p b : List PartFields) : Type 0 where
  pub child : is_child p b ≡ true
  pub above : is_ancestor p b ≡ true
  pub not_below : is_ancestor b p ≡ false

-- a beginning is no longer than the name
prefix_length : (u a : List PartFields) → is_prefix u a ≡ true → length u ≤ length a
prefix_length [] a h = omega arith
prefix_length (p ∷ u) [] h = cc
prefix_length (p ∷ u) (q ∷ a) h = omega (arith, prefix_length u a (and_parts (part_eq p q) (is_prefix u a) h).1)

-- a longer name is no beginning
longer : (u a : List PartFields) → length a < length u → is_prefix u a ≡ false
longer u a h = elim (cases_Bool (is_prefix u a)) [ inl y ↦ absurd (omega (arith, h, prefix_length u a y)) | inr n ↦ n ]

-- the parent, where there is one, is that
pub parent_is : (p b : List PartFields) → parent b ≡ Some p → IsParent p b
parent_is p [] h = cc
parent_is p (q ∷ []) h = cc
parent_is p (q ∷ r ∷ b) h =
    let same : before_last (q ∷ r ∷ b) ≡ p = cc in
    subst (λ x. IsParent x (q ∷ r ∷ b)) same (record {
      child = and_from (is_prefix (before_last (q ∷ r ∷ b)) (q ∷ r ∷ b)) (eqb (length (q ∷ r ∷ b)) (length (before_last (q ∷ r ∷ b)) + 1)) (before_last_child q r b).0 (eq-eqb (length (q ∷ r ∷ b)) (length (before_last (q ∷ r ∷ b)) + 1) (before_last_child q r b).1);
      above = above b;
      not_below = longer (q ∷ r ∷ b) (before_last (q ∷ r ∷ b)) (omega (arith, (before_last_child q r b).1));
    })
  where
    above : (b : List PartFields) → is_ancestor (before_last (q ∷ r ∷ b)) (q ∷ r ∷ b) ≡ true
    above [] = (before_last_child q r []).0
    above (t ∷ b) = (before_last_child q r (t ∷ b)).0

-- a proper beginning of a name is one of the name without its last part
prefix_parent : (u : List PartFields) (q r : PartFields) (b : List PartFields) → is_prefix u (q ∷ r ∷ b) ≡ true → is_prefix (q ∷ r ∷ b) u ≡ false → is_prefix u (before_last (q ∷ r ∷ b)) ≡ true
prefix_parent [] q r b h n = refl
prefix_parent (p ∷ []) q r [] h n = h
prefix_parent (p ∷ []) q r (t ∷ b) h n = h
prefix_parent (p ∷ s ∷ u) q r [] h n =
    let one = and_parts (part_eq p q) (part_eq s r && is_prefix u []) h in
    let two = and_parts (part_eq s r) (is_prefix u []) one.1 in
    let same : p ≡ q = part_eq_same p q one.0 in
    let same' : s ≡ r = part_eq_same s r two.0 in
    absurd (true≢false (sym (and_from (part_eq q p) (part_eq r s && true) (subst (λ x. part_eq q x ≡ true) (sym same) (part_eq_refl q)) (and_from (part_eq r s) true (subst (λ x. part_eq r x ≡ true) (sym same') (part_eq_refl r)) refl)) ∙ n))
prefix_parent (p ∷ s ∷ u) q r (t ∷ b) h n =
    let one = and_parts (part_eq p q) (is_prefix (s ∷ u) (r ∷ t ∷ b)) h in
    let same : p ≡ q = part_eq_same p q one.0 in
    let back : part_eq q p ≡ true = subst (λ x. part_eq q x ≡ true) (sym same) (part_eq_refl q) in
    and_from (part_eq p q) (is_prefix (s ∷ u) (before_last (r ∷ t ∷ b))) one.0 (prefix_parent (s ∷ u) r t b one.1 (sym (ap (λ x. x && is_prefix (r ∷ t ∷ b) (s ∷ u)) back) ∙ n))

-- an action with a proper ancestor has a parent, and the ancestor is one of the parent
pub parent_between : (u b : List PartFields) → is_ancestor u b ≡ true → is_ancestor b u ≡ false → (p : List PartFields) × (parent b ≡ Some p) × (is_ancestor u p ≡ true)
parent_between [] b h n = cc
parent_between (p ∷ u) [] h n = cc
parent_between (p ∷ []) (q ∷ []) h n = absurd (true≢false (sym (subst (λ x. is_ancestor (q ∷ []) (x ∷ []) ≡ true) (sym (part_eq_same p q (and_parts (part_eq p q) true h).0)) (is_prefix_refl (q ∷ []))) ∙ n))
parent_between (p ∷ s ∷ u) (q ∷ []) h n = absurd (true≢false (sym (and_parts (part_eq p q) false h).1))
parent_between (p ∷ u) (q ∷ r ∷ b) h n = (before_last (q ∷ r ∷ b), refl, prefix_parent (p ∷ u) q r b h n)

-- a test of every ancestor, as a fact of each
any_has : (t : List PartFields → Bool) (us : List (List PartFields)) (u : List PartFields) → list_all t us ≡ true → list_any (name_eq u) us ≡ true → t u ≡ true
any_has t [] u h g = cc
any_has t (v ∷ us) u h g =
    let parts = and_parts (t v) (list_all t us) h in
    elim (or_cases (name_eq u v) (list_any (name_eq u) us) g) [
      | inl e ↦ subst (λ x. t x ≡ true) (sym (name_eq_same u v e)) parts.0
      | inr r ↦ any_has t us u parts.1 r
    ]

-- from the test of all ancestors to each ancestor
pub every_ancestor : (t : List PartFields → Bool) (a : List PartFields) → list_all t (ancestors a) ≡ true → (u : List PartFields) → is_ancestor u a ≡ true → t u ≡ true
every_ancestor t a h u g = any_has t (ancestors a) u h (ancestors_any u a ∙ g)

-- a list of names passes a test where each name in it does
has_any : (t : List PartFields → Bool) (us : List (List PartFields)) → ((u : List PartFields) → list_any (name_eq u) us ≡ true → t u ≡ true) → list_all t us ≡ true
has_any t [] h = refl
has_any t (v ∷ us) h = and_from (t v) (list_all t us) (h v (or_left (name_eq v v) (list_any (name_eq v) us) (name_eq_refl v))) (has_any t us (λ u g. h u (or_right (name_eq u v) (list_any (name_eq u) us) g)))

-- from each ancestor to the test of all ancestors
pub all_ancestors : (t : List PartFields → Bool) (a : List PartFields) → ((u : List PartFields) → is_ancestor u a ≡ true → t u ≡ true) → list_all t (ancestors a) ≡ true
all_ancestors t a h = has_any t (ancestors a) (λ u g. h u (sym (ancestors_any u a) ∙ g))

-- a test that some ancestor passes
any_of : (t : List PartFields → Bool) (us : List (List PartFields)) → list_any t us ≡ true → (u : List PartFields) × (list_any (name_eq u) us ≡ true) × (t u ≡ true)
any_of t [] h = cc
any_of t (v ∷ us) h = elim (or_cases (t v) (list_any t us) h) [
  | inl e ↦ (v, or_left (name_eq v v) (list_any (name_eq v) us) (name_eq_refl v), e)
  | inr r ↦ let rest = any_of t us r in (rest.0, or_right (name_eq rest.0 v) (list_any (name_eq rest.0) us) rest.1, rest.2)
]

-- from a test of some ancestor to that ancestor
pub some_ancestor : (t : List PartFields → Bool) (a : List PartFields) → list_any t (ancestors a) ≡ true → (u : List PartFields) × (is_ancestor u a ≡ true) × (t u ≡ true)
some_ancestor t a h = let found = any_of t (ancestors a) h in (found.0, sym (ancestors_any found.0 a) ∙ found.1, found.2)
