-- Open children as a set: whether any is an action's goes by which there are.
use Rattle.std.proofs.Common.{◌≡◌, ◌+◌, ◌≤◌, Bool, true, false, not, ◌&&◌, ◌||◌, List, [], ◌∷◌, length, eqb, refl, sym, ap, ◌∙◌, arith, inl, inr}
use Rattle.std.specs.List.{list_any}
use borrow.Author.Tests.{eqb-true}
use Rattle.std.proofs.lemmas.Bool.{cases_Bool, true≢false, or_left, or_right, and_parts, and_from}
use Rattle.cam_names.specs.Part.{PartFields, part_eq}
use Rattle.cam_names.specs.declared.name.Name.{Name}
use Rattle.cam_names.specs.Names.{name_eq, is_prefix, is_child}
use Rattle.cam_names.proofs.Names.{name_eq_same, name_eq_refl, part_eq_same}
use Rattle.cam_event.specs.History.{is_empty}

-- one that passes a test and is among them
pub member_any : (p : Name → Bool) (x : Name) (xs : List Name) → list_any (name_eq x) xs ≡ true → p x ≡ true → list_any p xs ≡ true
member_any p x [] among passes = cc
member_any p x (y ∷ ys) among passes =
    elim (cases_Bool (name_eq x y)) [
      | inl same ↦ or_left (p y) (list_any p ys) (ap p (sym (name_eq_same x y same)) ∙ passes)
      | inr other ↦ or_right (p y) (list_any p ys) (member_any p x ys (sym (ap (λ (t : Bool). t || list_any (name_eq x) ys) other) ∙ among) passes)
    ]

pub some_member : (p : Name → Bool) (xs : List Name) → list_any p xs ≡ true → (x : Name) × (list_any (name_eq x) xs ≡ true) × (p x ≡ true)
some_member p [] h = cc
some_member p (y ∷ ys) h =
    elim (cases_Bool (p y)) [
      | inl here ↦ (y, or_left (name_eq y y) (list_any (name_eq y) ys) (name_eq_refl y), here)
      | inr other ↦
          let rest = some_member p ys (sym (ap (λ (t : Bool). t || list_any p ys) other) ∙ h) in
          (rest.0, or_right (name_eq rest.0 y) (list_any (name_eq rest.0) ys) rest.1, rest.2)
    ]

-- Which of an action's children are open tells whether any is.
pub any_from : (a : Name) (xs ys : List Name) → ((b : Name) → (is_child a b && list_any (name_eq b) xs) ≡ list_any (name_eq b) ys)
    → list_any (is_child a) xs ≡ not (is_empty ys)
any_from a xs [] same =
    elim (cases_Bool (list_any (is_child a) xs)) [
      | inl some ↦
          let x = some_member (is_child a) xs some in
          absurd (true≢false (sym (and_from (is_child a x.0) (list_any (name_eq x.0) xs) x.2 x.1) ∙ same x.0))
      | inr none ↦ none
    ]
any_from a xs (y ∷ ys) same =
    let here : (is_child a y && list_any (name_eq y) xs) ≡ true = same y ∙ or_left (name_eq y y) (list_any (name_eq y) ys) (name_eq_refl y) in
    let parts = and_parts (is_child a y) (list_any (name_eq y) xs) here in
    member_any (is_child a) y xs parts.1 parts.0

-- An action has one parent.
prefix_same : (u v b : List PartFields) → is_prefix u b ≡ true → is_prefix v b ≡ true → length u ≡ length v → u ≡ v
prefix_same [] [] b h g is = refl
prefix_same [] (q ∷ v) b h g is = absurd (omega (arith, is))
prefix_same (p ∷ u) [] b h g is = absurd (omega (arith, is))
prefix_same (p ∷ u) (q ∷ v) [] h g is = cc
prefix_same (p ∷ u) (q ∷ v) (r ∷ b) h g is =
    let one = and_parts (part_eq p r) (is_prefix u b) h in
    let two = and_parts (part_eq q r) (is_prefix v b) g in
    let first : p ≡ q = part_eq_same p r one.0 ∙ sym (part_eq_same q r two.0) in
    λ i. first i ∷ prefix_same u v b one.1 two.1 (omega (arith, is)) i

pub one_parent : (a p b : Name) → is_child a b ≡ true → is_child p b ≡ true → a ≡ p
one_parent a p b h g =
    let one = and_parts (is_prefix a b) (eqb (length b) (length a + 1)) h in
    let two = and_parts (is_prefix p b) (eqb (length b) (length p + 1)) g in
    let e = eqb-true (length b) (length a + 1) one.1 in
    let f = eqb-true (length b) (length p + 1) two.1 in
    prefix_same a p b one.0 two.0 (omega (arith, e, f))

-- a top action is no child of an action with a part
pub top_no_child : (a b : Name) → 1 ≤ length a → eqb (length b) 1 ≡ true → is_child a b ≡ false
top_no_child a b named top =
    elim (cases_Bool (is_child a b)) [
      | inl child ↦
          let parts = and_parts (is_prefix a b) (eqb (length b) (length a + 1)) child in
          let e = eqb-true (length b) (length a + 1) parts.1 in
          let f = eqb-true (length b) 1 top in
          absurd (omega (arith, e, f, named))
      | inr other ↦ other
    ]
