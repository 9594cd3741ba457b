-- An action is the parent of just its children.
use Rattle.std.proofs.Common.{◌≡◌, inl, inr, ◌+◌, ◌≤◌, Bool, true, false, List, [], ◌∷◌, length, eqb, eq-eqb, Option, Some, None, refl, sym, ap, ◌∙◌, arith}
use borrow.Author.Tests.{eqb-true}
use Rattle.std.proofs.lemmas.Bool.{and_parts, and_from, cases_Bool, true≢false}
use Rattle.cam_names.specs.Part.{PartFields, part_eq}
use Rattle.cam_names.specs.declared.name.Name.{Name}
use Rattle.cam_names.specs.Names.{name_eq, is_prefix, is_child, parent, before_last}
use Rattle.cam_names.proofs.Names.{part_eq_same, name_eq_same, name_eq_refl}
use Rattle.cam_names.proofs.Ancestry.{before_last_child}

before_last_is : (a b : List PartFields) → is_prefix a b ≡ true → length b ≡ length a + 1 → before_last b ≡ a
before_last_is [] [] h e = refl
before_last_is [] (q ∷ []) h e = refl
before_last_is [] (q ∷ r ∷ b) h e = absurd (omega (arith, e))
before_last_is (p ∷ a) [] h e = cc
before_last_is (p ∷ a) (q ∷ []) h e = absurd (omega (arith, e))
before_last_is (p ∷ a) (q ∷ r ∷ b) h e = let parts = and_parts (part_eq p q) (is_prefix a (r ∷ b)) h in λ i. sym (part_eq_same p q parts.0) i ∷ before_last_is a (r ∷ b) parts.1 (omega (arith, e)) i

child_parent : (a b : Name) → 1 ≤ length a → is_child a b ≡ true → parent b ≡ Some a
child_parent [] b named h = absurd (omega (arith, named))
child_parent (p ∷ a) [] named h = cc
child_parent (p ∷ a) (q ∷ []) named h = let parts = and_parts (is_prefix (p ∷ a) (q ∷ [])) (eqb (length (q ∷ [])) (length (p ∷ a) + 1)) h in absurd (omega (arith, eqb-true (length (q ∷ [])) (length (p ∷ a) + 1) parts.1))
child_parent (p ∷ a) (q ∷ r ∷ b) named h =
    let parts = and_parts (is_prefix (p ∷ a) (q ∷ r ∷ b)) (eqb (length (q ∷ r ∷ b)) (length (p ∷ a) + 1)) h in
    ap (λ x. Some x) (before_last_is (p ∷ a) (q ∷ r ∷ b) parts.0 (eqb-true (length (q ∷ r ∷ b)) (length (p ∷ a) + 1) parts.1))

-- whether there is a name, and it is this one
abbrev pub is_some_name : Name → Option Name → Bool
is_some_name a None = false
is_some_name a (Some b) = name_eq a b

no_parent : (a b : Name) → is_child a b ≡ false → is_some_name a (parent b) ≡ false
no_parent a [] apart = refl
no_parent a (p ∷ []) apart = refl
no_parent a (p ∷ q ∷ b) apart =
    elim (cases_Bool (name_eq a (before_last (p ∷ q ∷ b)))) [
      | inl same ↦
          let whole = before_last_child p q b in
          let whole_child : is_child (before_last (p ∷ q ∷ b)) (p ∷ q ∷ b) ≡ true =
          and_from (is_prefix (before_last (p ∷ q ∷ b)) (p ∷ q ∷ b)) (eqb (length (p ∷ q ∷ b)) (length (before_last (p ∷ q ∷ b)) + 1)) whole.0 (eq-eqb (length (p ∷ q ∷ b)) (length (before_last (p ∷ q ∷ b)) + 1) whole.1)
          in
          absurd (true≢false (sym (ap (λ u. is_child u (p ∷ q ∷ b)) (name_eq_same a (before_last (p ∷ q ∷ b)) same) ∙ whole_child) ∙ apart))
      | inr other ↦ other
    ]

pub child_of : (a b : Name) → 1 ≤ length a → is_child a b ≡ is_some_name a (parent b)
child_of a b named =
    elim (cases_Bool (is_child a b)) [
      | inl child ↦ child ∙ sym (ap (is_some_name a) (child_parent a b named child) ∙ name_eq_refl a)
      | inr apart ↦ apart ∙ sym (no_parent a b apart)
    ]
