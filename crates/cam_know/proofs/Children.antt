-- A child is a name whose parent is the action.
use Rattle.std.proofs.Common.{◌≡◌, ◌+◌, ◌≤◌, eqb, Bool, true, false, ◌&&◌, [], ◌∷◌, length, suc, ℕ, Option, Some, None, arith, ap, ◌∙◌, refl}
use Rattle.std.proofs.lemmas.Bool.{and_right, ne_eqb}
use Rattle.std.proofs.lemmas.Bool.Decides.{Decides-eqb, Decides-like, same_from_decides}
use Rattle.cam_names.specs.Part.{PartFields, part_eq}
use Rattle.cam_names.specs.declared.name.Name.{Name}
use Rattle.cam_names.specs.Names.{name_eq, parent, is_prefix, is_child, before_last}
use Rattle.cam_names.proofs.Names.{part_eq_sym}

child_by_parent : (a : Name) (q : PartFields) (b : Name) → is_child a (q ∷ b) ≡ name_eq (before_last (q ∷ b)) a
child_by_parent [] q [] = refl
child_by_parent [] q (r ∷ b) = ne_eqb (length (q ∷ r ∷ b)) (0 + 1) (λ h. omega arith)
child_by_parent (p ∷ a) q [] = and_right (is_prefix (p ∷ a) (q ∷ [])) _ (ne_eqb 1 (length (p ∷ a) + 1) (λ h. omega arith))
child_by_parent (p ∷ a) q (r ∷ b) =
    ap (λ t. (part_eq p q && is_prefix a (r ∷ b)) && t) (one_less (length (r ∷ b)) (length a))
    ∙ and_assoc (part_eq p q) (is_prefix a (r ∷ b)) (eqb (length (r ∷ b)) (length a + 1))
    ∙ (λ i. part_eq_sym p q i && child_by_parent a r b i)
  where
    one_less : (m n : ℕ) → eqb (suc m) (suc n + 1) ≡ eqb m (n + 1)
    one_less m n = same_from_decides _ _ (Decides-eqb (suc m) (suc n + 1)) (Decides-like _ (λ e. omega arith) (λ e. omega arith) (Decides-eqb m (n + 1)))

    and_assoc : (a b c : Bool) → ((a && b) && c) ≡ (a && (b && c))
    and_assoc true b c = refl
    and_assoc false b c = refl

abbrev pub is_parent : Option Name → Name → Bool
is_parent None a = false
is_parent (Some p) a = name_eq p a

pub child_is_parent : (a b : Name) → 1 ≤ length a → is_child a b ≡ is_parent (parent b) a
child_is_parent [] b h = absurd (omega arith)
child_is_parent (p ∷ a) [] h = refl
child_is_parent (p ∷ a) (q ∷ []) h = child_by_parent (p ∷ a) q []
child_is_parent (p ∷ a) (q ∷ r ∷ b) h = child_by_parent (p ∷ a) q (r ∷ b)
