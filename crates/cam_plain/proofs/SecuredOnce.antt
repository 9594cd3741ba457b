-- In a legal history a family is secured at a site once, so the count at which it was first secured there tells of each.
use Rattle.std.proofs.Common.{◌≡◌, inl, inr, ℕ, eqb, Bool, true, false, ◌&&◌, ◌||◌, if◌then◌else◌, List, [], ◌∷◌, Option, Some, None, is_some, refl, sym, ap, ◌∙◌}
use Rattle.std.specs.Option.{option_map_or, option_or}
use Rattle.std.proofs.lemmas.Bool.{and_parts, cases_Bool, eqb-true, true≢false}
use Rattle.cam_names.specs.declared.name.Name.{Name}
use Rattle.cam_names.specs.Names.{name_eq}
use Rattle.cam_names.proofs.Names.{name_eq_same}
use Rattle.cam_names.proofs.Any.{any_weaker}
use Rattle.cam_type.specs.declared.ObjectDecl.{ObjectDecl}
use Rattle.cam_event.specs.declared.Deed.{Deed}
use Rattle.cam_event.specs.declared.Deed.TheVariants.{Secure}
use Rattle.cam_event.specs.History.{count, is_secure, is_secure_at, secured, secured_at}
use Rattle.cam_live.specs.Tables.{first_secured}
use Rattle.cam_live.proofs.Counting.{secured_first}
use Rattle.cam_plain.specs.Legal.{Legal}

nothing_more : (x : Bool) → (x || false) ≡ x
nothing_more true = refl
nothing_more false = refl

none_first : (o : Option ℕ) → is_some o ≡ false → o ≡ None
none_first None h = refl
none_first (Some k) h = cc

abbrev is_same : (c : ℕ) → Option ℕ → Bool
is_same c o = option_map_or (eqb c) o false

secure_at : (f : Name) (s c : ℕ) (d : Deed) → is_secure f s c d ≡ true → is_secure_at f s d ≡ true
secure_at f s c (Secure g t k) h = (and_parts (name_eq f g && eqb s t) (eqb c k) h).0
secure_at f s c _ h = cc

pub secured_kept : (objects : List ObjectDecl) (L : List Deed) (f : Name) (s c : ℕ) → Legal objects L → option_map_or (eqb c) (first_secured L s f) false ≡ secured L f s c
secured_kept objects [] f s c legal = refl
secured_kept objects (Secure g t k ∷ L) f s c legal = by (name_eq f g) (eqb s t) refl refl (secured_kept objects L f s c legal.1)
  where
    or_none : (o : Option ℕ) → option_or o None ≡ o
    or_none None = refl
    or_none (Some n) = refl

    by : (x y : Bool) → name_eq f g ≡ x → eqb s t ≡ y → option_map_or (eqb c) (first_secured L s f) false ≡ secured L f s c
        → option_map_or (eqb c) (option_or (first_secured L s f) (if y && x then Some (count L s) else None)) false ≡ ((x && y && eqb c k) || secured L f s c)
    by true false same here rest = ap (is_same c) (or_none (first_secured L s f)) ∙ rest
    by false true same here rest = ap (is_same c) (or_none (first_secured L s f)) ∙ rest
    by false false same here rest = ap (is_same c) (or_none (first_secured L s f)) ∙ rest
    by true true same here rest =
        let fresh : secured_at L f s ≡ false = (λ i. secured_at L (name_eq_same f g same i) (eqb-true s t here i)) ∙ legal.0.fresh in
        let none : first_secured L s f ≡ None = none_first (first_secured L s f) (sym (secured_first L s f) ∙ fresh) in
        let not_yet : secured L f s c ≡ false =
        elim (cases_Bool (secured L f s c)) [
          | inl found ↦ absurd (true≢false (sym (any_weaker (is_secure f s c) (is_secure_at f s) L (secure_at f s c) found) ∙ fresh))
          | inr absent ↦ absent
        ] in
        ap (λ o. option_map_or (eqb c) (option_or o (Some (count L s))) false) none
        ∙ ap (eqb c) (ap (count L) (eqb-true s t here) ∙ sym legal.0.count)
        ∙ sym (ap (λ b. eqb c k || b) not_yet ∙ nothing_more (eqb c k))
secured_kept objects (_ ∷ L) f s c legal = secured_kept objects L f s c legal.1
