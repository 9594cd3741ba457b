-- While a call is open each child of its action is decided.
use Rattle.std.proofs.Common.{◌≡◌, inl, inr, ℕ, true, false, ◌&&◌, List, [], ◌∷◌, Some, None, refl, sym, ◌∙◌, subst}
use Rattle.std.proofs.lemmas.Bool.{and_parts, or_cases, cases_Bool, true≢false, false_from_ne_true}
use Rattle.std.proofs.lemmas.Option.{none-some}
use Rattle.cam_names.specs.declared.name.Name.{Name}
use Rattle.cam_names.specs.Names.{name_eq}
use Rattle.cam_names.proofs.Names.{name_eq_same}
use Rattle.cam_type.specs.declared.ObjectDecl.{ObjectDecl}
use Rattle.cam_event.specs.declared.Deed.{Deed}
use Rattle.cam_event.specs.declared.Deed.TheVariants.{Ask, Call, Got}
use Rattle.cam_event.specs.History.{decided, asked, open_call, open_children, has_open_child}
use Rattle.cam_plain.specs.Legal.{Legal}
use Rattle.cam_plain.proofs.Decided.{child_open, decided_more, no_open}

-- what was undecided later was so before
pub undecided_before : (L : List Deed) (d : Deed) (b : Name) → decided (d ∷ L) b ≡ false → decided L b ≡ false
undecided_before L d b h = false_from_ne_true (decided L b) (λ y. true≢false (sym (decided_more L d b y) ∙ h))

-- While a call is open each child that the action asked for is decided.
pub open_decided : (objects : List ObjectDecl) (L : List Deed) (a : Name) (n : ℕ) (b : Name) → Legal objects L → open_call L a ≡ Some n → asked L a b ≡ true → decided L b ≡ true
open_decided objects [] a n b legal h g = cc
open_decided objects (Call c m x op k ∷ L) a n b legal h g = elim (cases_Bool (name_eq a c)) [
  | inl y ↦ elim (child_open objects L a b legal.1 g) [
    | inl d ↦ d
    | inr o ↦ absurd (no_open (open_children L a) b (subst (λ x. has_open_child L x ≡ false) (sym (name_eq_same a c y)) legal.0.no_child) o)
  ]
  | inr f ↦
      let before : open_call (Call c m x op k ∷ L) a ≡ open_call L a = rw f refl in
      open_decided objects L a n b legal.1 (sym before ∙ h) g
]
open_decided objects (Got c m seen ∷ L) a n b legal h g = elim (cases_Bool (name_eq a c)) [
  | inl y ↦
      let shut : open_call (Got c m seen ∷ L) a ≡ None = rw y refl in
      absurd (none-some n (sym shut ∙ h))
  | inr f ↦
      let before : open_call (Got c m seen ∷ L) a ≡ open_call L a = rw f refl in
      open_decided objects L a n b legal.1 (sym before ∙ h) g
]
open_decided objects (Ask p c ∷ L) a n b legal h g = elim (or_cases (name_eq a p && name_eq b c) (asked L a b) g) [
  | inl e ↦ absurd (none-some n (sym (subst (λ x. open_call L x ≡ None) (sym (name_eq_same a p (and_parts (name_eq a p) (name_eq b c) e).0)) legal.0.no_call) ∙ h))
  | inr r ↦ open_decided objects L a n b legal.1 h r
]
open_decided objects (d ∷ L) a n b legal h g = decided_more L d b (open_decided objects L a n b legal.1 h g)
