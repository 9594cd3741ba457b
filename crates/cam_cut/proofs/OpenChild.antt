-- An open child was asked for and is not decided.
use Rattle.std.proofs.Common.{◌≡◌, inl, inr, cond, if◌then◌else◌, Bool, true, false, not, ◌&&◌, ◌||◌, List, [], ◌∷◌, filter, refl, sym, ap, ◌∙◌, subst}
use Rattle.std.specs.List.{list_any}
use Rattle.std.proofs.lemmas.Bool.{and_from, or_cases, or_left, or_right, or_parts, or_from, cases_Bool, true≢false, false_from_ne_true}
use Rattle.cam_names.specs.declared.name.Name.{Name}
use Rattle.cam_names.specs.Names.{name_eq}
use Rattle.cam_names.proofs.Names.{name_eq_same, name_eq_refl}
use Rattle.cam_plain.proofs.Performed.{runs_created, created_named}
use Rattle.cam_type.specs.declared.ObjectDecl.{ObjectDecl}
use Rattle.cam_event.specs.declared.Deed.{Deed}
use Rattle.cam_event.specs.declared.Deed.TheVariants.{Ask, Commit, Abort}
use Rattle.cam_event.specs.History.{committed, aborted, decided, asked, is_ask, is_commit, is_abort, open_children}
use Rattle.cam_plain.specs.Legal.{Legal}
use Rattle.cam_cut.proofs.HomeFacts.{child_parent}
use Rattle.cam_cut.proofs.LegalFacts.{decided_asked, ask_fresh}

-- what is known of an open child
pub record IsOpen (L : List Deed) (a b : Name) : Type 0 where
  pub was_asked : asked L a b ≡ true
  pub undecided : decided L b ≡ false

-- where another is decided, an open child stays open
still_open : (L : List Deed) (d : Deed) (a b : Name) → is_commit b d ≡ false → is_abort b d ≡ false → IsOpen L a b → IsOpen (d ∷ L) a b
still_open L d a b c n h =
    let parts = or_parts (committed L b) (aborted L b) h.undecided in
    record {
      was_asked = or_right (is_ask a b d) (asked L a b) h.was_asked;
      undecided = or_from (is_commit b d || committed L b) (is_abort b d || aborted L b) (or_from (is_commit b d) (committed L b) c parts.0) (or_from (is_abort b d) (aborted L b) n parts.1);
    }

-- what a filter without one name keeps is in the list, and not that name
kept : (b c : Name) (xs : List Name) → list_any (name_eq b) (filter (λ x. not (name_eq c x)) xs) ≡ true → (list_any (name_eq b) xs ≡ true) × (name_eq b c ≡ false)
kept b c [] h = cc
kept b c (x ∷ xs) h = by (name_eq c x) refl h (kept b c xs)
  where
    apart : name_eq c x ≡ false → name_eq b x ≡ true → name_eq b c ≡ false
    apart n y = false_from_ne_true (name_eq b c) (λ e. true≢false (sym (subst (λ z. name_eq z x ≡ true) (name_eq_same b c e) y) ∙ n))

    by : (t : Bool) → name_eq c x ≡ t → list_any (name_eq b) (cond (not t) (x ∷ filter (λ z. not (name_eq c z)) xs) (filter (λ z. not (name_eq c z)) xs)) ≡ true → (list_any (name_eq b) (filter (λ z. not (name_eq c z)) xs) ≡ true → (list_any (name_eq b) xs ≡ true) × (name_eq b c ≡ false)) → ((name_eq b x || list_any (name_eq b) xs) ≡ true) × (name_eq b c ≡ false)
    by true e g rest = let r = rest g in (or_right (name_eq b x) (list_any (name_eq b) xs) r.0, r.1)
    by false e g rest = elim (or_cases (name_eq b x) (list_any (name_eq b) (filter (λ z. not (name_eq c z)) xs)) g) [
      | inl y ↦ (or_left (name_eq b x) (list_any (name_eq b) xs) y, apart e y)
      | inr r ↦ let more = rest r in (or_right (name_eq b x) (list_any (name_eq b) xs) more.0, more.1)
    ]

-- so of each open child in a legal history
pub open_child : (objects : List ObjectDecl) (L : List Deed) (a b : Name) → Legal objects L → list_any (name_eq b) (open_children L a) ≡ true → IsOpen L a b
open_child objects [] a b legal h = cc
open_child objects (Ask p c ∷ L) a b legal h =
    elim (cases_Bool (name_eq a p)) [
      | inl y ↦ elim (or_cases (name_eq b c) (list_any (name_eq b) (open_children L a)) (sym (ap (λ (t : Bool). list_any (name_eq b) (if t then c ∷ open_children L a else open_children L a)) y) ∙ h)) [
        | inl e ↦
            let new : IsOpen (Ask p c ∷ L) p c = record {
              was_asked = or_left (name_eq p p && name_eq c c) (asked L p c) (and_from (name_eq p p) (name_eq c c) (name_eq_refl p) (name_eq_refl c));
              undecided = false_from_ne_true (decided L c) (λ d. true≢false (sym (decided_asked objects L p c legal.1 (child_parent p c (created_named objects L p legal.1 (runs_created L p legal.0.running)) legal.0.child) d) ∙ ask_fresh objects L p c legal));
            } in
            subst (λ x. IsOpen (Ask p c ∷ L) x b) (sym (name_eq_same a p y)) (subst (λ x. IsOpen (Ask p c ∷ L) p x) (sym (name_eq_same b c e)) new)
        | inr r ↦ still_open L (Ask p c) a b refl refl (open_child objects L a b legal.1 r)
      ]
      | inr n ↦ still_open L (Ask p c) a b refl refl (open_child objects L a b legal.1 (sym (ap (λ (t : Bool). list_any (name_eq b) (if t then c ∷ open_children L a else open_children L a)) n) ∙ h))
    ]
open_child objects (Commit c ∷ L) a b legal h = let k = kept b c (open_children L a) h in still_open L (Commit c) a b k.1 refl (open_child objects L a b legal.1 k.0)
open_child objects (Abort c ∷ L) a b legal h = let k = kept b c (open_children L a) h in still_open L (Abort c) a b refl k.1 (open_child objects L a b legal.1 k.0)
open_child objects (d ∷ L) a b legal h = still_open L d a b refl refl (open_child objects L a b legal.1 h)
