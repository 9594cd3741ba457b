-- The deeds in the past of the newest event, and in those of older events.
use Rattle.std.proofs.Common.{◌≡◌, inl, inr, ℕ, ◌<◌, Bool, true, false, ◌||◌, if◌then◌else◌, List, [], ◌∷◌, length, Option, Some, None, refl, sym, ap, ◌∙◌, arith}
use Rattle.std.specs.List.{list_any}
use Rattle.std.proofs.lemmas.Bool.{eq-eqb, ne_eqb, cases_Bool}
use Rattle.cam_event.specs.declared.Event.{Event}
use Rattle.cam_event.specs.declared.Deed.{Deed}
use Rattle.cam_event.specs.History.{after}
use Rattle.cam_event.specs.Pasts.{last_of, sender_of, holds, in_past, plain}
use Rattle.cam_event.specs.ByPast.{own_past, letter_past}
use Rattle.cam_event.proofs.PastLaws.{in_past_newest, in_past_older, past_has_it, past_below}
use Rattle.cam_event.proofs.Agree.{any_after}

-- the deeds at the positions of two sets that are the same below the trace's length
pub plain_same : (t : List Event) (S R : ℕ → Bool) → ((i : ℕ) → i < length t → S i ≡ R i) → plain t S ≡ plain t R
plain_same [] S R h = refl
plain_same (e ∷ t) S R h = λ i. if h (length t) (omega arith) i then after (plain_same t S R (λ k small. h k (omega (arith, small))) i) e.deeds else plain_same t S R (λ k small. h k (omega (arith, small))) i

pub plain_none : (t : List Event) → plain t (λ i. false) ≡ []
plain_none [] = refl
plain_none (e ∷ t) = plain_none t

-- a test of the deeds at the positions of both sets
pub plain_or : (p : Deed → Bool) (t : List Event) (S R : ℕ → Bool) → list_any p (plain t (λ i. S i || R i)) ≡ (list_any p (plain t S) || list_any p (plain t R))
plain_or p [] S R = refl
plain_or p (e ∷ t) S R =
    elim (cases_Bool (S (length t))) [
      | inl one ↦ elim (cases_Bool (R (length t))) [
        | inl two ↦ rw (one, two) (any_after p e.deeds (plain t (λ i. S i || R i)) ∙ ap (λ b. list_any p e.deeds || b) (plain_or p t S R)
            ∙ in_both (list_any p e.deeds) (list_any p (plain t S)) (list_any p (plain t R))
            ∙ λ i. sym (any_after p e.deeds (plain t S)) i || sym (any_after p e.deeds (plain t R)) i)
        | inr not_two ↦ rw (one, not_two) (any_after p e.deeds (plain t (λ i. S i || R i)) ∙ ap (λ b. list_any p e.deeds || b) (plain_or p t S R)
            ∙ in_one (list_any p e.deeds) (list_any p (plain t S)) (list_any p (plain t R))
            ∙ λ i. sym (any_after p e.deeds (plain t S)) i || list_any p (plain t R))
      ]
      | inr not_one ↦ elim (cases_Bool (R (length t))) [
        | inl two ↦ rw (not_one, two) (any_after p e.deeds (plain t (λ i. S i || R i)) ∙ ap (λ b. list_any p e.deeds || b) (plain_or p t S R)
            ∙ in_other (list_any p e.deeds) (list_any p (plain t S)) (list_any p (plain t R))
            ∙ λ i. list_any p (plain t S) || sym (any_after p e.deeds (plain t R)) i)
        | inr not_two ↦ rw (not_one, not_two) (plain_or p t S R)
      ]
    ]
  where
    in_both : (d a b : Bool) → (d || (a || b)) ≡ ((d || a) || (d || b))
    in_both true a b = refl
    in_both false a b = refl

    in_one : (d a b : Bool) → (d || (a || b)) ≡ ((d || a) || b)
    in_one true a b = refl
    in_one false a b = refl

    in_other : (d a b : Bool) → (d || (a || b)) ≡ (a || (d || b))
    in_other true true b = refl
    in_other true false b = refl
    in_other false a b = refl

-- the past of an older event stays as it was
pub older : (e : Event) (t : List Event) (j : ℕ) → j < length t → plain (e ∷ t) (λ i. in_past (e ∷ t) i j) ≡ plain t (λ i. in_past t i j)
older e t j small =
    let top : in_past (e ∷ t) (length t) j ≡ false = in_past_older e t (length t) j small ∙ not_there t j in
    rw top (plain_same t (λ i. in_past (e ∷ t) i j) (λ i. in_past t i j) (λ i _. in_past_older e t i j small))
  where
    not_there : (t : List Event) (j : ℕ) → in_past t (length t) j ≡ false
    not_there t j = elim (cases_Bool (in_past t (length t) j)) [
      | inl h ↦ absurd (omega (arith, past_below t (length t) j h))
      | inr h ↦ h
    ]

pub older_held : (e : Event) (t : List Event) (o : Option ℕ) → ((j : ℕ) → o ≡ Some j → j < length t) → plain (e ∷ t) (λ i. holds (in_past (e ∷ t) i) o) ≡ plain t (λ i. holds (in_past t i) o)
older_held e t None small = refl
older_held e t (Some j) small = older e t j (small j refl)

-- the past of the newest event: its deeds, the past of its node and the past of the letter
pub newest : (p : Deed → Bool) (e : Event) (t : List Event) →
    list_any p (plain (e ∷ t) (λ i. in_past (e ∷ t) i (length t))) ≡ (list_any p e.deeds || (list_any p (own_past t e.node) || list_any p (letter_past t e.got)))
newest p e t =
    let top : in_past (e ∷ t) (length t) (length t) ≡ true = past_has_it (e ∷ t) (length t) (omega arith) in
    let below : plain t (λ i. in_past (e ∷ t) i (length t)) ≡ plain t (λ i. holds (in_past t i) (last_of t e.node) || holds (in_past t i) (sender_of e.got)) =
    plain_same t (λ i. in_past (e ∷ t) i (length t)) (λ i. holds (in_past t i) (last_of t e.node) || holds (in_past t i) (sender_of e.got))
    (λ i small. in_past_newest e t i ∙ ap (λ b. b || holds (in_past t i) (last_of t e.node) || holds (in_past t i) (sender_of e.got)) (ne_eqb i (length t) (λ (same : i ≡ length t). omega (arith, same, small)))) in
    rw top (any_after p e.deeds (plain t (λ i. in_past (e ∷ t) i (length t)))
    ∙ ap (λ b. list_any p e.deeds || b) (ap (list_any p) below ∙ plain_or p t (λ i. holds (in_past t i) (last_of t e.node)) (λ i. holds (in_past t i) (sender_of e.got))))

pub own_newest : (e : Event) (t : List Event) → own_past (e ∷ t) e.node ≡ plain (e ∷ t) (λ i. in_past (e ∷ t) i (length t))
own_newest e t = rw (eq-eqb e.node e.node refl) refl
