-- The letters that the events of a run sent, read from the events in order.
use Rattle.std.proofs.Common.{◌≡◌, ◌∙◌, ◌⊎◌, inl, inr, ℕ, zero, suc, ◌-◌, ◌≤◌, ◌<◌, ◌≢◌, eqb, Bool}
use Rattle.std.proofs.Common.{true, false, if◌then◌else◌, List, [], ◌∷◌, ◌++◌, length, Option, Some}
use Rattle.std.proofs.Common.{None, refl, sym, ap, arith}
use Rattle.std.specs.Prelude.{reverse, slice_get, option_map, option_and_then}
use Rattle.std.proofs.lemmas.Bool.Decides.{eqb_tells}
use Rattle.std.proofs.lemmas.List.{length-reverse, reverse-reverse, reverse-append}
use Rattle.cam_event.specs.declared.LetterId.{LetterId}
use Rattle.cam_event.specs.declared.Event.{Event}
use Rattle.cam_event.specs.declared.Sent.{Sent}
use Rattle.cam_event.specs.Inputs.{Mail, mail_of, event_at, letter_at}

-- a letter as it was sent
abbrev pub sent_of : Mail → Sent
sent_of mail = record { to = mail.to; body = mail.body }

-- a choice that is known
if_so : {X : Type 0} (b : Bool) (x y : X) → b ≡ true → (if b then x else y) ≡ x
if_so true x y h = refl
if_so false x y h = cc

if_not : {X : Type 0} (b : Bool) (x y : X) → b ≡ false → (if b then x else y) ≡ y
if_not true x y h = cc
if_not false x y h = refl

-- a place in two lists one after the other
pub in_front : {X : Type 0} (xs ys : List X) (k : ℕ) → k < length xs → slice_get (xs ++ ys) k
    ≡ slice_get xs k
in_front [] ys k less = absurd (omega (arith, less))
in_front (x ∷ xs) ys zero less = refl
in_front (x ∷ xs) ys (suc k) less = in_front xs ys k (omega (arith, less))

pub behind_front : {X : Type 0} (xs ys : List X) (k : ℕ) → length xs ≤ k → slice_get (xs ++ ys) k
    ≡ slice_get ys (k - length xs)
behind_front [] ys k past = ap (slice_get ys) (omega arith)
behind_front (x ∷ xs) ys zero past = absurd (omega (arith, past))
behind_front (x ∷ xs) ys (suc k) past =
    behind_front xs ys k (omega (arith, past)) ∙ ap (slice_get ys) (omega arith)

-- no value past the end
past : {X : Type 0} (xs : List X) (k : ℕ) → length xs ≤ k → slice_get xs k ≡ None
past [] k less = refl
past (x ∷ xs) zero less = absurd (omega (arith, less))
past (x ∷ xs) (suc k) less = past xs k (omega (arith, less))

one_last : {X : Type 0} (x : X) (k : ℕ) → k ≢ 0 → slice_get (x ∷ []) k ≡ None
one_last x zero other = absurd (other refl)
one_last x (suc k) other = refl

-- The event of a number stands at that place of the trace in order.
event_in_order : (t : List Event) (i : ℕ) → event_at t i ≡ slice_get (reverse t) i
event_in_order [] i = refl
event_in_order (e ∷ t) i =
    elim (eqb_tells i (length t)) [
      | inl y ↦
          if_so _ (Some e) (event_at t i) y.0 ∙ sym (turned i ∙ behind_front _ (e ∷ []) _ (omega
          (arith, y.1, length-reverse t)) ∙ ap (slice_get (e ∷ [])) (no_more y.1))
      | inr n ↦ if_not _ (Some e) (event_at t i) n.0 ∙ event_in_order t i ∙ sym (turned i ∙ other i
          n.1)
    ]
  where
    turned : (k : ℕ) → slice_get (reverse (e ∷ t)) k ≡ slice_get (reverse t ++ e ∷ []) k
    turned k = ap (λ (es : List Event). slice_get es k) (reverse-append (e ∷ []) t)

    no_more : i ≡ length t → i - length (reverse t) ≡ 0
    no_more is = omega (arith, is, length-reverse t)

    other : (k : ℕ) → k ≢ length t → slice_get (reverse t ++ e ∷ []) k ≡ slice_get (reverse t) k
    other k not_last = elim (cases_less k) [
      | inl less ↦ in_front (reverse t) (e ∷ []) k (omega (arith, less, length-reverse t))
      | inr more ↦
          behind_front (reverse t) (e ∷ []) k (omega (arith, more, length-reverse t))
          ∙ one_last e (k - length (reverse t))
          (λ z. not_last (omega (arith, z, more, length-reverse t)))
          ∙ sym (past (reverse t) k (omega (arith, more, length-reverse t)))
    ]
      where
        cases_less : (j : ℕ) → (j < length t) ⊎ (length t ≤ j)
        cases_less j = less_or j (length t)
          where
            less_or : (a b : ℕ) → (a < b) ⊎ (b ≤ a)
            less_or a zero = inr (omega arith)
            less_or zero (suc b) = inl (omega arith)
            less_or (suc a) (suc b) =
                elim (less_or a b) [
                  | inl l ↦ inl (omega (arith, l))
                  | inr m ↦ inr
                      (omega (arith, m))
                ]

-- A letter that is read from the trace in order is the letter as it was sent.
pub read_letter : (events : List Event) (id : LetterId)
    → option_map sent_of (letter_at (reverse events) id)
    ≡ option_and_then (λ (e : Event). slice_get e.sent id.place) (slice_get events id.event)
read_letter events id =
    ap (λ o. option_map sent_of (option_and_then
    (λ e. option_map (mail_of e) (slice_get e.sent id.place)) o))
    (event_in_order (reverse events) id.event
    ∙ ap (λ (es : List Event). slice_get es id.event) (reverse-reverse events))
    ∙ by (slice_get events id.event)
  where
    of_event : (e : Event) (s : Option Sent) → option_map sent_of (option_map (mail_of e) s) ≡ s
    of_event e (Some s) = refl
    of_event e None = refl

    by : (o : Option Event) → option_map sent_of
        (option_and_then (λ (e : Event). option_map (mail_of e) (slice_get e.sent id.place)) o)
        ≡ option_and_then (λ (e : Event). slice_get e.sent id.place) o
    by (Some e) = of_event e (slice_get e.sent id.place)
    by None = refl
