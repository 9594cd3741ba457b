-- Numbers of events where an event is put in, and the letters that bear them.
use Rattle.std.proofs.Common.{◌≡◌, ◌⊎◌, inl, inr, ℕ, suc, ◌+◌, ◌<◌, ◌≤◌, eqb, true, false}
use Rattle.std.proofs.Common.{if◌then◌else◌, List, [], ◌∷◌, ◌++◌, length, Option, Some, None}
use Rattle.std.proofs.Common.{option_map, refl, sym, ap, ◌∙◌, arith, slice_get}
use Rattle.std.specs.Prelude.{nat_lt, option_and_then}
use Rattle.std.specs.List.{AllByRecursion}
use Rattle.std.proofs.lemmas.Bool.{ne_eqb, eq-eqb}
use Rattle.std.proofs.lemmas.Bool.Decides.{eqb_tells, leb_tells}
use Rattle.std.proofs.lemmas.Option.{same_Some}
use Rattle.cam_event.specs.declared.Event.{Event}
use Rattle.cam_event.specs.declared.LetterId.{LetterId}
use Rattle.cam_event.specs.Inputs.{Mail, mail_of, event_at, letter_at, mail_got}
use Rattle.cam_event.proofs.Members.{event_below}
use Rattle.cam_cut.proofs.Families.{sent_by}
use Rattle.cam_histories.specs.PutIn.{moved, moved_letter, moved_event, put_in}

pub lt_cases : (i p : ℕ)
    → ((nat_lt i p ≡ true) × (i < p)) ⊎ ((nat_lt i p ≡ false) × (p ≤ i))
lt_cases i p = elim (leb_tells (suc i) p) [
  | inl y ↦ let h = y.1 in inl (y.0, omega (arith, h))
  | inr n ↦ let h = n.1 in inr (n.0, omega (arith, h))
]

pub moved_low : (p i : ℕ) → i < p → moved p i ≡ i
moved_low p i h = elim (lt_cases i p) [
  | inl y ↦ rw y.0 refl
  | inr n ↦ let k = n.1 in absurd (omega (arith, h, k))
]

pub moved_high : (p i : ℕ) → p ≤ i → moved p i ≡ i + 1
moved_high p i h = elim (lt_cases i p) [
  | inl y ↦ let k = y.1 in absurd (omega (arith, h, k))
  | inr n ↦ rw n.0 refl
]

-- No event after the place has the number of the place,
pub moved_off : (p i : ℕ) → eqb (moved p i) p ≡ false
moved_off p i = elim (lt_cases i p) [
  | inl y ↦
      ap (λ n. eqb n p) (moved_low p i y.1)
      ∙ ne_eqb i p (λ e. let h = y.1 in omega (arith, e, h))
  | inr n ↦
      ap (λ k. eqb k p) (moved_high p i n.1)
      ∙ ne_eqb (i + 1) p (λ e. let h = n.1 in omega (arith, e, h))
]

-- and after it numbers are the same where they were.
pub number_same : (p n i : ℕ) → p ≤ n → eqb (moved p i) (n + 1) ≡ eqb i n
number_same p n i high = elim (lt_cases i p) [
  | inl y ↦
      let h = y.1 in
      ap (λ k. eqb k (n + 1)) (moved_low p i y.1)
      ∙ ne_eqb i (n + 1) (λ e. omega (arith, e, h, high))
      ∙ sym (ne_eqb i n (λ e. omega (arith, e, h, high)))
  | inr k ↦ ap (λ j. eqb j (n + 1)) (moved_high p i k.1) ∙ next
]
  where
    next : eqb (i + 1) (n + 1) ≡ eqb i n
    next = elim (eqb_tells i n) [
      | inl y ↦ eq-eqb (i + 1) (n + 1) (ap (λ j. j + 1) y.1) ∙ sym y.0
      | inr k ↦ ne_eqb (i + 1) (n + 1) (λ e. k.1 (omega (arith, e))) ∙ sym k.0
    ]

module _ (before : List Event) (e : Event) where
  -- how long the trace is then
  pub put_in_length : (behind : List Event)
      → length (put_in behind e before) ≡ length (behind ++ before) + 1
  put_in_length [] = omega arith
  put_in_length (x ∷ b) = omega (arith, put_in_length b)

  pub behind_long : (behind : List Event) → length before ≤ length (behind ++ before)
  behind_long [] = omega arith
  behind_long (x ∷ b) = omega (arith, behind_long b)

  abbrev found : ℕ → Option Event → Option Mail
  found place o = option_and_then (λ (x : Event). option_map (mail_of x) (slice_get x.sent place)) o

  none_there : (t : List Event) (i : ℕ) → length t ≤ i → event_at t i ≡ None
  none_there t i high = by (event_at t i) refl
    where
      by : (o : Option Event) → event_at t i ≡ o → o ≡ None
      by None h = refl
      by (Some x) h = let low = event_below t i x h in absurd (omega (arith, high, low))

  -- a letter is the same under its new number
  pub letters_moved : (behind : List Event) (letter : LetterId)
      → letter_at (put_in behind e before) (moved_letter (length before) letter)
      ≡ letter_at (behind ++ before) letter
  letters_moved [] letter =
      ap (λ b. found letter.place (if b then Some e else event_at before (moved p i)))
      (moved_off p i)
      ∙ ap (found letter.place) older
    where
      p : ℕ
      p = length before

      i : ℕ
      i = letter.event

      older : event_at before (moved p i) ≡ event_at before i
      older = elim (lt_cases i p) [
        | inl y ↦ ap (event_at before) (moved_low p i y.1)
        | inr n ↦
            let h = n.1 in
            ap (event_at before) (moved_high p i n.1)
            ∙ none_there before (i + 1) (omega (arith, h))
            ∙ sym (none_there before i n.1)
      ]
  letters_moved (x ∷ b) letter =
      ap (λ n. found letter.place (if eqb (moved p i) n then Some (moved_event p x) else later))
      (put_in_length b)
      ∙ ap (λ c. found letter.place (if c then Some (moved_event p x) else later))
      (number_same p (length (b ++ before)) i (behind_long b))
      ∙ elim (eqb i (length (b ++ before))) as (λ c.
      found letter.place (if c then Some (moved_event p x) else later)
      ≡ found letter.place (if c then Some x else event_at (b ++ before) i)) [
        | true ↦ refl
        | false ↦ letters_moved b letter
      ]
    where
      p : ℕ
      p = length before

      i : ℕ
      i = letter.event

      later : Option Event
      later = event_at (put_in b e before) (moved p i)

  pub mails_moved : (behind : List Event) (got : Option LetterId)
      → mail_got (put_in behind e before) (option_map (moved_letter (length before)) got)
      ≡ mail_got (behind ++ before) got
  mails_moved behind None = refl
  mails_moved behind (Some letter) = letters_moved behind letter

-- The senders of the letters after the place are other nodes.
module _ (s : ℕ) (before : List Event) where
  event_other : (behind : List Event) (i : ℕ) (x : Event)
      → AllByRecursion (λ (b : Event). b.node ≡ s → ⊥) behind
      → length before ≤ i → event_at (behind ++ before) i ≡ Some x → x.node ≡ s → ⊥
  event_other [] i x others high at = let low =
      event_below before i x at in absurd (omega (arith, high, low))
  event_other (y ∷ b) i x others high at = elim (eqb_tells i (length (b ++ before))) [
    | inl is ↦
        let here : event_at (y ∷ b ++ before) i ≡ Some y = rw is.0 refl in
        let same : y ≡ x = same_Some y x (sym here ∙ at) in
        λ mine. others.0 (ap (λ (z : Event). z.node) same ∙ mine)
    | inr off ↦
        let older : event_at (y ∷ b ++ before) i ≡ event_at (b ++ before) i = rw off.0 refl in
        event_other b i x others.1 high (sym older ∙ at)
  ]

  pub sender_other : (behind : List Event) (letter : LetterId) (mail : Mail)
      → AllByRecursion (λ (b : Event). b.node ≡ s → ⊥) behind
      → length before ≤ letter.event → letter_at (behind ++ before) letter ≡ Some mail
      → s ≡ mail.from → ⊥
  sender_other behind letter mail others high at mine =
      let from = sent_by (behind ++ before) letter mail at in
      event_other behind letter.event from.event others high from.at
      (ap (λ (m : Mail). m.from) from.is ∙ sym mine)
