-- One more letter is counted among those that were received.
use Rattle.std.proofs.Common.{◌≡◌, inl, inr, ℕ, suc, ◌+◌, ◌<◌, eqb, Bool, true, false, ◌&&◌, cond, if◌then◌else◌, List, ◌∷◌, Option, Some, refl, sym, ap, ◌∙◌, arith, eq-eqb}
use Rattle.std.specs.Prelude.{unwrap_or}
use Rattle.std.specs.BTreeMap.{get}
use Rattle.std.specs.Cmp.{nat_cmp_is, tied_then}
use Rattle.std.specs.Ordering.{is_eq, nat_cmp}
use Rattle.std.specs.declared.cmp.Ordering.TheVariants.{Less, Equal, Greater}
use Rattle.std.proofs.lemmas.Bool.{true≢false, and_parts, ne_eqb}
use Rattle.std.proofs.lemmas.Bool.Decides.{eqb_tells, leb_tells}
use Rattle.cam_event.specs.declared.Event.{Event}
use Rattle.cam_storm.specs.Runs.{is_letter, received}
use Rattle.cam_storm_node.specs.declared.receipts.Receipts.{Receipts}
use Rattle.cam_storm_node.specs.Receipts.{AreReceipts, letter_cmp, times_in}

-- two numbers tie where they are one
tie : (m n : ℕ) → is_eq (nat_cmp m n) ≡ eqb n m
tie m n =
    elim (leb_tells (suc m) n) [
      | inl l ↦
          let less : m < n = l.1 in
          ap is_eq (sym (nat_cmp_is m n Less less))
          ∙ sym (ne_eqb n m (λ e. absurd (omega (arith, less, e))))
      | inr r ↦
          elim (leb_tells (suc n) m) [
            | inl l ↦
                let more : n < m = l.1 in
                ap is_eq (sym (nat_cmp_is m n Greater more))
                ∙ sym (ne_eqb n m (λ e. absurd (omega (arith, more, e))))
            | inr q ↦
                let low = r.1 in
                let high = q.1 in
                let same : n ≡ m = omega (arith, low, high) in
                ap is_eq (sym (nat_cmp_is m n Equal (sym same))) ∙ sym (eq-eqb n m same)
          ]
    ]

-- so do two letters
tie_letters : (m n p q : ℕ) → is_eq (letter_cmp (m, p) (n, q)) ≡ (eqb n m && eqb q p)
tie_letters m n p q =
    sym (tied_then (nat_cmp m n) (nat_cmp p q)) ∙ (λ i. tie m n i && tie p q i)

same_of : (m n : ℕ) → eqb m n ≡ true → m ≡ n
same_of m n h = elim (eqb_tells m n) [
  | inl y ↦ y.1
  | inr other ↦ absurd (true≢false (sym h ∙ other.0))
]

-- THE LEMMA
pub counted : (t : List Event) (e : Event) (old new : Receipts) (number place times : ℕ)
    → e.got ≡ Some (record { event = number; place = place }) → times ≡ times_in old number place
    → ((q : ℕ × ℕ)
    → get letter_cmp new.times q
    ≡ cond (is_eq (letter_cmp (number, place) q)) (Some (times + 1)) (get letter_cmp old.times q))
    → AreReceipts t old → AreReceipts (e ∷ t) new
counted t e old new number place times got is put before letter =
    ap (λ o. unwrap_or o 0) (put (letter.event, letter.place))
    ∙ ap (λ b. unwrap_or (cond b (Some (times + 1)) here) 0)
    (tie_letters number letter.event place letter.place)
    ∙ by (eqb letter.event number && eqb letter.place place) refl
    ∙ sym (ap (λ g. if is_letter letter g then received t letter + 1 else received t letter) got)
  where
    here : Option ℕ
    here = get letter_cmp old.times (letter.event, letter.place)

    by : (b : Bool) → (eqb letter.event number && eqb letter.place place) ≡ b
        → unwrap_or (cond b (Some (times + 1)) here) 0
        ≡ (if b then received t letter + 1 else received t letter)
    by true same =
        let parts = and_parts (eqb letter.event number) (eqb letter.place place) same in
        let event = same_of letter.event number parts.0 in
        let at = same_of letter.place place parts.1 in
        ap (λ n. n + 1)
        (is ∙ (λ i. times_in old (sym event i) (sym at i)) ∙ before letter)
    by false other = before letter
