-- The letters that a node sent, as its history tells them.
use Rattle.std.proofs.Common.{◌≡◌, ◌≢◌, ℕ, zero, suc, ◌<◌, ◌==◌, Bool, true, false, List, [], ◌∷◌, map, length, take, if◌then◌else◌, refl, sym, ap, ◌∙◌, arith}
use Rattle.std.proofs.lemmas.Bool.Decides.{nat_tests}
use Rattle.std.proofs.lemmas.Option.{slice_get_within, slice_get-map}
use Rattle.std.specs.Prelude.{All, Option, Some, None, IsSome, slice_get}
use Rattle.std.specs.Option.{option_map}
use Rattle.cam_journal.specs.declared.entry.SentLetter.{SentLetter}
use Rattle.cam_journal.specs.declared.entry.NumberedEvent.{NumberedEvent}
use Rattle.cam_journal.specs.declared.view.SeatView.{SeatView}
use Rattle.cam_journal.specs.declared.view.SeatView.TheVariants.{Maker, Node, Posted, Gatherer, Whole, Spent}
use Rattle.cam_journal.specs.Taking.{IsFromLawful}
use Rattle.cam_journal.specs.Rule.{HasSent, with_letter}
use Rattle.cam_journal.specs.Seats.{sitting, with_taken, numbered, history_in, letter_at, AreRising, IsRising, IsSeat}
use Rattle.cam_journal.proofs.Histories.{if_here, if_else}
use Rattle.cam_journal.proofs.Seating.{All-slice_get}
use Rattle.cam_journal.proofs.Handing.{mapped_at}
use Rattle.cam_journal.specs.Trace.{EventLaw}
use Rattle.atomic_table.specs.Seated.{TableId}

some_there : {A : Type 0} (o : Option A) → IsSome o → (a : A) × (o ≡ Some a)
some_there (Some a) there = (a, refl)
some_there None there = absurd (cc)

module _ {E L : Type 0} (sends : E → List L) where
  -- where the event of a letter stands in the history
  abbrev Stands : List (NumberedEvent E L) → ℕ → ℕ → L → Type 0
  Stands history number place letter = (at : ℕ) × (entry : NumberedEvent E L) × (slice_get history at ≡ Some entry) × (entry.number ≡ number) × (slice_get (sends entry.event) place ≡ Some letter)

  letter_test : (e : NumberedEvent E L) (history : List (NumberedEvent E L)) (number place : ℕ) (letter : L) (b : Bool) → (e.number == number) ≡ b → (letter_at sends history number place ≡ Some letter → Stands history number place letter)
      → (if b then slice_get (sends e.event) place else letter_at sends history number place) ≡ Some letter → Stands (e ∷ history) number place letter
  letter_test e history number place letter true same rest there = (0, e, refl, grind (arith, nat_tests), there)
  letter_test e history number place letter false other rest there = let later = rest there in (suc later.0, later.1, later.2, later.3, later.4)

  letter_found : (history : List (NumberedEvent E L)) (number place : ℕ) (letter : L) → letter_at sends history number place ≡ Some letter → Stands history number place letter
  letter_found [] number place letter is = absurd (cc)
  letter_found (e ∷ history) number place letter is = letter_test e history number place letter (e.number == number) refl (letter_found history number place letter) is

  letter_is : (history : List (NumberedEvent E L)) (at place : ℕ) (entry : NumberedEvent E L) → IsRising history → slice_get history at ≡ Some entry → letter_at sends history entry.number place ≡ slice_get (sends entry.event) place
  letter_is [] at place entry rising there = absurd (cc)
  letter_is (e ∷ history) zero place entry rising there =
      let same : e ≡ entry = cc in
      let number : e.number ≡ entry.number = ap (λ (x : NumberedEvent E L). x.number) same in
      if_here (e.number == entry.number) (slice_get (sends e.event) place) (letter_at sends history entry.number place) (grind (arith, nat_tests)) ∙ ap (λ (x : NumberedEvent E L). slice_get (sends x.event) place) same
  letter_is (e ∷ history) (suc at) place entry rising there =
      let above : e.number < entry.number = rising 0 (suc at) e entry (omega arith) refl there in
      if_else (e.number == entry.number) (slice_get (sends e.event) place) (letter_at sends history entry.number place) (grind (arith, nat_tests))
      ∙ letter_is history at place entry (λ one later x y before first second. rising (suc one) (suc later) x y (omega arith) first second) there

module _ {E L : Type 0} (sends : E → List L) (lawful : EventLaw E L) where
  -- the entry of an event that a seat keeps
  kept_at : (history : List (NumberedEvent E L)) (entries : List (ℕ × E)) (at number : ℕ) (event : E) → entries ≡ map numbered history → slice_get entries at ≡ Some (number, event) → (entry : NumberedEvent E L) × (slice_get history at ≡ Some entry) × (entry.number ≡ number) × (entry.event ≡ event)
  kept_at history entries at number event is there =
      let entry = mapped_at numbered history at (number, event) (ap (λ (es : List (ℕ × E)). slice_get es at) (sym is) ∙ there) in
      (entry.0, entry.1, ap (λ (p : ℕ × E). p.0) entry.2, ap (λ (p : ℕ × E). p.1) entry.2)

  rising_at : (history : List (NumberedEvent E L)) (entries : List (ℕ × E)) → entries ≡ map numbered history → IsRising history → AreRising entries
  rising_at history entries is rising at later one other before first second =
      let x = kept_at history entries at one.0 one.1 is first in
      let y = kept_at history entries later other.0 other.1 is second in
      let above = rising at later x.0 y.0 before x.1 y.1 in
      omega (arith, above, x.2, y.2)

  -- the numbers that a seat keeps rise
  pub seat_rises : (entries : List (ℕ × E)) (view : SeatView E L) → IsSeat lawful entries view → AreRising entries
  seat_rises entries (Node node history taken) seat = rising_at history entries seat.0 seat.3
  seat_rises entries (Maker count next) seat = absurd seat
  seat_rises entries (Posted sent) seat = absurd seat
  seat_rises entries (Gatherer count gathered) seat = absurd seat
  seat_rises entries (Whole gathered trace) seat = absurd seat
  seat_rises entries Spent seat = absurd seat

  -- the event of a letter that was sent is found
  pub sender_kept : (entries : List (ℕ × E)) (view : SeatView E L) (number place : ℕ) → IsSeat lawful entries view → IsSome (letter_at sends (history_in view) number place) → All (λ entry. entry.0 ≢ number) entries → ⊥
  sender_kept entries (Node node history taken) number place seat sent none =
      let letter = some_there (letter_at sends history number place) sent in
      let stands = letter_found sends history number place letter.0 letter.1 in
      let there : slice_get entries stands.0 ≡ Some (numbered stands.1) =
      ap (λ (es : List (ℕ × E)). slice_get es stands.0) seat.0 ∙ slice_get-map numbered history stands.0 ∙ ap (option_map numbered) stands.2 in
      All-slice_get (λ (entry : ℕ × E). entry.0 ≢ number) entries stands.0 (numbered stands.1) none there stands.3
  sender_kept entries (Maker count next) number place seat sent none = absurd seat
  sender_kept entries (Posted other) number place seat sent none = absurd seat
  sender_kept entries (Gatherer count gathered) number place seat sent none = absurd seat
  sender_kept entries (Whole gathered trace) number place seat sent none = absurd seat
  sender_kept entries Spent number place seat sent none = absurd seat

  -- the letter at a place is that of the event that was found
  pub letter_of : (entries : List (ℕ × E)) (view : SeatView E L) (number place at : ℕ) (event : E) → IsSeat lawful entries view → slice_get entries at ≡ Some (number, event) → letter_at sends (history_in view) number place ≡ slice_get (sends event) place
  letter_of entries (Node node history taken) number place at event seat there =
      let entry = kept_at history entries at number event seat.0 there in
      ap (λ (n : ℕ). letter_at sends history n place) (sym entry.2) ∙ letter_is sends history at place entry.0 seat.3 entry.1 ∙ ap (λ (e : E). slice_get (sends e) place) entry.3
  letter_of entries (Maker count next) number place at event seat there = absurd seat
  letter_of entries (Posted other) number place at event seat there = absurd seat
  letter_of entries (Gatherer count gathered) number place at event seat there = absurd seat
  letter_of entries (Whole gathered trace) number place at event seat there = absurd seat
  letter_of entries Spent number place at event seat there = absurd seat

  pub place_within : (entries : List (ℕ × E)) (view : SeatView E L) (number place at : ℕ) (event : E) → IsSeat lawful entries view → slice_get entries at ≡ Some (number, event) → IsSome (letter_at sends (history_in view) number place) → place < length (sends event)
  place_within entries view number place at event seat there sent =
      let letter = some_there (letter_at sends (history_in view) number place) sent in
      slice_get_within (sends event) place letter.0 (sym (letter_of entries view number place at event seat there) ∙ letter.1)

  -- a letter of an event that a seat keeps was sent by it, and that event was lawful
  pub has_sent : (entries : List (ℕ × E)) (view : SeatView E L) (sent : SentLetter L) (at : ℕ) (event : E) → IsSeat lawful entries view → slice_get entries at ≡ Some (sent.number, event) → slice_get (sends event) sent.place ≡ Some sent.letter
      → HasSent sends view sent × IsFromLawful sends lawful sent
  has_sent entries (Node node history taken) sent at event seat there letter =
      let entry = kept_at history entries at sent.number event seat.0 there in
      let letter_there = ap (λ (e : E). slice_get (sends e) sent.place) entry.3 ∙ letter in (
        (at, entry.0, entry.1, entry.2, letter_there),
        record { node = node; history = take at history; received = entry.0.received; event = entry.0.event; allowed = seat.2 at entry.0 entry.1; letter = letter_there },
      )
  has_sent entries (Maker count next) sent at event seat there letter = absurd seat
  has_sent entries (Posted other) sent at event seat there letter = absurd seat
  has_sent entries (Gatherer count gathered) sent at event seat there letter = absurd seat
  has_sent entries (Whole gathered trace) sent at event seat there letter = absurd seat
  has_sent entries Spent sent at event seat there letter = absurd seat

  -- the seat of a node that took a letter
  pub IsSeat-letter : (entries : List (ℕ × E)) (view : SeatView E L) (sent : SentLetter L) → IsSeat lawful entries view → IsSeat lawful entries (with_letter view (Posted sent))
  IsSeat-letter entries (Node node history taken) sent seat = seat
  IsSeat-letter entries (Maker count next) sent seat = absurd seat
  IsSeat-letter entries (Posted other) sent seat = absurd seat
  IsSeat-letter entries (Gatherer count gathered) sent seat = absurd seat
  IsSeat-letter entries (Whole gathered trace) sent seat = absurd seat
  IsSeat-letter entries Spent sent seat = absurd seat

  -- how contracts see it
  pub sitting-letter : (entries : List (ℕ × E)) (view : SeatView E L) (sent : SentLetter L) (journal : TableId) (spare : ℕ) → IsSeat lawful entries view → sitting journal spare (with_letter view (Posted sent)) ≡ with_taken sent (sitting journal spare view)
  sitting-letter entries (Node node history taken) sent journal spare seat = refl
  sitting-letter entries (Maker count next) sent journal spare seat = absurd seat
  sitting-letter entries (Posted other) sent journal spare seat = absurd seat
  sitting-letter entries (Gatherer count gathered) sent journal spare seat = absurd seat
  sitting-letter entries (Whole gathered trace) sent journal spare seat = absurd seat
  sitting-letter entries Spent sent journal spare seat = absurd seat
