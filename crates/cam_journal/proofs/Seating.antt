-- What the seat of a node keeps, and how contracts see it.
use Rattle.std.proofs.Common.{◌≡◌, ℕ, zero, suc, ◌+◌, ◌-◌, ◌<◌, List, [], ◌∷◌, ◌++◌, length, take, refl, sym, ap, ◌∙◌, subst, ⊎_elim, arith, length-append}
use Rattle.std.specs.Prelude.{All, Option, Some, None, slice_get, min}
use Rattle.std.proofs.lemmas.List.{take-append-le, map-append, length-map}
use Rattle.std.proofs.lemmas.List.Elements.{All-nil, All-head, All-tail}
use Rattle.std.proofs.Math.Seq.{take-append_seam}
use Rattle.atomic_table.specs.Seated.{TableId}
use Rattle.cam_journal.specs.declared.entry.NumberedEvent.{NumberedEvent}
use Rattle.cam_journal.specs.declared.view.SeatView.{SeatView}
use Rattle.cam_journal.specs.declared.view.SeatView.TheVariants.{Maker, Node, Posted, Gatherer, Whole, Spent}
use Rattle.cam_journal.specs.Taking.{IsNext, entry}
use Rattle.cam_journal.specs.Rule.{recorded, IsBelow, CanRecord}
use Rattle.cam_journal.specs.Seats.{Sitting, AreNew, history_in, sitting, with_event, numbered, IsHistory, IsRising, IsSeat}
use Rattle.cam_journal.proofs.Lists.{slice_get-push}
use Rattle.cam_journal.specs.Trace.{EventLaw}

module _ {A : Type 0} where
  -- what holds of each element holds of the one at a place
  pub All-slice_get : (P : A → Type 0) (xs : List A) (k : ℕ) (a : A) → All P xs → slice_get xs k ≡ Some a → P a
  All-slice_get P [] k a each e = absurd (cc)
  All-slice_get P (x ∷ xs) zero a each e = let is : x ≡ a = cc in subst P is (All-head P x xs each)
  All-slice_get P (x ∷ xs) (suc k) a each e = All-slice_get P xs k a (All-tail P x xs each) e

module _ {E L : Type 0} (names : E → Option (ℕ × ℕ)) (lawful : EventLaw E L) where
  IsHistory-push : (node : ℕ) (history : List (NumberedEvent E L)) (last : NumberedEvent E L) → IsHistory lawful node history → lawful node history last.received last.event → IsHistory lawful node (history ++ last ∷ [])
  IsHistory-push node history last each here at one there =
      ⊎_elim
      (λ (t : (at < length history) × (slice_get history at ≡ Some one)).
      let below = t.0 in
      subst (λ (front : List (NumberedEvent E L)). lawful node front one.received one.event) (sym (take-append-le at history (last ∷ []) (omega arith))) (each at one t.1))
      (λ (t : (at ≡ length history) × (last ≡ one)).
      let front : take at (history ++ last ∷ []) ≡ history = ap (λ (k : ℕ). take k (history ++ last ∷ [])) t.0 ∙ take-append_seam history (last ∷ []) in
      subst (λ (p : List (NumberedEvent E L) × NumberedEvent E L). lawful node p.0 p.1.received p.1.event) (λ i. (sym front i, t.1 i)) here)
      (slice_get-push history last one at there)

  IsRising-push : (history : List (NumberedEvent E L)) (last : NumberedEvent E L) → IsRising history → All (λ e. e.number < last.number) history → IsRising (history ++ last ∷ [])
  IsRising-push history last rising below at later one other before first second =
      ⊎_elim
      (λ (s : (later < length history) × (slice_get history later ≡ Some other)).
      ⊎_elim
      (λ (t : (at < length history) × (slice_get history at ≡ Some one)). rising at later one other before t.1 s.1)
      (λ (t : (at ≡ length history) × (last ≡ one)). let end = t.0 in let within = s.0 in absurd (omega arith))
      (slice_get-push history last one at first))
      (λ (s : (later ≡ length history) × (last ≡ other)).
      ⊎_elim
      (λ (t : (at < length history) × (slice_get history at ≡ Some one)).
      subst (λ (e : NumberedEvent E L). one.number < e.number) s.1 (All-slice_get (λ (e : NumberedEvent E L). e.number < last.number) history at one below t.1))
      (λ (t : (at ≡ length history) × (last ≡ one)). let end = t.0 in let there = s.0 in absurd (omega arith))
      (slice_get-push history last one at first))
      (slice_get-push history last other later second)

  -- a seat with one more event
  pub IsSeat-record : (view : SeatView E L) (entries : List (ℕ × E)) (event : E) (number : ℕ) → IsSeat lawful entries view → CanRecord names lawful view event → IsBelow number view → IsSeat lawful (entries ++ (number, event) ∷ []) (recorded names event number view)
  IsSeat-record (Node node history taken) entries event number seat may below =
      let last = entry names number taken event in
      let room = may.1 in (
        ap (λ (xs : List (ℕ × E)). xs ++ (number, event) ∷ []) seat.0 ∙ sym (map-append numbered history (last ∷ [])),
        omega (arith, length-append history (last ∷ [])),
        IsHistory-push node history last seat.2 may.0.allowed,
        IsRising-push history last seat.3 below,
      )
  IsSeat-record (Maker count next) entries event number seat may below = absurd seat
  IsSeat-record (Posted sent) entries event number seat may below = absurd seat
  IsSeat-record (Gatherer count gathered) entries event number seat may below = absurd seat
  IsSeat-record (Whole gathered trace) entries event number seat may below = absurd seat
  IsSeat-record Spent entries event number seat may below = absurd seat

  -- a seat with room whose next event this may be can record it
  pub can_record : (view : SeatView E L) (journal : TableId) (capacity count : ℕ) (entries : List (ℕ × E)) (seat : Sitting E L) (event : E)
      → sitting journal (min capacity 500000000 - count) view ≡ seat → count ≡ length entries → IsSeat lawful entries view → 0 < seat.spare → IsNext names lawful seat.node seat.history seat.taken event → CanRecord names lawful view event
  can_record (Node node history taken) journal capacity count entries seat event is counted kept spare may =
      let room : 0 < min capacity 500000000 - count = subst (λ (s : Sitting E L). 0 < s.spare) (sym is) spare in
      let long = ap length kept.0 in (
        subst (λ (s : Sitting E L). IsNext names lawful s.node s.history s.taken event) (sym is) may,
        omega (arith, long, length-map history numbered),
      )
  can_record (Maker nodes next) journal capacity count entries seat event is counted kept spare may = absurd kept
  can_record (Posted sent) journal capacity count entries seat event is counted kept spare may = absurd kept
  can_record (Gatherer nodes gathered) journal capacity count entries seat event is counted kept spare may = absurd kept
  can_record (Whole gathered trace) journal capacity count entries seat event is counted kept spare may = absurd kept
  can_record Spent journal capacity count entries seat event is counted kept spare may = absurd kept

  -- how contracts see the seat after an event
  pub sitting-record : (view after : SeatView E L) (journal now : TableId) (spare left : ℕ) (entries : List (ℕ × E)) (seat : Sitting E L) (event : E) (number : ℕ)
      → sitting journal spare view ≡ seat → IsSeat lawful entries view → after ≡ recorded names event number view → now ≡ journal → left ≡ spare - 1 → sitting now left after ≡ with_event names number event seat
  sitting-record (Node node history taken) after journal now spare left entries seat event number is kept changed same less =
      let moved : sitting now left after ≡ sitting journal (spare - 1) (recorded names event number (Node node history taken)) = λ i. sitting (same i) (less i) (changed i) in
      moved ∙ ap (λ (s : Sitting E L). with_event names number event s) is
  sitting-record (Maker nodes next) after journal now spare left entries seat event number is kept changed same less = absurd kept
  sitting-record (Posted sent) after journal now spare left entries seat event number is kept changed same less = absurd kept
  sitting-record (Gatherer nodes gathered) after journal now spare left entries seat event number is kept changed same less = absurd kept
  sitting-record (Whole gathered trace) after journal now spare left entries seat event number is kept changed same less = absurd kept
  sitting-record Spent after journal now spare left entries seat event number is kept changed same less = absurd kept

-- the events that contracts see of a seat have numbers below this one
pub below_in : {E L : Type 0} (view : SeatView E L) (number : ℕ) → IsBelow number view → All (λ entry. entry.number < number) (history_in view)
below_in (Node node history taken) number below = below
below_in {E} {L} (Maker nodes next) number below = All-nil (λ (e : NumberedEvent E L). e.number < number)
below_in {E} {L} (Posted sent) number below = All-nil (λ (e : NumberedEvent E L). e.number < number)
below_in {E} {L} (Gatherer nodes gathered) number below = All-nil (λ (e : NumberedEvent E L). e.number < number)
below_in {E} {L} (Whole gathered trace) number below = All-nil (λ (e : NumberedEvent E L). e.number < number)
below_in {E} {L} Spent number below = All-nil (λ (e : NumberedEvent E L). e.number < number)

-- the spare after one more entry that took no memory
pub spare_less : (capacity now count longer spare : ℕ) → min capacity 500000000 - count ≡ spare → now ≡ capacity → longer ≡ count + 1 → min now 500000000 - longer ≡ min capacity 500000000 - count - 1
spare_less capacity now count longer spare is same more = ap (λ (p : ℕ × ℕ). min p.0 500000000 - p.1) (λ i. (same i, more i)) ∙ omega arith

pub room_left : (capacity count spare : ℕ) → min capacity 500000000 - count ≡ spare → 0 < spare → count < capacity
room_left capacity count spare is some = omega arith

module _ {E L : Type 0} where
  pub AreNew-none : (journal : TableId) → AreNew {E = E} {L = L} journal 0 []
  AreNew-none journal = record { count = refl; each = λ at seat there. absurd (cc) }

  -- one more new seat
  pub AreNew-push : (journal : TableId) (count : ℕ) (seats : List (Sitting E L)) (seat : Sitting E L) → AreNew journal count seats → seat.journal ≡ journal → seat.node ≡ count + 1 → seat.history ≡ [] → seat.taken ≡ None → AreNew journal (count + 1) (seats ++ seat ∷ [])
  AreNew-push journal count seats seat new own node history taken = record {
    count = omega (arith, new.count, length-append seats (seat ∷ []));
    each = λ at one there. ⊎_elim
        (λ (t : (at < length seats) × (slice_get seats at ≡ Some one)). new.each at one t.1)
        (λ (t : (at ≡ length seats) × (seat ≡ one)).
        let last = t.0 in
        let counted = new.count in
        subst (λ (s : Sitting E L). (s.journal ≡ journal) × (s.node ≡ at + 1) × (s.history ≡ []) × (s.taken ≡ None)) t.1 (own, omega (arith, node), history, taken))
        (slice_get-push seats seat one at there);
  }

  -- the seat of a node that has no event yet
  pub IsSeat-new : (lawful : EventLaw E L) (entries : List (ℕ × E)) (view : SeatView E L) (node : ℕ) → view ≡ Node node [] None → entries ≡ [] → IsSeat lawful entries view
  IsSeat-new lawful entries view node is none =
      subst (λ (p : List (ℕ × E) × SeatView E L). IsSeat lawful p.0 p.1) (λ i. (sym none i, sym is i)) (refl, omega arith, (λ at one there. absurd (cc)), (λ at later one other before first second. absurd (cc)))
