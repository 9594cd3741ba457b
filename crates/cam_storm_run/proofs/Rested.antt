-- Where nodes that run are at rest, nothing is left to do: so what is gathered from them is settled,
-- unless one of them is full.
use Rattle.std.proofs.Common.{◌≡◌, ◌≢◌, ◌⊎◌, inl, inr, ℕ, zero, suc, ◌+◌, ◌<◌, ◌≤◌, Bool, true, false, List, [], ◌∷◌, length, get_or, map, refl, sym, ap, ◌∙◌, subst, arith}
use Rattle.std.specs.Prelude.{Some, option_map, slice_get}
use Rattle.std.proofs.lemmas.Bool.{cases_eq}
use Rattle.std.proofs.lemmas.Option.{same_Some, slice_get-get_or, slice_get-map, slice_get_within}
use Rattle.cam_event.specs.ByDeltas.{Received}
use Rattle.cam_event.specs.declared.Want.{Want}
use Rattle.cam_names.specs.declared.name.Name.{Name}
use Rattle.cam_journal.specs.declared.entry.NumberedEvent.{NumberedEvent}
use Rattle.cam_journal.specs.declared.input.CoreInput.{CoreInput}
use Rattle.cam_journal.specs.declared.input.CoreInput.TheVariants.{Drive, Letter}
use Rattle.cam_journal.specs.Gathered.{AreSeats}
use Rattle.cam_journal.specs.Seats.{Sitting, letter_at}
use Rattle.cam_hall.specs.Ending.{IsLeft, Left}
use Rattle.cam_hall.specs.Turns.{IsStanding, most_events}
use Rattle.cam_hall.proofs.Places.{place_of}
use Rattle.cam_workers.specs.Rest.{IsAtRest, stood}
use Rattle.cam_gen.specs.Storms.{Words, tops_of}
use Rattle.cam_storm.specs.Events.{Copied, Stepped}
use Rattle.cam_storm.specs.Core.{is_idle}
use Rattle.cam_storm.specs.Lawful.{goes_to, own_history, sends}
use Rattle.cam_storm.specs.Laws.{IsGathered, NothingLeft, events_of}
use Rattle.cam_storm.specs.Own.{OwnRequest, event_in}
use Rattle.cam_storm.specs.Runs.{received}
use Rattle.cam_storm.proofs.Idle.{idle_has_received, idle_is_quiet}
use Rattle.cam_storm.proofs.Settling.{gathered_are_settled}
use Rattle.cam_storm_node.specs.Playing.{IsCore, StormNodeFields, cell_of, is_idle_by, is_over}
use Rattle.cam_storm_node.proofs.Played.{idle_same}
use Rattle.cam_storm_run.specs.Storms.{IsSettled}
use Rattle.cam_storm_run.proofs.InRun.{count_in_run, same_letter}

-- what stands at a place of a list that is seen through a function
pub mapped_at : {X Y : Type 0} (f : X → Y) (xs : List X) (at : ℕ) (y : Y)
    → slice_get (map f xs) at ≡ Some y → (x : X) × (slice_get xs at ≡ Some x) × (f x ≡ y)
mapped_at f [] at y there = absurd (cc)
mapped_at f (x ∷ xs) zero y there = (x, refl, same_Some (f x) y there)
mapped_at f (x ∷ xs) (suc at) y there = mapped_at f xs at y there

-- a seat whose history is full
abbrev IsFull : List (Sitting Stepped Copied) → Type 0
IsFull seats =
    (at : ℕ) × (seat : Sitting Stepped Copied) × (slice_get seats at ≡ Some seat)
    × (length seat.history ≡ most_events)

-- none is
abbrev pub NoneFull : List (Sitting Stepped Copied) → Type 0
NoneFull seats =
    (at : ℕ) (seat : Sitting Stepped Copied) → slice_get seats at ≡ Some seat
    → length seat.history ≢ most_events

find_full : (seats : List (Sitting Stepped Copied)) → IsFull seats ⊎ NoneFull seats
find_full [] = inr (λ at seat there full. cc)
find_full (seat ∷ seats) = by (cases_eq (length seat.history) most_events) (find_full seats)
  where
    by : (length seat.history ≡ most_events) ⊎ (length seat.history ≢ most_events)
        → IsFull seats ⊎ NoneFull seats → IsFull (seat ∷ seats) ⊎ NoneFull (seat ∷ seats)
    by (inl full) rest = inl (0, seat, refl, full)
    by (inr room) (inl full) = inl (suc full.0, full.1, full.2, full.3)
    by (inr room) (inr none) = inr (at_each room none)
      where
        at_each : length seat.history ≢ most_events → NoneFull seats → NoneFull (seat ∷ seats)
        at_each room none zero other there full =
            room (ap (λ (s : Sitting Stepped Copied). length s.history) (same_Some seat other there)
            ∙ full)
        at_each room none (suc at) other there full = none at other there full

module _ {S : Type 0} (fields : S → StormNodeFields) (words : Words) (failures : ℕ → ℕ)
    (left : Left S Stepped Copied)
    (is : IsLeft (λ core s history. IsCore words failures (fields core) s history) left)
    (four : left.journal.nodes ≡ 4)
    (on : (at : ℕ) (core : S) → slice_get left.cores at ≡ Some core → is_over (fields core) ≡ false)
    (rest : IsAtRest sends goes_to (λ core input. is_idle_by (fields core) input) (stood left))
  where
    -- the core beside a seat, and what holds of both
    pub record Beside (at : ℕ) (seat : Sitting Stepped Copied) : Type 0 where
      pub core : S
      pub core_at : slice_get left.cores at ≡ Some core
      pub low : at < 4
      pub number : seat.node ≡ at + 1
      pub plays : IsCore words failures (fields core) (at + 1) seat.history

    pub beside : (at : ℕ) (seat : Sitting Stepped Copied) → slice_get left.seats at ≡ Some seat
        → Beside at seat
    beside at seat there =
        let seats = is.seats in
        let cores = is.cores in
        let within = slice_get_within left.seats at seat there in
        let core = place_of left.cores at (omega (arith, within, seats, cores)) in
        let standing =
        is.each at (record { core = core.0; seat = seat })
        (record { core = core.1; seat = there }) in
        record {
          core = core.0;
          core_at = core.1;
          low = omega (arith, within, seats, four);
          number = standing.number;
          plays = standing.replay;
        }

    -- the history of a seat stands at its place
    history_at : (at : ℕ) (seat : Sitting Stepped Copied) → slice_get left.seats at ≡ Some seat
        → slice_get (stood left).histories at ≡ Some seat.history
    history_at at seat there =
        slice_get-map (λ (one : Sitting Stepped Copied). one.history) left.seats at
        ∙ (λ i. option_map (λ (one : Sitting Stepped Copied). one.history) (there i))

    module _ (room : NoneFull left.seats) where
      -- a node that has room has nothing to do with what it is done with
      idle_there : (at : ℕ) (seat : Sitting Stepped Copied) (item : CoreInput Copied)
          → slice_get left.seats at ≡ Some seat → (there : Beside at seat)
          → (is_idle_by (fields there.core) item ≡ true) ⊎ (length seat.history ≡ most_events)
          → is_idle words (cell_of (fields there.core) there.plays.plays.sent) item ≡ true
      idle_there at seat item seat_at there (inl idle) =
          idle_same words (fields there.core) (at + 1) seat.history there.plays.plays item ∙ idle
      idle_there at seat item seat_at there (inr full) = absurd (room at seat seat_at full)

      -- so it has created its top actions, and none of its actions has a request
      quiet_at : (at : ℕ) (seat : Sitting Stepped Copied) → slice_get left.seats at ≡ Some seat
          → (tops_of words seat.node ≤ length seat.history)
          × ((a : Name) (want : Want)
          → OwnRequest words seat.node (own_history seat.history) a want → ⊥)
      quiet_at at seat seat_at =
          let there = beside at seat seat_at in
          let quiet =
          idle_is_quiet words (cell_of (fields there.core) there.plays.plays.sent) (at + 1)
          seat.history there.plays.plays.replay (on at there.core there.core_at)
          (idle_there at seat Drive seat_at there
          ((rest at there.low).driven there.core seat.history there.core_at
          (history_at at seat seat_at))) in
          subst
          (λ (s : ℕ).
          (tops_of words s ≤ length seat.history)
          × ((a : Name) (want : Want) → OwnRequest words s (own_history seat.history) a want → ⊥))
          (sym there.number) quiet

      -- and has received each letter as often as it has copies
      delivered_at : (gathered : List (ℕ × Stepped)) → IsGathered words left.seats gathered
          → (at other : ℕ) (seat receiver : Sitting Stepped Copied)
          → slice_get left.seats at ≡ Some seat → slice_get left.seats other ≡ Some receiver
          → (index place : ℕ) (entry : NumberedEvent Stepped Copied) (c : Copied)
          → slice_get seat.history index ≡ Some entry
          → slice_get entry.event.letters place ≡ Some c → c.letter.to ≡ receiver.node
          → c.copies
          ≤ received (map event_in (own_history receiver.history))
          (record { event = entry.number; place = place })
      delivered_at gathered all at other seat receiver seat_at receiver_at index place entry c
          entry_at c_at to =
          let sender = beside at seat seat_at in
          let there = beside other receiver receiver_at in
          let done =
          (rest at sender.low).handed index place seat.history entry c other
          (history_at at seat seat_at) entry_at c_at (to ∙ there.number) there.low in
          let from =
          mapped_at (λ (one : Sitting Stepped Copied). one.history) left.seats done.sent.at
          done.sent.history done.sent.stands in
          let same : done.letter ≡ c =
          same_letter words left.seats gathered all at done.sent.at index place seat from.0 entry c
          done.letter seat_at from.1 entry_at c_at
          (subst
          (λ (h : List (NumberedEvent Stepped Copied)).
          letter_at sends h entry.number place ≡ Some done.letter)
          (sym from.2) done.sent.is) in
          idle_has_received words (cell_of (fields there.core) there.plays.plays.sent) (other + 1)
          receiver.history entry.number place c there.plays.plays.replay
          (on other there.core there.core_at)
          (idle_there other receiver (Letter entry.number place c) receiver_at there
          (subst
          (λ (d : Copied).
          (is_idle_by (fields there.core) (Letter entry.number place d) ≡ true)
          ⊎ (length receiver.history ≡ most_events))
          same
          (done.done there.core receiver.history there.core_at
          (history_at other receiver receiver_at))))

      nothing_left : (gathered : List (ℕ × Stepped)) → IsGathered words left.seats gathered
          → NothingLeft words left.seats
      nothing_left gathered all = record {
        started = λ k d within.
            (quiet_at k (get_or left.seats k d) (slice_get-get_or left.seats k d within)).0;
        quiet = λ k d within.
            (quiet_at k (get_or left.seats k d) (slice_get-get_or left.seats k d within)).1;
        delivered = λ k d within m e inside index place entry c.
            delivered_at gathered all k m (get_or left.seats k d) (get_or left.seats m e)
            (slice_get-get_or left.seats k d within) (slice_get-get_or left.seats m e inside) index
            place entry c;
      }

    pub settled : (gathered : List (ℕ × Stepped)) → IsGathered words left.seats gathered
        → AreSeats left.journal left.seats → IsSettled words (events_of gathered)
    settled gathered all seats = by (find_full left.seats)
      where
        by : IsFull left.seats ⊎ NoneFull left.seats → IsSettled words (events_of gathered)
        by (inl full) =
            let there = beside full.0 full.1 full.2 in
            let number = there.number in
            let low = there.low in
            inr (record {
              node = full.1.node;
              low = omega (arith, number);
              high = omega (arith, number, low);
              full = count_in_run words left.seats gathered all full.0 full.1 full.2 ∙ full.3;
            })
        by (inr room) =
            inl
            (gathered_are_settled words left.journal left.seats gathered four seats all
            (nothing_left room gathered all))
