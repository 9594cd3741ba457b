-- A letter is handed over: the node to which it goes has nothing to do with it, or took a turn.
use Rattle.std.proofs.Common.{◌≡◌, ℕ, ◌+◌, ◌<◌, Bool, List, length, get_or, inl, inr, sym, ap, ◌∙◌, subst, arith}
use Rattle.std.specs.Prelude.{None, Some, option_map, slice_get}
use Rattle.std.proofs.lemmas.Bool.{cases_lt}
use Rattle.std.proofs.lemmas.Option.{same_Some, slice_get-map, slice_get_within}
use Rattle.atomic_table.specs.Seated.{TableId}
use Rattle.cam_journal.specs.declared.entry.NumberedEvent.{NumberedEvent}
use Rattle.cam_journal.specs.declared.entry.SentLetter.{SentLetter}
use Rattle.cam_journal.specs.declared.input.CoreInput.{CoreInput}
use Rattle.cam_journal.specs.declared.input.CoreInput.TheVariants as inputs
use Rattle.cam_journal.specs.Seats.{Mention, Sitting}
use Rattle.cam_hall.specs.declared.item.ItemOf.{ItemOf}
use Rattle.cam_hall.specs.declared.item.ItemOf.TheVariants.{Drive, Letter}
use Rattle.cam_hall.specs.Turns.{core_input}
use Rattle.cam_hall.specs.Ending.{IsItem, Left}
use Rattle.cam_hall.proofs.Places.{here_too}
use Rattle.cam_workers.specs.Rest.{AreHandedOver, IsDone, IsDoneWith, IsHandedOver, IsSent, Stood, stood}

module _ {S E L : Type 0} where
  -- the history of a seat that code reads at a place
  pub seat_history : (left : Left S E L) (seats : List (Sitting E L)) (at : ℕ)
      (seat : Sitting E L) → seats ≡ left.seats → seat ≡ get_or seats at seat
      → at < length left.seats → slice_get (stood left).histories at ≡ Some seat.history
  seat_history left seats at seat same is within =
      slice_get-map (λ (one : Sitting E L). one.history) left.seats at
      ∙ ap (option_map (λ (one : Sitting E L). one.history))
      (here_too seats left.seats at seat same is within)

module _ {S E L : Type 0} (sends : E → List L) (goes_to : L → ℕ) (is_idle : S → CoreInput L → Bool)
  where
    -- a letter that was found, where the node to which it goes is done with it
    pub not_due : (now : Stood S E L) (at index place : ℕ) (history : List (NumberedEvent E L))
        (sent : SentLetter L) → slice_get now.histories at ≡ Some history
        → IsSent sends history index place sent
        → ((to : ℕ) → goes_to sent.letter ≡ to + 1 → to < 4
        → IsDone is_idle now to (inputs.Letter sent.number sent.place sent.letter))
        → IsHandedOver sends goes_to is_idle now at index place
    not_due now at index place history sent stands is done other entry letter to other_at entry_at
        letter_at goes within =
        let same : history ≡ other = same_Some history other (sym stands ∙ other_at) in
        let found =
        is.is entry
        (subst (λ (h : List (NumberedEvent E L)). slice_get h index ≡ Some entry) (sym same)
        entry_at) in
        let its : sent.letter ≡ letter = same_Some sent.letter letter (sym found.1 ∙ letter_at) in
        let goes_there : goes_to sent.letter ≡ to + 1 = ap goes_to its ∙ goes in
        subst (λ (n : ℕ). IsDoneWith sends goes_to is_idle now to n place) (sym found.0)
        (record {
          letter = sent.letter;
          sent = record { at = at; history = history; stands = stands; is = is.stands };
          goes = goes_there;
          done =
              subst (λ (p : ℕ). IsDone is_idle now to (inputs.Letter sent.number p sent.letter))
              is.place_is (done to goes_there within);
        })

    -- a node that took a turn by itself is done with that
    pub driven : (left : Left S E L) (id : TableId) (at node : ℕ) → node ≡ at + 1
        → (item : ItemOf (Mention L)) (there : ℕ) → there + 1 ≡ node
        → IsItem sends goes_to id left.seats node None item
        → IsDone is_idle (stood left) there (core_input item)
        → IsDone is_idle (stood left) at inputs.Drive
    driven left id at node is Drive there is_place is_item done =
        let here : there ≡ at = omega (arith, is_place, is) in
        subst (λ (k : ℕ). IsDone is_idle (stood left) k inputs.Drive) here done
    driven left id at node is (Letter note) there is_place is_item done = absurd is_item

    -- a letter that was found, with which the node to which it goes has taken a turn
    pub turned : (left : Left S E L) (id : TableId) (at index place node : ℕ)
        (history : List (NumberedEvent E L)) (sent : SentLetter L)
        → slice_get (stood left).histories at ≡ Some history
        → IsSent sends history index place sent → node ≡ goes_to sent.letter
        → (item : ItemOf (Mention L)) (there : ℕ) → there + 1 ≡ node
        → IsItem sends goes_to id left.seats node (Some (sent.number, place)) item
        → IsDone is_idle (stood left) there (core_input item)
        → IsHandedOver sends goes_to is_idle (stood left) at index place
    turned left id at index place node history sent stands is to_is Drive there is_place is_item
        done other entry letter to other_at entry_at letter_at goes within = absurd is_item
    turned left id at index place node history sent stands is to_is (Letter note) there is_place
        is_item done other entry letter to other_at entry_at letter_at goes within =
        let same : history ≡ other = same_Some history other (sym stands ∙ other_at) in
        let found =
        is.is entry
        (subst (λ (h : List (NumberedEvent E L)). slice_get h index ≡ Some entry) (sym same)
        entry_at) in
        let its : sent.letter ≡ letter = same_Some sent.letter letter (sym found.1 ∙ letter_at) in
        let to_there : node ≡ to + 1 = to_is ∙ ap goes_to its ∙ goes in
        let here : there ≡ to = omega (arith, is_place, to_there) in
        let its_seat = is_item.letter.seat in
        subst (λ (n : ℕ). IsDoneWith sends goes_to is_idle (stood left) to n place) (sym found.0)
        (record {
          letter = note.sent.letter;
          sent = record {
            at = is_item.letter.at;
            history = its_seat.history;
            stands =
                slice_get-map (λ (one : Sitting E L). one.history) left.seats is_item.letter.at
                ∙ ap (option_map (λ (one : Sitting E L). one.history)) is_item.letter.stands;
            is = is_item.letter.is;
          };
          goes = is_item.letter.goes ∙ to_there;
          done =
              subst
              (λ (p : ℕ).
              IsDone is_idle (stood left) to (inputs.Letter sent.number p note.sent.letter))
              is_item.place_is
              (subst
              (λ (n : ℕ).
              IsDone is_idle (stood left) to (inputs.Letter n note.sent.place note.sent.letter))
              is_item.number_is
              (subst (λ (k : ℕ). IsDone is_idle (stood left) k (core_input (Letter note))) here
              done));
        })

    -- All letters of an event are handed over, where those at so many places are.
    pub all_places : (now : Stood S E L) (at index many : ℕ) (history : List (NumberedEvent E L))
        → slice_get now.histories at ≡ Some history
        → ((entry : NumberedEvent E L) → slice_get history index ≡ Some entry
        → many ≡ length (sends entry.event))
        → ((place : ℕ) → place < many → IsHandedOver sends goes_to is_idle now at index place)
        → AreHandedOver sends goes_to is_idle now at index
    all_places now at index many history stands count each place other entry letter to other_at
        entry_at letter_at goes within =
        let same : history ≡ other = same_Some history other (sym stands ∙ other_at) in
        let long : many ≡ length (sends entry.event) =
        count entry
        (subst (λ (h : List (NumberedEvent E L)). slice_get h index ≡ Some entry) (sym same)
        entry_at) in
        let less = slice_get_within (sends entry.event) place letter letter_at in
        each place (omega (arith, long, less)) other entry letter to other_at entry_at letter_at goes
        within

    -- All letters of a history are, where those of so many events are.
    pub all_events : (now : Stood S E L) (at many : ℕ) (history : List (NumberedEvent E L))
        → slice_get now.histories at ≡ Some history → many ≡ length history
        → ((index : ℕ) → index < many → AreHandedOver sends goes_to is_idle now at index)
        → (index : ℕ) → AreHandedOver sends goes_to is_idle now at index
    all_events now at many history stands long each index place other entry letter to other_at
        entry_at letter_at goes within =
        let same : history ≡ other = same_Some history other (sym stands ∙ other_at) in
        let less =
        slice_get_within history index entry
        (subst (λ (h : List (NumberedEvent E L)). slice_get h index ≡ Some entry) (sym same)
        entry_at) in
        each index (omega (arith, long, less)) place other entry letter to other_at entry_at letter_at
        goes within

-- A fact of each number below one holds of each number below the next.
pub one_more : (P : ℕ → Type 0) (many : ℕ) → ((k : ℕ) → k < many → P k) → P many → (k : ℕ)
    → k < many + 1 → P k
one_more P many below here k less =
    elim (cases_lt k many) [
      | inl under ↦ below k under
      | inr over ↦ let same : many ≡ k = omega (arith, less, over) in subst P same here
    ]
