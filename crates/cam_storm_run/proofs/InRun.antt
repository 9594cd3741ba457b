-- The history of each seat is that of its node in the run that is gathered.
use Rattle.std.proofs.Common.{◌≡◌, ℕ, zero, suc, ◌+◌, ◌==◌, Bool, true, false, if◌then◌else◌, List, [], ◌∷◌, length, get_or, map, reverse, refl, sym, ap, ◌∙◌, subst, arith}
use Rattle.std.specs.Prelude.{Some, slice_get}
use Rattle.std.proofs.lemmas.Bool.Decides.{nat_tests}
use Rattle.std.proofs.lemmas.List.{length-reverse, length-map, reverse-reverse}
use Rattle.std.proofs.lemmas.Option.{get_or_from_slice_get, same_Some, slice_get_within}
use Rattle.cam_event.specs.declared.Event.{Event}
use Rattle.cam_event.specs.ByDeltas.{Received}
use Rattle.cam_delta.proofs.Growing.{history}
use Rattle.cam_journal.specs.declared.entry.NumberedEvent.{NumberedEvent}
use Rattle.cam_journal.specs.declared.entry.RunStep.{RunStep}
use Rattle.cam_journal.specs.Seats.{Sitting, letter_at}
use Rattle.cam_journal.specs.Trace.{history_of}
use Rattle.cam_journal.proofs.Histories.{history_of-found}
use Rattle.cam_gen.specs.Storms.{Words, objects_of}
use Rattle.cam_storm.specs.Events.{Copied, Stepped}
use Rattle.cam_storm.specs.Runs.{own_count}
use Rattle.cam_storm.specs.Lawful.{own_history, sends}
use Rattle.cam_storm.specs.Laws.{IsGathered, events_of}
use Rattle.cam_storm.proofs.Counted.{count_own}
use Rattle.cam_storm.proofs.Turned.{AreTurned, own_of, own_turned, trace_of}
use Rattle.cam_storm.proofs.Gathered.{all_hold, gathered_turned}
use Rattle.cam_storm.proofs.GatheredInputs.{Holds}

-- a letter of a number stands with an event of that number
letter_stands : (entries : List (NumberedEvent Stepped Copied)) (number place : ℕ) (c : Copied)
    → letter_at sends entries number place ≡ Some c
    → (at : ℕ) × (entry : NumberedEvent Stepped Copied) × (slice_get entries at ≡ Some entry)
    × (entry.number ≡ number) × (slice_get (sends entry.event) place ≡ Some c)
letter_stands [] number place c is = absurd (cc)
letter_stands (e ∷ entries) number place c is =
    by (e.number == number) refl is (letter_stands entries number place c)
  where
    by : (b : Bool) → (e.number == number) ≡ b
        → (if b then slice_get (sends e.event) place else letter_at sends entries number place)
        ≡ Some c
        → (letter_at sends entries number place ≡ Some c
        → (at : ℕ) × (entry : NumberedEvent Stepped Copied) × (slice_get entries at ≡ Some entry)
        × (entry.number ≡ number) × (slice_get (sends entry.event) place ≡ Some c))
        → (at : ℕ) × (entry : NumberedEvent Stepped Copied)
        × (slice_get (e ∷ entries) at ≡ Some entry) × (entry.number ≡ number)
        × (slice_get (sends entry.event) place ≡ Some c)
    by true test is rest = (0, e, refl, grind (arith, nat_tests), is)
    by false test is rest =
        let found = rest is in
        (suc found.0, found.1, found.2, found.3, found.4)

module _ (words : Words) (seats : List (Sitting Stepped Copied)) (gathered : List (ℕ × Stepped))
    (all : IsGathered words seats gathered) where
  abbrev xs : List (RunStep Stepped Copied)
  xs = reverse all.trace

  is : AreTurned words xs × (events_of gathered ≡ trace_of xs)
  is = gathered_turned words seats gathered all

  holds : Holds words xs
  holds = all_hold words xs is.0

  own_is : (s : ℕ) → own_history (history_of s all.trace) ≡ own_of s xs
  own_is s =
      ap (λ (l : List (RunStep Stepped Copied)). own_history (history_of s l))
      (sym (reverse-reverse all.trace))
      ∙ own_turned s xs

  seat_is : (at : ℕ) (seat : Sitting Stepped Copied) → slice_get seats at ≡ Some seat
      → seat.history ≡ history_of seat.node all.trace
  seat_is at seat there =
      let same : get_or seats at seat ≡ seat = get_or_from_slice_get seats at seat seat there in
      subst (λ (s : Sitting Stepped Copied). s.history ≡ history_of s.node all.trace) same
      (all.histories at seat (slice_get_within seats at seat there))

  pub own_in_run : (at : ℕ) (seat : Sitting Stepped Copied) → slice_get seats at ≡ Some seat
      → own_history seat.history ≡ history (objects_of words) (events_of gathered) seat.node
  own_in_run at seat there =
      ap own_history (seat_is at seat there) ∙ own_is seat.node ∙ holds.own seat.node
      ∙ ap (λ (t : List Event). history (objects_of words) t seat.node) (sym is.1)

  pub count_in_run : (at : ℕ) (seat : Sitting Stepped Copied) → slice_get seats at ≡ Some seat
      → own_count (events_of gathered) seat.node ≡ length seat.history
  count_in_run at seat there =
      let long : length (own_history seat.history) ≡ length seat.history =
      length-map (reverse seat.history) _ ∙ length-reverse seat.history in
      let own =
      ap (λ (h : List Received). length h) (own_in_run at seat there)
      ∙ count_own (objects_of words) (events_of gathered) seat.node in
      sym own ∙ long

  -- letters of one number and place are one letter
  pub same_letter : (at other index place : ℕ) (seat sender : Sitting Stepped Copied)
      (entry : NumberedEvent Stepped Copied) (c d : Copied) → slice_get seats at ≡ Some seat
      → slice_get seats other ≡ Some sender → slice_get seat.history index ≡ Some entry
      → slice_get (sends entry.event) place ≡ Some c
      → letter_at sends sender.history entry.number place ≡ Some d → d ≡ c
  same_letter at other index place seat sender entry c d seat_at sender_at entry_at c_at d_at =
      let one =
      history_of-found seat.node all.trace index entry
      (subst (λ (h : List (NumberedEvent Stepped Copied)). slice_get h index ≡ Some entry)
      (seat_is at seat seat_at) entry_at) in
      let stands = letter_stands sender.history entry.number place d d_at in
      let two =
      history_of-found sender.node all.trace stands.0 stands.1
      (subst (λ (h : List (NumberedEvent Stepped Copied)). slice_get h stands.0 ≡ Some stands.1)
      (seat_is other sender sender_at) stands.2) in
      let step : two.0 ≡ one.0 =
      same_Some two.0 one.0
      (sym two.1 ∙ ap (λ (n : ℕ). slice_get all.trace n) stands.3 ∙ one.1) in
      let event : stands.1.event ≡ entry.event =
      sym two.2 ∙ ap (λ (x : RunStep Stepped Copied). x.event) step ∙ one.2 in
      same_Some d c
      (sym stands.4 ∙ ap (λ (e : Stepped). slice_get (sends e) place) event ∙ c_at)
