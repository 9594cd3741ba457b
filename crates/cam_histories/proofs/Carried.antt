-- A network of a run goes on with one more event.
use Rattle.std.proofs.Common.{◌≡◌, ℕ, ◌+◌, ◌≤◌, ◌<◌, true, false, List, [], ◌∷◌, ◌++◌, map, length}
use Rattle.std.proofs.Common.{Option, Some, None, is_some, refl, sym, ap, ◌∙◌, subst, arith}
use Rattle.std.specs.Option.{option_map_or}
use Rattle.cam_type.specs.declared.ObjectDecl.{ObjectDecl}
use Rattle.cam_event.specs.declared.LetterId.{LetterId}
use Rattle.cam_event.specs.declared.Event.{Event}
use Rattle.cam_event.specs.declared.Letter.{Letter}
use Rattle.cam_event.specs.Inputs.{Mail, letter_at}
use Rattle.cam_event.proofs.Members.{In}
use Rattle.cam_agree.proofs.Ran.{Ran}
use Rattle.cam_wire.specs.OfTrace.{letter_with}
use Rattle.cam_net.specs.Letters.{InFlightFields, put_as}
use Rattle.cam_runs.specs.Running.{letters, ids_from, has_number}
use Rattle.cam_runs.specs.Standing.{Standing, addressee}
use Rattle.cam_runs.proofs.Delivering.{letters_sent}
use Rattle.cam_histories.specs.Network.{AreLetters}
use Rattle.cam_histories.specs.Flight.{IsSent, AreSent, AreInFlight, with_put}
use Rattle.cam_histories.specs.FlightLaws.{NewNetworkStands, EventSends}
use Rattle.cam_histories.proofs.Echoing.{Travels}
use Rattle.cam_histories.proofs.InRange.{travels}
use Rattle.cam_histories.proofs.Staying.{letters_stay}
use Rattle.cam_histories.proofs.Flying.{same_letters, letters_behind}
use Rattle.cam_histories.proofs.Handing.{SentAs, sent_as, as_sent}

pub new_network_stands : NewNetworkStands
new_network_stands objects halted awake = record {
  stands = record { letters = tt; nodes = awake };
  flight = tt;
  lost = λ number above. refl;
  delivered = λ number above. refl;
}

-- what was sent stays sent
sent_stays : (objects : List ObjectDecl) (t : List Event) (e : Event) (id : LetterId)
    (letter : Letter) → IsSent objects t id letter
    → IsSent objects (e ∷ t) id letter
sent_stays objects t e id letter sent =
    let is : SentAs objects t id letter = sent_as objects t id letter sent in
    let stay = letters_stay objects t e id is.mail is.at in
    as_sent objects (e ∷ t) id is.mail stay.0
    ∙ (λ i. Some (letter_with (stay.1 i) is.mail)) ∙ ap Some is.is

all_stay : (objects : List ObjectDecl) (t : List Event) (e : Event) (unput : List Letter)
    (ids : List LetterId)
    → AreSent objects t unput ids → AreSent objects (e ∷ t) unput ids
all_stay objects t e [] [] are = tt
all_stay objects t e [] (id ∷ ids) are = elim are [ ]
all_stay objects t e (letter ∷ unput) [] are = elim are [ ]
all_stay objects t e (letter ∷ unput) (id ∷ ids) are =
    (sent_stays objects t e id letter are.0, all_stay objects t e unput ids are.1)

flight_stays : (objects : List ObjectDecl) (t : List Event) (e : Event) (net : List InFlightFields)
    (unput : List Letter) (ids : List LetterId)
    → AreInFlight objects t net unput ids → AreInFlight objects (e ∷ t) net unput ids
flight_stays objects t e [] unput ids are = all_stay objects t e unput ids are
flight_stays objects t e (kept ∷ net) unput [] are = elim are [ ]
flight_stays objects t e (kept ∷ net) unput (id ∷ ids) are = (
  record {
    letter = are.0.letter;
    sent = sent_stays objects t e id are.0.letter are.0.sent;
    bytes = are.0.bytes;
    spells = are.0.spells;
  },
  flight_stays objects t e net unput ids are.1,
)

-- letters after letters
flight_behind : (objects : List ObjectDecl) (t : List Event) (net : List InFlightFields)
    (sent : List Letter) (ids more : List LetterId)
    → AreInFlight objects t net [] ids → AreSent objects t sent more
    → AreInFlight objects t net sent (ids ++ more)
flight_behind objects t [] sent [] more are behind = behind
flight_behind objects t [] sent (id ∷ ids) more are behind = elim are [ ]
flight_behind objects t (kept ∷ net) sent [] more are behind = elim are [ ]
flight_behind objects t (kept ∷ net) sent (id ∷ ids) more are behind =
    (are.0, flight_behind objects t net sent ids more are.1 behind)

-- the letters of one more event
new_letters : (objects : List ObjectDecl) (st : Standing) (number : ℕ) (sent : List Letter)
    (ids : List LetterId) → Ran objects st.running.trace
    → ((k : ℕ) → number ≤ k → (has_number st.running.lost k ≡ false)
    × (has_number st.running.delivered k ≡ false))
    → AreSent objects st.running.trace sent ids → AreLetters st number ids (map put_as sent)
new_letters objects st number [] [] run none are = tt
new_letters objects st number [] (id ∷ ids) run none are = elim are [ ]
new_letters objects st number (letter ∷ sent) [] run none are = elim are [ ]
new_letters objects st number (letter ∷ sent) (id ∷ ids) run none are = (
  record {
    receiver = to;
    low = subst (λ (n : ℕ). 1 ≤ n) (ap (λ (l : Letter). l.to) is.is) way.to.0;
    high = subst (λ (n : ℕ). n ≤ 8) (ap (λ (l : Letter). l.to) is.is) way.to.1;
    lost = sym (none number (omega arith)).0;
    delivered = sym (none number (omega arith)).1;
  },
  new_letters objects st (number + 1) sent ids run (λ k low. none k (omega (arith, low))) are.1,
)
  where
    is : SentAs objects st.running.trace id letter
    is = sent_as objects st.running.trace id letter are.0

    way : Travels st.running.trace is.mail
    way = travels objects st.running.trace run id is.mail is.at

    to : letter.to ≡ addressee st id
    to = sym (ap (λ (l : Letter). l.to) is.is) ∙ sym
        (ap (λ o. option_map_or (λ (m : Mail). m.to) o 0) is.at)

-- those that were there are for the same nodes
same_node : (e : Event) (old new : Standing) → new.running.trace ≡ e ∷ old.running.trace
    → (objects : List ObjectDecl) (id : LetterId)
    → In id (letters old.running.trace) → addressee new id ≡ addressee old id
same_node e old new trace objects id i = by (letter_at old.running.trace id) refl
    (letters_sent old.running.trace id i)
  where
    by : (o : Option Mail) → letter_at old.running.trace id ≡ o → is_some o ≡ true
        → addressee new id ≡ addressee old id
    by None at there = cc
    by (Some mail) at there =
        ap (λ (t : List Event). option_map_or (λ (m : Mail). m.to) (letter_at t id) 0) trace
        ∙ ap (λ o. option_map_or (λ (m : Mail). m.to) o 0)
        ((letters_stay objects old.running.trace e id mail at).0 ∙ sym at)

no_more : (net : List InFlightFields) → net ++ [] ≡ net
no_more [] = refl
no_more (kept ∷ net) = ap (λ xs. kept ∷ xs) (no_more net)

longer : (net more : List InFlightFields) → length net ≤ length (net ++ more)
longer [] more = omega arith
longer (kept ∷ net) more = let rest = longer net more in omega (arith, rest)

pub event_sends : EventSends
event_sends objects taken old new e net sent halted run has are is = record {
  stands = record {
    letters = subst (λ (t : List Event). AreLetters new 1 (letters t) (with_put net sent))
        (sym has.trace)
        (letters_behind new 1 (letters old.running.trace)
        (ids_from (length old.running.trace) 0 e.sent) net (map put_as sent) before behind);
    nodes = λ node low high. is.stands.nodes node low high ∙ ap
        (λ (hs : List ℕ). has_number hs node) (sym has.halted);
  };
  flight = subst (λ (t : List Event). AreInFlight objects t net sent (letters t)) (sym has.trace)
      (flight_behind objects (e ∷ old.running.trace) net sent (letters old.running.trace)
      (ids_from (length old.running.trace) 0 e.sent)
      (flight_stays objects old.running.trace e net [] (letters old.running.trace) is.flight) are);
  lost = λ number above. (none_above number (let more = longer net (map put_as sent) in omega
      (arith, above, more))).0;
  delivered = λ number above. (none_above number
      (let more = longer net (map put_as sent) in omega (arith, above, more))).1;
}
  where
    none_above : (number : ℕ) → length net < number
        → (has_number new.running.lost number ≡ false)
        × (has_number new.running.delivered number ≡ false)
    none_above number above =
        let is_net : length (with_put net []) ≡ length net = ap length (no_more net) in (
          ap (λ (ns : List ℕ). has_number ns number) has.lost ∙ is.lost number
              (omega (arith, above, is_net)),
          ap (λ (ns : List ℕ). has_number ns number) has.delivered ∙ is.delivered number
              (omega (arith, above, is_net)),
        )

    there : AreLetters old 1 (letters old.running.trace) net
    there = subst (AreLetters old 1 (letters old.running.trace)) (no_more net) is.stands.letters

    before : AreLetters new 1 (letters old.running.trace) net
    before =
        same_letters old new 1 (letters old.running.trace) net
        (same_node e old new has.trace objects)
        (λ k low high. record {
          lost = ap (λ (ns : List ℕ). has_number ns k) has.lost;
          delivered = ap (λ (ns : List ℕ). has_number ns k) has.delivered;
        }) there

    behind : AreLetters new (1 + length net) (ids_from (length old.running.trace) 0 e.sent)
        (map put_as sent)
    behind =
        new_letters objects new (1 + length net) sent (ids_from (length old.running.trace) 0 e.sent)
        (subst (Ran objects) (sym has.trace) (taken, run))
        (λ k low. none_above k (omega (arith, low)))
        (subst (λ (t : List Event). AreSent objects t sent
        (ids_from (length old.running.trace) 0 e.sent)) (sym has.trace) are)
