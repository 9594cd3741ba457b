-- A letter of a network of a run is lost or delivered, and nodes halt or go on.
use Rattle.std.proofs.Common.{◌≡◌, ℕ, zero, suc, ◌+◌, ◌-◌, ◌≤◌, ◌<◌, Bool, true, false, ◌||◌, eqb}
use Rattle.std.proofs.Common.{List, [], ◌∷◌, ◌++◌, map, length, is_some, refl, sym, ap, ◌∙◌, subst}
use Rattle.std.proofs.Common.{arith}
use Rattle.std.specs.Prelude.{slice_get}
use Rattle.std.proofs.lemmas.Bool.{ne_eqb, eq-eqb, true≢false}
use Rattle.cam_type.specs.declared.ObjectDecl.{ObjectDecl}
use Rattle.cam_event.specs.declared.LetterId.{LetterId}
use Rattle.cam_event.specs.declared.Event.{Event}
use Rattle.cam_event.specs.declared.Letter.{Letter}
use Rattle.cam_event.specs.Inputs.{Receives, node_of}
use Rattle.cam_wire.specs.Laws.{IsSpelled}
use Rattle.cam_net.specs.Letters.{InFlightFields, put_as, unless_lost, has_letter, changed_at}
use Rattle.cam_net.specs.Letters.{changed, as_lost, as_delivered}
use Rattle.cam_runs.specs.Running.{letters, has_number}
use Rattle.cam_runs.specs.Standing.{Standing}
use Rattle.cam_runs.specs.HaltedLines.{lose}
use Rattle.cam_histories.specs.Network.{IsLetter, AreLetters}
use Rattle.cam_histories.specs.Flight.{AreInFlight, with_put, IsNetworkOf}
use Rattle.cam_histories.specs.FlightLaws.{LoseStands, DeliveredStands, HaltsStand, has_delivered}
use Rattle.cam_histories.proofs.Flying.{IsSameAt, same_letters, changed_letter}

-- a change of a letter that leaves its bytes
pub record KeepsBytes (f : InFlightFields → InFlightFields) : Type 0 where
  pub bytes : (kept : InFlightFields) → (f kept).bytes ≡ kept.bytes

flight_changed : (f : InFlightFields → InFlightFields) (objects : List ObjectDecl) (t : List Event)
    (net : List InFlightFields) (unput : List Letter)
    (ids : List LetterId) (place : ℕ) → KeepsBytes f → AreInFlight objects t net unput ids
    → AreInFlight objects t (changed_at f net place) unput ids
flight_changed f objects t [] unput ids place keeps are = are
flight_changed f objects t (kept ∷ net) unput [] zero keeps are = elim are [ ]
flight_changed f objects t (kept ∷ net) unput [] (suc place) keeps are = elim are [ ]
flight_changed f objects t (kept ∷ net) unput (id ∷ ids) zero keeps are = (
  record {
    letter = are.0.letter;
    sent = are.0.sent;
    bytes = keeps.bytes kept ∙ are.0.bytes;
    spells = subst (λ (bs : List ℕ). IsSpelled are.0.letter bs)
        (sym (keeps.bytes kept)) are.0.spells;
  },
  are.1,
)
flight_changed f objects t (kept ∷ net) unput (id ∷ ids) (suc place) keeps are =
    (are.0, flight_changed f objects t net unput ids place keeps are.1)

-- a letter of the network stands at the same place with those after it
changed_behind : (f : InFlightFields → InFlightFields) (net more : List InFlightFields) (place : ℕ)
    → place < length net
    → changed_at f (net ++ more) place ≡ changed_at f net place ++ more
changed_behind f [] more place within = absurd (omega (arith, within))
changed_behind f (kept ∷ net) more zero within = refl
changed_behind f (kept ∷ net) more (suc place) within =
    ap (λ xs. kept ∷ xs) (changed_behind f net more place (omega (arith, within)))

changed_length : (f : InFlightFields → InFlightFields) (net : List InFlightFields) (place : ℕ)
    → length (changed_at f net place) ≡ length net
changed_length f [] place = refl
changed_length f (kept ∷ net) zero = refl
changed_length f (kept ∷ net) (suc place) = ap (λ n. suc n) (changed_length f net place)

longer : (net more : List InFlightFields) → length net ≤ length (net ++ more)
longer [] more = omega arith
longer (kept ∷ net) more = let rest = longer net more in omega (arith, rest)

before : (place : ℕ) → suc place - 1 ≡ place
before place = omega arith

not_zero : (place : ℕ) → eqb (suc place) 0 ≡ false
not_zero place = ne_eqb (suc place) 0 (λ e. omega (arith, e))

changed_is : (f : InFlightFields → InFlightFields) (xs : List InFlightFields) (place : ℕ)
    → changed f xs (suc place) ≡ changed_at f xs place
changed_is f xs place = rw (not_zero place, before place) refl

-- the number that is noted now is noted, and the others are as they were
noted_now : (numbers : List ℕ) (k : ℕ) → has_number (k ∷ numbers) k ≡ true
noted_now numbers k = ap (λ b. b || has_number numbers k) (eq-eqb k k refl)

noted_other : (numbers : List ℕ) (k j : ℕ) → (j ≡ k → ⊥)
    → has_number (k ∷ numbers) j ≡ has_number numbers j
noted_other numbers k j off = ap (λ b. b || has_number numbers j) (ne_eqb k j (λ e. off (sym e)))

-- one of the network's letters is changed, and the same is told of all others
module _ (f : InFlightFields → InFlightFields) (objects : List ObjectDecl) (st new : Standing)
    (net : List InFlightFields) (unput : List Letter)
    (halted : List Bool) (place : ℕ) (keeps : KeepsBytes f) (within : place < length net)
    (trace : new.running.trace ≡ st.running.trace)
    (nodes : new.halted ≡ st.halted) (others : (k : ℕ) → (k ≡ suc place → ⊥) → IsSameAt st new k)
    (one : (id : LetterId) (kept : InFlightFields) → IsLetter st (suc place) id kept
    → IsLetter new (suc place) id (f kept)) where
  all : length net ≤ length (with_put net unput)
  all = longer net (map put_as unput)

  same : with_put (changed_at f net place) unput ≡ changed_at f (with_put net unput) place
  same = sym (changed_behind f net (map put_as unput) place within)

  as_long : length (with_put (changed_at f net place) unput) ≡ length (with_put net unput)
  as_long = ap length same ∙ changed_length f (with_put net unput) place

  here : 1 + place ≡ suc place
  here = omega arith

  pub one_changed : IsNetworkOf objects st net unput halted
      → IsNetworkOf objects new (changed_at f net place) unput halted
  one_changed is = record {
    stands = record {
      letters = subst (λ (t : List Event). AreLetters new 1 (letters t)
          (with_put (changed_at f net place) unput)) (sym trace)
          (subst (AreLetters new 1 (letters st.running.trace)) (sym same)
          (changed_letter st new f 1 place (letters st.running.trace) (with_put net unput)
          (λ id. ap (λ (t : List Event). node_of t (Receives id)) trace)
          (λ k off. others k (λ e. off (e ∙ sym here)))
          (λ id kept is. subst (λ (n : ℕ). IsLetter new n id (f kept)) (sym here)
          (one id kept (subst (λ (n : ℕ). IsLetter st n id kept) here is)))
          is.stands.letters));
      nodes = λ node low high. is.stands.nodes node low high ∙ ap
          (λ (hs : List ℕ). has_number hs node) (sym nodes);
    };
    flight = subst (λ (t : List Event). AreInFlight objects t (changed_at f net place) unput
        (letters t)) (sym trace)
        (flight_changed f objects st.running.trace net unput
        (letters st.running.trace) place keeps is.flight);
    lost = λ number above. (others number (λ e. omega (arith, e, above, as_long, all, within))).lost
        ∙ is.lost number (omega (arith, above, as_long));
    delivered = λ number above. (others number
        (λ e. omega (arith, e, above, as_long, all, within))).delivered ∙ is.delivered number
        (omega (arith, above, as_long));
  }

has_place : (xs : List InFlightFields) (place : ℕ)
    → is_some (unless_lost (slice_get xs place)) ≡ true → place < length xs
has_place [] place has = absurd (true≢false (sym has))
has_place (x ∷ xs) zero has = omega arith
has_place (x ∷ xs) (suc place) has = let rest = has_place xs place has in omega (arith, rest)

letter_at : (xs : List InFlightFields) (place : ℕ)
    → has_letter xs (suc place) ≡ is_some (unless_lost (slice_get xs place))
letter_at xs place = rw (not_zero place, before place) refl

pub lose_stands : LoseStands
lose_stands objects st net halted zero has is = absurd (true≢false (sym has))
lose_stands objects st net halted (suc place) has is =
    subst (λ xs. IsNetworkOf objects (lose st (suc place)) xs [] halted)
    (sym (changed_is as_lost net place))
    (one_changed as_lost objects st (lose st (suc place)) net [] halted place
    (record { bytes = λ kept. refl })
    (has_place net place (sym (letter_at net place) ∙ has)) refl refl
    (λ k off. record { lost = noted_other st.running.lost (suc place) k off; delivered = refl })
    (λ id kept one. record {
      receiver = one.receiver;
      low = one.low;
      high = one.high;
      lost = sym (noted_now st.running.lost (suc place));
      delivered = one.delivered;
    }) is)

pub delivered_stands : DeliveredStands
delivered_stands objects st net unput halted zero low high is = absurd (omega (arith, low))
delivered_stands objects st net unput halted (suc place) low high is =
    subst (λ xs. IsNetworkOf objects (has_delivered (suc place) st) xs unput halted)
    (sym (changed_is as_delivered net place))
    (one_changed as_delivered objects st (has_delivered (suc place) st) net unput halted place
    (record { bytes = λ kept. refl })
    (omega (arith, high)) refl refl
    (λ k off. record {
      lost = refl;
      delivered = noted_other st.running.delivered
          (suc place) k off;
    })
    (λ id kept one. record {
      receiver = one.receiver;
      low = one.low;
      high = one.high;
      lost = one.lost;
      delivered = sym (noted_now st.running.delivered (suc place));
    }) is)

-- the same letters, where other nodes are halted
pub halts_stand : HaltsStand
halts_stand objects old new net unput halted again same nodes is = record {
  stands = record {
    letters = subst (λ (t : List Event). AreLetters new 1 (letters t) (with_put net unput))
        (sym same.trace)
        (same_letters old new 1 (letters old.running.trace) (with_put net unput)
        (λ id i. ap (λ (t : List Event). node_of t (Receives id)) same.trace)
        (λ k low high. record {
          lost = ap (λ (ns : List ℕ). has_number ns k) same.lost;
          delivered = ap (λ (ns : List ℕ). has_number ns k) same.delivered;
        })
        is.stands.letters);
    nodes = nodes;
  };
  flight = subst (λ (t : List Event). AreInFlight objects t net unput (letters t))
      (sym same.trace) is.flight;
  lost = λ number above. ap (λ (ns : List ℕ). has_number ns number) same.lost ∙ is.lost number
      above;
  delivered = λ number above. ap (λ (ns : List ℕ). has_number ns number) same.delivered ∙
      is.delivered number above;
}
