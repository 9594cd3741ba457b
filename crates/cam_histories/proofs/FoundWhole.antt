-- Nodes, logs and network that stand for a run stand for it with the taken event put in.
use Rattle.std.proofs.Common.{◌≡◌, ℕ, ◌+◌, Bool, true, List, [], ◌∷◌}
use Rattle.std.proofs.Common.{◌++◌, map, length, option_map, sym, ap, ◌∙◌}
use Rattle.std.proofs.Common.{subst}
use Rattle.std.proofs.lemmas.Bool.{true≢false}
use Rattle.cam_type.specs.declared.ObjectDecl.{ObjectDecl}
use Rattle.cam_event.specs.declared.Event.{Event}
use Rattle.cam_event.specs.declared.Letter.{Letter}
use Rattle.cam_event.specs.declared.LetterId.{LetterId}
use Rattle.cam_event.specs.Readings.{by_knowledge}
use Rattle.cam_net.specs.Letters.{InFlightFields}
use Rattle.cam_wire.specs.OfTrace.{letter_with, letter_of}
use Rattle.cam_runs.specs.Running.{letters, has_number}
use Rattle.cam_runs.specs.Standing.{Standing}
use Rattle.cam_histories.specs.Laws.{history_of}
use Rattle.cam_histories.specs.Flight.{AreSent, AreInFlight, with_put}
use Rattle.cam_histories.specs.Network.{AreLetters}
use Rattle.cam_histories.specs.PutIn.{moved_letter, nameless, put_in, IsUnseen}
use Rattle.cam_histories.specs.Found.{with_taken_in}
use Rattle.cam_histories.specs.FoundWhole.{WholesStand}
use Rattle.cam_histories.specs.Whole.{Site, IsSiteOf, AreSitesOf, IsWhole}
use Rattle.cam_histories.proofs.PutIn.{histories_are_moved, loads_are_moved}
use Rattle.cam_histories.proofs.FoundSent.{letters_later, letter_later, addressee_later}
use Rattle.cam_histories.proofs.NamelessNodes.{stands_alike}

module _ (objects : List ObjectDecl) (s : ℕ) (behind before : List Event) (e : Event)
    (st : Standing) (unseen : IsUnseen s behind e) (was : st.running.trace ≡ behind ++ before)
    (halted : has_number st.halted s ≡ true)
  where
    abbrev later : Standing
    later = with_taken_in s behind e before st

    abbrev p : ℕ
    p = length before

    -- the nodes
    site_later : (m : ℕ) (site : Site) → IsSiteOf objects st m site → IsSiteOf objects later m site
    site_later m site is = record {
      number = is.number;
      stands = λ awake.
          stands_alike objects (history_of objects st.running.trace m)
          (history_of objects (put_in behind e before) m)
          (ap (λ t. map nameless (history_of objects t m)) was
          ∙ sym (histories_are_moved objects s m behind before e unseen
          (λ same. true≢false (sym halted ∙ ap (has_number st.halted) same ∙ awake))))
          m site (is.stands awake);
    }

    sites_later : (m : ℕ) (sites : List Site) → AreSitesOf objects st m sites
        → AreSitesOf objects later m sites
    sites_later m [] are = tt
    sites_later m (site ∷ sites) are =
        (site_later m site are.0, sites_later (m + 1) sites are.1)

    -- the letters
    numbered_later : (number : ℕ) (ids : List LetterId) (net : List InFlightFields)
        → AreLetters st number ids net → AreLetters later number (map (moved_letter p) ids) net
    numbered_later number [] [] are = tt
    numbered_later number [] (kept ∷ net) are = absurd are
    numbered_later number (id ∷ ids) [] are = absurd are
    numbered_later number (id ∷ ids) (kept ∷ net) are = (
      record {
        receiver =
            are.0.receiver ∙ sym (addressee_later s behind before e st unseen.mute was id);
        low = are.0.low;
        high = are.0.high;
        lost = are.0.lost;
        delivered = are.0.delivered;
      },
      numbered_later (number + 1) ids net are.1,
    )

    sent_later : (id : LetterId)
        → letter_of (by_knowledge objects) later.running.trace (moved_letter p id)
        ≡ letter_of (by_knowledge objects) st.running.trace id
    sent_later id =
        λ i. option_map (letter_with (loads i))
        (letter_later s behind before e st unseen.mute was id i)
      where
        loads : (by_knowledge objects).carried (put_in behind e before) (moved_letter p id)
            ≡ (by_knowledge objects).carried st.running.trace id
        loads =
            loads_are_moved objects s behind before e id unseen
            ∙ ap (λ t. (by_knowledge objects).carried t id) (sym was)

    unput_later : (unput : List Letter) (ids : List LetterId)
        → AreSent objects st.running.trace unput ids
        → AreSent objects later.running.trace unput (map (moved_letter p) ids)
    unput_later [] [] are = tt
    unput_later [] (id ∷ ids) are = absurd are
    unput_later (letter ∷ unput) [] are = absurd are
    unput_later (letter ∷ unput) (id ∷ ids) are =
        (sent_later id ∙ are.0, unput_later unput ids are.1)

    flight_later : (net : List InFlightFields) (unput : List Letter) (ids : List LetterId)
        → AreInFlight objects st.running.trace net unput ids
        → AreInFlight objects later.running.trace net unput (map (moved_letter p) ids)
    flight_later [] unput ids are = unput_later unput ids are
    flight_later (kept ∷ net) unput [] are = absurd are
    flight_later (kept ∷ net) unput (id ∷ ids) are = (
      record {
        letter = are.0.letter;
        sent = sent_later id ∙ are.0.sent;
        bytes = are.0.bytes;
        spells = are.0.spells;
      },
      flight_later net unput ids are.1,
    )

    pub whole_later : (sites : List Site) (net : List InFlightFields) (unput : List Letter)
        (asleep : List Bool) → IsWhole objects st sites net unput asleep
        → IsWhole objects later sites net unput asleep
    whole_later sites net unput asleep whole = record {
      nodes = sites_later 1 sites whole.nodes;
      network = record {
        stands = record {
          letters =
              subst (λ ids. AreLetters later 1 ids (with_put net unput)) (sym ids)
              (numbered_later 1 (letters st.running.trace) (with_put net unput)
              whole.network.stands.letters);
          nodes = whole.network.stands.nodes;
        };
        flight =
            subst (AreInFlight objects later.running.trace net unput) (sym ids)
            (flight_later net unput (letters st.running.trace) whole.network.flight);
        lost = whole.network.lost;
        delivered = whole.network.delivered;
      };
    }
      where
        ids : letters later.running.trace ≡ map (moved_letter p) (letters st.running.trace)
        ids = letters_later s behind before e st unseen.mute was

pub wholes_stand : WholesStand
wholes_stand objects s before e lost found sites net unput asleep stands whole =
    subst (λ x. IsWhole objects x sites net unput asleep) (sym stands.is)
    (whole_later objects s stands.behind before e lost stands.unseen stands.was stands.halted sites
    net unput asleep whole)
