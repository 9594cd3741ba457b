-- Deliveries and losses leave all parts of a run standing for it.
use Rattle.std.proofs.Common.{◌≡◌, ℕ, ◌+◌, ◌≤◌, Bool, true}
use Rattle.std.proofs.Common.{List, [], ◌∷◌, ◌++◌}
use Rattle.std.proofs.Common.{length, Some, is_some, refl, sym, ap, ◌∙◌}
use Rattle.std.proofs.Common.{subst}
use Rattle.cam_type.specs.declared.ObjectDecl.{ObjectDecl}
use Rattle.cam_event.specs.declared.Event.{Event}
use Rattle.cam_event.specs.declared.LetterId.{LetterId}
use Rattle.cam_event.specs.declared.Letter.{Letter}
use Rattle.cam_event.specs.Inputs.{Receives}
use Rattle.cam_net.specs.Letters.{InFlightFields, has_letter}
use Rattle.cam_runs.specs.Running.{has_number, letter_of}
use Rattle.cam_runs.specs.UnderHalts.{IsUnderHalts}
use Rattle.cam_runs.specs.Standing.{Standing, Setting, put}
use Rattle.cam_runs.specs.Standing.{deliver}
use Rattle.cam_runs.specs.HaltedLines.{lose}
use Rattle.cam_runs.proofs.Delivering.{letters_sent, letter_numbered}
use Rattle.cam_histories.specs.Network.{StandsFor}
use Rattle.cam_histories.specs.Whole.{Site, StandsAt, AreSitesOf, IsWhole}
use Rattle.cam_histories.specs.LineLaws.{DeliveriesStand, LossesStand, OthersStand}
use Rattle.cam_histories.specs.InputLaws.{held_setting, IsComing, HasPut, with_site}
use Rattle.cam_histories.specs.Laws.{history_of}
use Rattle.cam_net.proofs.Changes.{has_within}
use Rattle.cam_node.specs.Calls.{letters_of}
use Rattle.cam_histories.proofs.Networks.{has_run_letters}
use Rattle.cam_histories.proofs.OneInput.{inputs_lead_on}
use Rattle.cam_histories.proofs.InputsStand.{inputs_stand}
use Rattle.cam_histories.proofs.Changing.{lose_stands, delivered_stands, halts_stand}

-- what changes neither events nor letters nor halted nodes
other_sites : (objects : List ObjectDecl) (old new : Standing) (first : ℕ) (sites : List Site)
    → new.running.trace ≡ old.running.trace → new.halted ≡ old.halted
    → AreSitesOf objects old first sites
    → AreSitesOf objects new first sites
other_sites objects old new first [] trace nodes are = tt
other_sites objects old new first (site ∷ sites) trace nodes are = (
  record {
    number = are.0.number;
    stands = λ awake.
        subst (λ (t : List Event). StandsAt objects first (history_of objects t first) site)
        (sym trace)
        (are.0.stands (ap (λ (hs : List ℕ). has_number hs first) (sym nodes) ∙ awake));
  },
  other_sites objects old new (first + 1) sites trace nodes are.1,
)

pub others_stand : OthersStand
others_stand objects old new sites net unput halted same nodes whole = record {
  nodes = other_sites objects old new 1 sites same.trace nodes whole.nodes;
  network =
      halts_stand objects old new net unput halted halted same
      (λ node low high. whole.network.stands.nodes node low high
      ∙ ap (λ (hs : List ℕ). has_number hs node) (sym nodes)) whole.network;
}

-- a loss
pub losses_stand : LossesStand
losses_stand script st number sites net halted has under whole = (
  record {
    run = under.run;
    below = under.below;
    waits = under.waits;
    works = under.works;
    bound = under.bound;
    placed = under.placed;
    decided = under.decided;
  },
  record {
    nodes = other_sites script.objects st (lose st number) 1 sites refl refl whole.nodes;
    network = lose_stands script.objects st net halted number has whole.network;
  },
)

-- the number of a letter of the run is that of one of the network's
within_net : (xs : List InFlightFields) (number : ℕ) → has_letter xs number ≡ true
    → (1 ≤ number) × (number ≤ length xs)
within_net xs number has = has_within xs number has

numbered : (objects : List ObjectDecl) (st : Standing) (number : ℕ) (id : LetterId)
    (sites : List Site) (net : List InFlightFields)
    (halted : List Bool) → IsWhole objects st sites net [] halted
    → letter_of st.running number ≡ Some id
    → (1 ≤ number) × (number ≤ length net)
numbered objects st number id sites net halted whole is =
    within_net net number (has_run_letters st net halted number stands ∙ ap is_some is)
  where
    no_more : (xs : List InFlightFields) → xs ++ [] ≡ xs
    no_more [] = refl
    no_more (x ∷ xs) = ap (λ ys. x ∷ ys) (no_more xs)

    stands : StandsFor st net halted
    stands = subst (λ xs. StandsFor st xs halted) (no_more net) whole.network.stands

-- a delivery
pub deliveries_stand : DeliveriesStand
deliveries_stand script halts line restarted st number id sites net halted old new mail load event
    under is awake none whole at put_so step keeps = record {
      under = record {
        run = next.run;
        below = next.below;
        waits = next.waits;
        works = next.works;
        bound = next.bound;
        placed = next.placed;
        decided = next.decided;
      };
      trace = has.trace;
      stepped = has.stepped;
      whole = record {
        nodes = other_sites script.objects after (deliver c st number id) 1 sites_now refl refl
            has.whole.nodes;
        network =
            delivered_stands script.objects after net sent halted number there.0 there.1
            has.whole.network;
      };
    }
  where
    c : Setting
    c = held_setting script.objects halts line restarted

    after : Standing
    after = put c st (Receives id)

    sites_now : List Site
    sites_now = with_site st.running.trace (Receives id) sites new

    sent : List Letter
    sent = letters_of new.node event.sent

    coming : IsComing script st (Receives id)
    coming = record {
      may = letters_sent st.running.trace id (letter_numbered st.running number id is);
      awake = awake;
      idle = tt;
    }

    next : IsUnderHalts script after
    next = inputs_lead_on script halts line restarted st (Receives id) under coming

    has : HasPut script c st (Receives id) sites net halted new event
    has =
        inputs_stand script halts line restarted st
        (Receives id) sites net halted old new mail load event
        under coming none whole at put_so step keeps

    there : (1 ≤ number) × (number ≤ length net)
    there = numbered script.objects st number id sites net halted whole is
