-- A letter is handed over to its node: what the node wants for the step, and what the works keep
-- then.
use Rattle.std.proofs.Common.{◌≡◌, ℕ, suc, ◌+◌, ◌≤◌, ◌<◌, false, List, [], ◌∷◌, length, Some}
use Rattle.std.proofs.Common.{is_some, refl, sym, ap, ◌∙◌, subst, arith}
use Rattle.std.specs.Prelude.{slice_get}
use Rattle.std.specs.List.{AllByRecursion}
use Rattle.std.proofs.lemmas.Option.{same_Some}
use Rattle.cam_type.specs.declared.ObjectDecl.{ObjectDecl}
use Rattle.cam_event.specs.declared.Event.{Event}
use Rattle.cam_event.specs.declared.Letter.{Letter}
use Rattle.cam_event.specs.declared.LetterId.{LetterId}
use Rattle.cam_event.specs.Inputs.{Receives}
use Rattle.cam_net.specs.Letters.{as_delivered, changed}
use Rattle.cam_net.specs.Waiting.{is_halted}
use Rattle.cam_net.proofs.Changes.{has_within}
use Rattle.cam_node.specs.declared.Input.TheVariants as inputs
use Rattle.cam_node.specs.Calls.{load_of, mail_of}
use Rattle.cam_node.specs.Log.{Logged}
use Rattle.cam_runs.specs.Running.{has_number}
use Rattle.cam_runs.specs.Standing.{Standing, deliver, put}
use Rattle.cam_runs.proofs.Delivering.{letters_sent, letter_numbered}
use Rattle.cam_script.specs.declared.Script.{Script}
use Rattle.cam_script.specs.Law.{IsScript}
use Rattle.cam_histories.specs.FlightLaws.{has_delivered}
use Rattle.cam_histories.specs.InputLaws.{held_setting, halt_of}
use Rattle.cam_histories.specs.Laws.{history_of}
use Rattle.cam_histories.specs.Whole.{Site, AreSitesOf, StandsAt}
use Rattle.cam_wire.specs.Writable.{IsWritable}
use Rattle.cam_histories.proofs.Changing.{delivered_stands}
use Rattle.cam_histories.proofs.ManyPut.{all_may_be_written}
use Rattle.cam_histories.proofs.Stepping.{letters_are_put}
use Rattle.cam_cluster.specs.declared.works.Put.{Put}
use Rattle.cam_cluster.specs.declared.works.letters.Coming.{Coming}
use Rattle.cam_cluster.specs.Coming.{AreWorksOfSome, HasDelivered, HasFound, HasRead}
use Rattle.cam_cluster.specs.Puts.{HasPut, IsPutAt, as_halt}
use Rattle.cam_cluster.specs.Works.{NodeFields, WorksFields, KeepsRun, sites_of}
use Rattle.cam_cluster.proofs.BegunLine.{few_events, within}
use Rattle.cam_cluster.proofs.ComingLetters.{has_it}
use Rattle.cam_cluster.proofs.PlacedNodes.{after_is}

-- Where neither events nor halted nodes change, the nodes stand as before.
same_sites : (objects : List ObjectDecl) (old new : Standing) (first : ℕ) (sites : List Site)
    → new.running.trace ≡ old.running.trace → new.halted ≡ old.halted
    → AreSitesOf objects old first sites → AreSitesOf objects new first sites
same_sites objects old new first [] trace halted are = tt
same_sites objects old new first (site ∷ sites) trace halted are = (
  record {
    number = are.0.number;
    stands = λ awake. rw trace (are.0.stands (ap (λ (hs : List ℕ). has_number hs first) (sym halted)
        ∙ awake));
  },
  same_sites objects old new (first + 1) sites trace halted are.1,
)

-- a letter counts as delivered
pub counts_as_delivered : (script : Script) (st : Standing) (works : WorksFields)
    (may : ℕ → Logged → Type 0) (number : ℕ) → 1 ≤ number → number ≤ length works.outbox.net
    → KeepsRun script st works may
    → KeepsRun script (has_delivered number st)
    (record works {
      outbox =
          record {
            net = changed as_delivered works.outbox.net number;
            unput = works.outbox.unput;
          };
    }) may
counts_as_delivered script st works may number low high keeps = record {
  under = record {
    run = keeps.under.run;
    below = keeps.under.below;
    waits = keeps.under.waits;
    works = keeps.under.works;
    bound = keeps.under.bound;
    placed = keeps.under.placed;
    decided = keeps.under.decided;
  };
  one_each = keeps.one_each;
  eight = keeps.eight;
  nodes = keeps.nodes;
  whole = record {
    nodes = same_sites _ _ _ _ _ refl refl keeps.whole.nodes;
    network =
        delivered_stands script.objects st works.outbox.net works.outbox.unput works.halted number
        low high keeps.whole.network;
  };
  halts = keeps.halts;
  undecided = keeps.undecided;
  sent = keeps.sent;
  events = keeps.events;
  all_marks = keeps.all_marks;
  few = keeps.few;
  stops = keeps.stops;
}

-- A letter is handed over.
module _ (line number : ℕ) (coming : Coming) (letter : Letter) (old : WorksFields)
    (might : ℕ → Logged → Type 0) (found : HasFound number old might (Some coming))
    (none_left : old.outbox.unput ≡ []) (awake : is_halted old.halted (suc coming.place) ≡ false)
    (read : HasRead coming.letter old might letter) where
  -- the letter is put to its node
  put_so : (script : Script) (st : Standing) → IsScript script → KeepsRun script st old might
      → coming.place < 8
      → IsPutAt script st coming.place (Receives coming.letter)
      (mail_of (inputs.Letter coming.letter letter))
      (load_of (inputs.Letter coming.letter letter))
  put_so script st is keeps within =
      let f = found script st is keeps in
      let r = read script st is keeps in
      record {
        coming = record {
          may =
              letters_sent st.running.trace coming.letter (letter_numbered st.running number _
              f.0);
          awake =
              ap (has_number st.halted) f.1 ∙ sym (keeps.whole.network.stands.nodes (coming.place +
              1) (omega arith) (omega (arith, within))) ∙ ap (is_halted old.halted) (after_is
              coming.place) ∙ awake;
          idle = tt;
        };
        at = f.1;
        is_put =
            letters_are_put script.objects st.running.trace coming.letter r.mail letter r.sent
            r.read;
      }

  pub handed : (done : Put) (mid : WorksFields) (may : ℕ → Logged → Type 0) → coming.place < 8
      → HasPut line coming.place (inputs.Letter coming.letter letter) old might done mid may
      → length old.outbox.net ≤ length mid.outbox.net
      → HasDelivered line number old might done
      (record mid {
        outbox =
            record {
              net = changed as_delivered mid.outbox.net number;
              unput = mid.outbox.unput;
            };
      }) may
  handed done mid may within has more script st halts restarted id is keeps numbered halt =
      let f = found script st is keeps in
      let same : coming.letter ≡ id = same_Some coming.letter id (sym f.0 ∙ numbered) in
      let in_net =
      has_within old.outbox.net number (has_it script st old might keeps none_left number ∙ ap
      is_some numbered) in
      rw (← same) (counts_as_delivered script (put (held_setting script.objects halts line
      restarted) st (Receives coming.letter)) mid may number in_net.0 (omega (arith, in_net, more))
      (has script st halts restarted is keeps (put_so script st is keeps within) (rw same halt)))

-- what its node gives for the step
pub node_awake : (works : WorksFields) (may : ℕ → Logged → Type 0) (place : ℕ)
    → AreWorksOfSome works may → is_halted works.halted (suc place) ≡ false
    → (node : NodeFields) → slice_get works.nodes place ≡ Some node → node.halted ≡ false
node_awake works may place some awake node at =
    (some.keeps.nodes place node at).is_halted
    ∙ ap (is_halted works.halted) (after_is place) ∙ awake

pub place_within : (works : WorksFields) (may : ℕ → Logged → Type 0) (place : ℕ)
    → AreWorksOfSome works may → place < length works.nodes → place < 8
place_within works may place some there =
    within some.script some.standing works may some.is_script some.keeps _ there

-- letters that are put next may be written
pub works_may_be_written : (works : WorksFields) (may : ℕ → Logged → Type 0)
    → AreWorksOfSome works may → AllByRecursion IsWritable works.outbox.unput
works_may_be_written works may some =
    (all_may_be_written some.script.objects (has_number some.standing.taken) some.standing
    works.outbox.net works.outbox.unput works.halted some.keeps.under.run
    some.is_script.object_limit (few_events _ _ _ _ some.keeps) some.keeps.whole.network).0
