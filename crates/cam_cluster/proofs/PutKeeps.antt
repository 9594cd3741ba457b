-- What the works keep of a run, where letters are put or a node finds no memory.
use Rattle.std.proofs.Common.{◌≡◌, ℕ, ◌+◌, ◌≤◌, ◌<◌, true, false}
use Rattle.std.proofs.Common.{List, [], length, set, Some}
use Rattle.std.proofs.Common.{refl, sym, ap, ◌∙◌, subst, arith}
use Rattle.std.specs.Prelude.{slice_get}
use Rattle.std.proofs.lemmas.Bool.{true≢false}
use Rattle.std.proofs.lemmas.List.{length-reverse}
use Rattle.cam_event.specs.declared.Event.{Event}
use Rattle.cam_event.specs.ByDeltas.{Received}
use Rattle.cam_locks.specs.Site.{Site}
use Rattle.cam_net.specs.Outbox.{OutboxFields, HasPutSome}
use Rattle.cam_node.specs.Calls.{AreSame}
use Rattle.cam_node.specs.Log.{Logged}
use Rattle.cam_node.specs.LogOrder.{IsInOrder}
use Rattle.cam_recman.specs.Says.{Says}
use Rattle.cam_runs.specs.Running.{has_number}
use Rattle.cam_runs.specs.Standing.{Standing}
use Rattle.cam_script.specs.declared.Script.{Script}
use Rattle.cam_script.specs.Law.{IsScript}
use Rattle.cam_histories.specs.Laws.{history_of}
use Rattle.cam_histories.specs.Whole.{KeepsInOrder, StandsAt, IsSiteOf, AreSitesOf}
use Rattle.cam_histories.proofs.ManyPut.{all_may_be_written, some_put_stand}
use Rattle.cam_histories.proofs.Sites.{site_at, sites_with}
use Rattle.cam_cluster.specs.declared.works.failing.Failed.{Failed}
use Rattle.cam_cluster.specs.Failing.{KnowsMore}
use Rattle.cam_cluster.specs.Works.{NodeFields, WorksFields, IsUnfailing, KeepsRun}
use Rattle.cam_cluster.specs.Works.{HasTellingDisk, sites_of}
use Rattle.cam_cluster.proofs.HaltsKept.{undecided_on}
use Rattle.cam_cluster.proofs.NodeChanged.{KeepsNodes, kept_nodes, as_many, halts_are, nodes_are}
use Rattle.cam_cluster.proofs.NodeChanged.{sites_are}
use Rattle.cam_cluster.proofs.SameNode.{same_represents}
use Rattle.cam_cluster.proofs.Failures.{unfailing_more}
use Rattle.cam_cluster.proofs.StoppedWorks.{nodes_stopped, unfailing_before}
use Rattle.cam_cluster.proofs.WorksNodes.{site_there}

-- Letters that were to be put next are put.
pub keeps_as_put : (script : Script) (st : Standing) (works : WorksFields) (now : OutboxFields)
    (may : ℕ → Logged → Type 0)
    → IsScript script → HasPutSome works.outbox now → KeepsRun script st works may
    → KeepsRun script st (record works { outbox = now }) may
keeps_as_put script st works now may is some keeps = record {
  under = keeps.under;
  one_each = keeps.one_each;
  eight = keeps.eight;
  nodes = keeps.nodes;
  whole = record {
    nodes = keeps.whole.nodes;
    network =
        some_put_stand script.objects st works.outbox now works.halted
        (all_may_be_written script.objects (has_number st.taken) st works.outbox.net
        works.outbox.unput works.halted keeps.under.run is.object_limit
        (let few = keeps.few in
        let long = ap (λ (es : List Event). length es) keeps.events
        ∙ length-reverse st.running.trace in
        omega (arith, few, long)) keeps.whole.network).1
        some keeps.whole.network;
  };
  halts = keeps.halts;
  undecided = keeps.undecided;
  sent = keeps.sent;
  events = keeps.events;
  all_marks = keeps.all_marks;
  few = keeps.few;
  stops = keeps.stops;
}

-- More is known to have failed.
pub keeps_failing : (script : Script) (st : Standing) (works : WorksFields) (known : Failed)
    (may : ℕ → Logged → Type 0) → KnowsMore works.failed known
    → KeepsRun script st works may → KeepsRun script st (record works { failed = known }) may
keeps_failing script st works known may more keeps = record {
  under = keeps.under;
  one_each = keeps.one_each;
  eight = keeps.eight;
  nodes = keeps.nodes;
  whole = keeps.whole;
  halts = keeps.halts;
  undecided = keeps.undecided;
  sent = keeps.sent;
  events = keeps.events;
  all_marks = keeps.all_marks;
  few = keeps.few;
  stops = record {
    said = λ s all. keeps.stops.said s (unfailing_more works.failed known works.nodes s more all);
    each = λ place node at all.
        keeps.stops.each place node at
        (unfailing_more works.failed known works.nodes (place + 1) more all);
  };
}

-- One node of works has changed, with its disk alone.
module _ (script : Script) (st : Standing) (place : ℕ) (works : WorksFields)
    (might : ℕ → Logged → Type 0) (old : NodeFields) (keeps : KeepsRun script st works might)
    (there : slice_get works.nodes place ≡ Some old) (new : NodeFields)
    (may : ℕ → Logged → Type 0) (nodes : List NodeFields) (are : nodes ≡ set works.nodes place new)
    (objects : new.objects ≡ old.objects)
    (others : (s : ℕ) (logged : Logged) → 1 ≤ s → (s ≡ place + 1 → ⊥) → may s logged
    → might s logged) where
  abbrev kept : KeepsNodes script st place works might
  kept = kept_nodes _ _ _ _ _ keeps

  -- It answers as before, and its log lists what it listed.
  module _ (within : place < 8) (ran : old.halted ≡ false) (runs : new.halted ≡ false)
      (same : AreSame old.site.node new.site.node)
      (entries : new.site.entries ≡ old.site.entries) (passes : new.passes ≡ old.passes)
      (less : HasTellingDisk new → HasTellingDisk old) where
    awake : has_number st.halted (place + 1) ≡ false
    awake =
        sym (keeps.whole.network.stands.nodes (place + 1) (omega arith) (omega (arith, within)))
        ∙ sym (keeps.nodes place old there).is_halted ∙ ran

    off : (m : ℕ) → has_number st.halted m ≡ true → (m ≡ place + 1 → ⊥)
    off m said e = true≢false (sym said ∙ ap (has_number st.halted) e ∙ awake)

    site_was : IsSiteOf script.objects st (place + 1) old.site
    site_was =
        subst (λ (s : ℕ). IsSiteOf script.objects st s old.site) (omega arith)
        (site_at script.objects st 1 place (sites_of works.nodes) old.site keeps.whole.nodes
        (site_there works.nodes place old there))

    abbrev mine : List Received
    mine = history_of script.objects st.running.trace (place + 1)

    log_is : StandsAt script.objects (place + 1) mine old.site
        → KeepsInOrder script.objects (place + 1) mine new.site
    log_is was =
        let kept = was.log.keeps in record {
          keeps = record {
            recovered = kept.recovered;
            says = rw entries kept.says;
            is_log = kept.is_log;
          };
          order = rw same.server.site was.log.order;
        }

    site_is : IsSiteOf script.objects st (place + 1) new.site
    site_is = record {
      number = same.number ∙ site_was.number;
      stands = λ still. record {
        represents = same_represents _ _ _ _ same (site_was.stands still).represents;
        log = log_is (site_was.stands still);
      };
    }

    so_before : (m : ℕ) → IsUnfailing works.failed nodes m
        → IsUnfailing works.failed works.nodes m
    so_before = unfailing_before works.failed works.nodes nodes place old new there are less

    pub keeps_as_before : KeepsRun script st (record works { nodes = nodes }) may
    keeps_as_before = record {
      under = keeps.under;
      one_each =
          as_many script st place works might old kept there new may nodes are objects others;
      eight = keeps.eight;
      nodes =
          nodes_are script st place works might old kept there new may nodes are objects others
          works.halted
          (runs ∙ sym ran ∙ (keeps.nodes place old there).is_halted) (λ m low away. refl);
      whole = record {
        nodes =
            subst (AreSitesOf script.objects st 1)
            (sites_are script st place works might old kept there new may nodes are objects others)
            (sites_with script.objects st st (place + 1) new.site site_is (λ m n away is. is) 1
            place (sites_of works.nodes) (omega arith) keeps.whole.nodes);
        network = keeps.whole.network;
      };
      halts = λ q n at said.
          halts_are script st place works might old kept there new may nodes are objects others st
          (λ m is. (off m is, is)) (λ m low away. refl)
          (λ m away. undecided_on script.objects st st m [] refl refl keeps.under.placed) q n at
          said;
      undecided = keeps.undecided;
      sent = keeps.sent;
      events = keeps.events;
      all_marks = keeps.all_marks;
      few = keeps.few;
      stops =
          nodes_stopped script.objects st.running.trace st.running.trace st.halted st.halted
          st.turns st.turns place works.nodes nodes old new there are (λ m away. refl)
          (λ m away. refl) (λ m away. refl) (λ m away. refl)
          (IsUnfailing works.failed works.nodes) (IsUnfailing works.failed nodes)
          (λ m away all. so_before m all) (λ s all. keeps.stops.said s (so_before s all))
          (λ all. record {
            awake = λ still.
                passes ∙ (keeps.stops.each place old there (so_before (place + 1) all)).awake still;
            by_stop = λ said. absurd (true≢false (sym said ∙ awake));
          })
          keeps.stops;
    }
