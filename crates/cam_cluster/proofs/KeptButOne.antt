-- What is kept of a run, but for the node at a place: it restarts.
use Rattle.std.proofs.Common.{◌≡◌, ℕ, ◌+◌, ◌<◌, length, sym, ap, ◌∙◌}
use Rattle.std.specs.Prelude.{map, reverse}
use Rattle.std.specs.List.{AllByRecursion}
use Rattle.cam_node.specs.Log.{Logged}
use Rattle.cam_runs.specs.Standing.{Standing, Undecided}
use Rattle.cam_runs.specs.UnderHalts.{IsUnderHalts}
use Rattle.cam_runs.proofs.Undecided.{without_node}
use Rattle.cam_script.specs.declared.Script.{Script}
use Rattle.cam_histories.specs.Whole.{IsWhole}
use Rattle.cam_cluster.specs.Works.{WorksFields, IsSentBefore, KeepsRun, open_halt, sites_of}
use Rattle.cam_cluster.specs.Works.{AreStoppedIf, IsUnfailing}
use Rattle.cam_cluster.proofs.HaltsKept.{open_without, others_all, others_open}
use Rattle.cam_cluster.proofs.NodeChanged.{KeepsNodes, kept_nodes}

-- What is kept of a run, but for the node at a place: it restarts.
pub record KeepsBut (script : Script) (st : Standing) (place : ℕ) (works : WorksFields)
    (might : ℕ → Logged → Type 0) : Type 0 where
  pub under : IsUnderHalts script st
  pub kept : KeepsNodes script st place works might
  pub eight : length works.halted ≡ 8
  pub whole :
      IsWhole script.objects st (sites_of works.nodes) works.outbox.net works.outbox.unput
      works.halted
  pub undecided :
      open_without (place + 1) works.undecided
      ≡ map open_halt (without_node (place + 1) st.undecided)
  pub sent :
      AllByRecursion (λ (u : Undecided). IsSentBefore (length st.running.trace) u.event.got)
      (without_node (place + 1) st.undecided)
  pub events : works.events ≡ reverse st.running.trace
  pub all_marks : works.marks ≡ st.running.marks
  pub few : length works.events + 1 < 1000000000
  pub stops :
      AreStoppedIf (λ (s : ℕ). (s ≡ place + 1 → ⊥) × IsUnfailing works.failed works.nodes s)
      script.objects st.running.trace st.halted st.turns works.nodes

-- the run in which the halt is lost, or there was none
pub keeps_but : (script : Script) (st : Standing) (place : ℕ) (works : WorksFields)
    (might : ℕ → Logged → Type 0) → length works.events + 1 < 1000000000
    → KeepsRun script st works might → KeepsBut script st place works might
keeps_but script st place works might few keeps = record {
  under = keeps.under;
  kept = kept_nodes _ _ _ _ _ keeps;
  eight = keeps.eight;
  whole = keeps.whole;
  undecided =
      ap (open_without (place + 1)) keeps.undecided ∙ sym (others_open (place + 1) st.undecided);
  sent =
      others_all (λ (u : Undecided). IsSentBefore (length st.running.trace) u.event.got) _ _
      keeps.sent;
  events = keeps.events;
  all_marks = keeps.all_marks;
  few = few;
  stops = record {
    said = λ s so. keeps.stops.said s so.1;
    each = λ q n at so. keeps.stops.each q n at so.1;
  };
}
