-- Works of which a disk is stopped, and nothing of what may be read of it changes.
use Rattle.std.proofs.Common.{◌≡◌, ◌⊎◌, inl, inr, ℕ, ◌+◌, ◌≤◌, ◌<◌, Bool, true, false, List, ◌∷◌}
use Rattle.std.proofs.Common.{length, eqb, ◌-◌, get_or, set, Option, Some, refl, sym, ap, ◌∙◌}
use Rattle.std.proofs.Common.{subst, arith}
use Rattle.std.specs.Prelude.{map, slice_get}
use Rattle.std.proofs.lemmas.Bool.{eq-eqb, ne_eqb}
use Rattle.std.proofs.lemmas.List.{length-set, map-set}
use Rattle.std.proofs.lemmas.Option.{same_Some, slice_get-get_or, slice_get_within}
use Rattle.std.proofs.lemmas.Bool.Decides.{eqb_tells}
use Rattle.std.proofs.Math.Seq.{map-set_same}
use Rattle.cam_event.specs.declared.Event.{Event}
use Rattle.cam_event.specs.declared.Mark.{Mark}
use Rattle.cam_net.specs.Outbox.{OutboxFields}
use Rattle.cam_node.specs.Log.{Logged}
use Rattle.cam_runs.specs.Halts.{Stop}
use Rattle.cam_runs.specs.Running.{has_number}
use Rattle.cam_runs.specs.Standing.{Standing}
use Rattle.cam_script.specs.declared.Script.{Script}
use Rattle.cam_histories.specs.Laws.{history_of}
use Rattle.cam_histories.specs.Whole.{Site, IsWhole}
use Rattle.cam_histories.proofs.ManyLines.{others_stand}
use Rattle.cam_cluster.specs.declared.works.failing.Failed.{Failed}
use Rattle.cam_cluster.specs.declared.works.undecided.OpenHalt.{OpenHalt}
use Rattle.cam_cluster.specs.Puts.{HasStopped}
use Rattle.cam_cluster.specs.Stopping.{IsAsStopped}
use Rattle.cam_cluster.specs.Works.{NodeFields, WorksFields, IsHaltOf, IsNodeOf, KeepsRun}
use Rattle.cam_cluster.specs.Works.{IsUnfailing, MayReadAt, sites_of}
use Rattle.cam_cluster.proofs.PlacedNodes.{reads_elsewhere, reads_there, seen_there, taken_there}
use Rattle.cam_cluster.proofs.HaltsKept.{halt_read}
use Rattle.cam_cluster.proofs.PutWorks.{seen}
use Rattle.cam_cluster.proofs.HaltsByStop.{halt_alike}
use Rattle.cam_cluster.proofs.StoppedWorks.{nodes_stopped, unfailing_before}
use Rattle.cam_cluster.proofs.WorksNodes.{set_tells}

-- The disk of a node does so many calls more.
abbrev pub with_passes : Option ℕ → NodeFields → NodeFields
with_passes passes node = record node { passes = passes }

abbrev pub with_stop : ℕ → ℕ → Standing → Standing
with_stop s calls st = record st { turns = Stop s calls ∷ st.turns }

pub stop_keeps : (script : Script) (st : Standing) (works : WorksFields)
    (might may : ℕ → Logged → Type 0) (place calls : ℕ) (old : NodeFields) (nodes : List NodeFields)
    → ((s : ℕ) (logged : Logged) → 1 ≤ s → may s logged → might s logged)
    → slice_get works.nodes place ≡ Some old
    → nodes ≡ set works.nodes place (with_passes (Some calls) old)
    → KeepsRun script st works might
    → KeepsRun script (with_stop (place + 1) calls st) (record works { nodes = nodes }) may
stop_keeps script st works might may place calls old nodes less there are keeps = record {
  under = record {
    run = keeps.under.run;
    below = keeps.under.below;
    waits = keeps.under.waits;
    works = keeps.under.works;
    bound = keeps.under.bound;
    placed = keeps.under.placed;
    decided = keeps.under.decided;
  };
  one_each =
      ap (λ (ns : List NodeFields). length ns) are ∙ length-set works.nodes place new ∙
      keeps.one_each;
  eight = keeps.eight;
  nodes = λ q n at. by_node q n (tells q n at) (λ q n at. IsNodeOf script.objects works.halted (q +
      1) n) (record {
        over = (keeps.nodes place old there).over;
        is_halted = (keeps.nodes place old there).is_halted;
      }) (λ at. keeps.nodes q n at);
  whole =
      rw same_sites (others_stand script.objects st now (sites_of works.nodes) works.outbox.net
      works.outbox.unput works.halted (record { trace = refl; lost = refl; delivered = refl }) refl
      keeps.whole);
  halts = λ q n at said. by_node q n (tells q n at) (λ q n at. has_number st.halted (q + 1) ≡ true
      → IsHaltOf script.objects st.running.trace st.undecided (q + 1) n (may (q + 1))) (λ said.
      with_node (halt_read _ _ _ _ _ (might (place + 1)) (may (place + 1)) (λ logged read. less
      (place + 1) logged (omega arith) read) (keeps.halts place old there said))) (λ at said.
      halt_read _ _ _ _ _ (might (q + 1)) (may (q + 1)) (λ logged read. less (q + 1) logged
      (omega arith) read) (keeps.halts q n at said)) said;
  undecided = keeps.undecided;
  sent = keeps.sent;
  events = keeps.events;
  all_marks = keeps.all_marks;
  few = keeps.few;
  stops =
      nodes_stopped script.objects st.running.trace st.running.trace st.halted st.halted st.turns
      now.turns place works.nodes nodes old new there are (λ m away. refl) (λ m away. refl)
      (λ m away. rw (ne_eqb (place + 1) m (λ e. away (sym e))) refl) (λ m away. refl)
      (IsUnfailing works.failed works.nodes) (IsUnfailing works.failed nodes)
      (λ m away all. so_before m all)
      (λ s all. as_before (has_number st.halted s) s (keeps.stops.said s (so_before s all)))
      (λ all. record {
        awake = λ runs. sym (rw (eq-eqb (place + 1) (place + 1) refl) refl);
        by_stop = λ said.
            let halt = (keeps.stops.each place old there (so_before (place + 1) all)).by_stop said in
            halt_alike _ _ _ _ _ _ _ halt _ _ refl refl;
      }) keeps.stops;
}
  where
    new : NodeFields
    new = with_passes (Some calls) old

    now : Standing
    now = with_stop (place + 1) calls st

    so_before : (m : ℕ) → IsUnfailing works.failed nodes m
        → IsUnfailing works.failed works.nodes m
    so_before =
        unfailing_before works.failed works.nodes nodes place old new there are (λ told. told)

    as_before : (b : Bool) (s : ℕ) → IsAsStopped b st.turns s → IsAsStopped b now.turns s
    as_before true s is = is
    as_before false s is = is

    same_sites : sites_of nodes ≡ sites_of works.nodes
    same_sites =
        ap sites_of are
        ∙ map-set_same (λ (n : NodeFields). n.site) works.nodes place new old
        (ap (λ (n : NodeFields). n.site) (same_Some old (get_or works.nodes place old) (sym there
        ∙ slice_get-get_or works.nodes place old (slice_get_within works.nodes place old there))))

    tells : (q : ℕ) (n : NodeFields) → slice_get nodes q ≡ Some n
        → ((q ≡ place) × (new ≡ n)) ⊎ ((q ≡ place → ⊥) × (slice_get works.nodes q ≡ Some n))
    tells q n at =
        set_tells _ _ _ _ _ (slice_get_within works.nodes place old there) (ap (λ (ns : List
        NodeFields). slice_get ns q) (sym are) ∙ at)

    by_node : (q : ℕ) (n : NodeFields)
        → ((q ≡ place) × (new ≡ n)) ⊎ ((q ≡ place → ⊥) × (slice_get works.nodes q ≡ Some n))
        → (P : ℕ → NodeFields → Unit {0} → Type 0) → P place new tt
        → (slice_get works.nodes q ≡ Some n → P q n tt) → P q n tt
    by_node q n (inl y) P own rest =
        subst (λ (z : ℕ × NodeFields). P z.0 z.1 tt) (λ i. (sym y.0 i, y.1 i)) own
    by_node q n (inr other) P own rest = rest other.1

    with_node : IsHaltOf script.objects st.running.trace st.undecided (place + 1) old
        (may (place + 1))
        → IsHaltOf script.objects st.running.trace st.undecided (place + 1) new (may (place + 1))
    with_node h = record {
      whole = h.whole;
      event = h.event;
      kept = h.kept;
      halted = h.halted;
      either = h.either;
      halt = h.halt;
      newest = h.newest;
      alike = h.alike;
    }

module _ {N : Type 0} (part : N → NodeFields) (tells : N → Bool) (may : N → Logged → Type 0) where
  pub stopped_in : (place calls : ℕ) (nodes now : List N) (o : OutboxFields) (h : List Bool)
      (v : Failed) (u : List OpenHalt) (e : List Event) (m : List Mark) (old new : N)
      → place < length nodes → old ≡ get_or nodes place old → now ≡ set nodes place new
      → part new ≡ with_passes (Some calls) (part old)
      → tells new ≡ tells old → ((logged : Logged) → may new logged → may old logged)
      → HasStopped place calls (seen part tells may nodes o h v u e m) (MayReadAt tells may nodes)
      (seen part tells may now o h v u e m) (MayReadAt tells may now)
  stopped_in place calls nodes now o h v u e m old new there is_old set_is same told less script st
      is keeps =
      subst (λ (ns : List N). KeepsRun script (with_stop (place + 1) calls st) (seen part tells may
      ns o h v u e m) (MayReadAt tells may ns)) (sym set_is) (stop_keeps _ _ _ _ _ _ _ _ _
      (λ s logged low read. back s logged low read (eqb_tells s (place + 1))) (seen_there part nodes
      place _ (taken_there _ _ _ there is_old)) (map-set part nodes place new ∙ ap (λ (n :
      NodeFields). set (map part nodes) place n) same) keeps)
    where
      back : (s : ℕ) (logged : Logged) → 1 ≤ s → MayReadAt tells may (set nodes place new) s logged
          → ((eqb s (place + 1) ≡ true) × (s ≡ place + 1))
          ⊎ ((eqb s (place + 1) ≡ false) × (s ≡ place + 1 → ⊥))
          → MayReadAt tells may nodes s logged
      back s logged low read (inr other) =
          reads_elsewhere tells may nodes place new s logged low other.1 read
      back s logged low read (inl here) =
          let own = reads_there _ may _ _ _ _ there (subst (λ (n : ℕ). MayReadAt tells may (set
          nodes place new) n logged) here.1 read) in
          let at : s - 1 ≡ place = (let is = here.1 in omega (arith, is)) in
          record {
            node = old;
            at =
                subst (λ (p : ℕ). slice_get nodes p ≡ Some old) (sym at) (taken_there _ _ _ there
                is_old);
            told = sym told ∙ own.0;
            reads = less logged own.1;
          }
