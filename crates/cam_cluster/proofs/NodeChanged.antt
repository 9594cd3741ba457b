-- The nodes of works of which one has changed, and what is kept of the others.
use Rattle.std.proofs.Common.{◌≡◌, inl, inr, ℕ, ◌+◌, ◌≤◌, Bool, true}
use Rattle.std.proofs.Common.{List, length, set, Some}
use Rattle.std.proofs.Common.{sym, ap, ◌∙◌, subst, arith}
use Rattle.std.specs.Prelude.{slice_get}
use Rattle.std.proofs.lemmas.Option.{slice_get_within}
use Rattle.std.proofs.lemmas.List.{length-set}
use Rattle.cam_net.specs.Waiting.{is_halted}
use Rattle.cam_node.specs.Log.{Logged}
use Rattle.cam_runs.specs.Running.{has_number}
use Rattle.cam_runs.specs.Standing.{Standing, Undecided, undecided_of}
use Rattle.cam_script.specs.declared.Script.{Script}
use Rattle.cam_histories.specs.Alike.{AreAlike}
use Rattle.cam_histories.specs.Laws.{history_of}
use Rattle.cam_histories.specs.Undecided.{IsUndecidedAlike}
use Rattle.cam_cluster.specs.Works.{NodeFields, WorksFields, IsHaltOf, IsNodeOf, KeepsRun}
use Rattle.cam_cluster.specs.Works.{sites_of}
use Rattle.cam_cluster.proofs.HaltsKept.{halt_stays}
use Rattle.cam_cluster.proofs.WorksNodes.{set_tells, sites_set}

-- The nodes are those of the script, and the halts of the others than the one at this place are
-- kept.
pub record KeepsNodes (script : Script) (st : Standing) (place : ℕ) (works : WorksFields)
    (might : ℕ → Logged → Type 0) : Type 0 where
  pub one_each : length works.nodes ≡ script.nodes
  pub nodes :
      (q : ℕ) (node : NodeFields) → slice_get works.nodes q ≡ Some node
      → IsNodeOf script.objects works.halted (q + 1) node
  pub halts :
      (q : ℕ) (node : NodeFields) → slice_get works.nodes q ≡ Some node → (q ≡ place → ⊥)
      → has_number st.halted (q + 1) ≡ true
      → IsHaltOf script.objects st.running.trace st.undecided (q + 1) node (might (q + 1))

pub kept_nodes : (script : Script) (st : Standing) (place : ℕ) (works : WorksFields)
    (might : ℕ → Logged → Type 0) → KeepsRun script st works might
    → KeepsNodes script st place works might
kept_nodes script st place works might keeps = record {
  one_each = keeps.one_each;
  nodes = keeps.nodes;
  halts = λ q node at away said. keeps.halts q node at said;
}

-- One node of works has changed, with its disk alone.
module _ (script : Script) (st : Standing) (place : ℕ) (works : WorksFields)
    (might : ℕ → Logged → Type 0) (old : NodeFields)
    (keeps : KeepsNodes script st place works might)
    (there : slice_get works.nodes place ≡ Some old) (new : NodeFields)
    (may : ℕ → Logged → Type 0) (nodes : List NodeFields) (are : nodes ≡ set works.nodes place new)
    (objects : new.objects ≡ old.objects)
    (others : (s : ℕ) (logged : Logged) → 1 ≤ s → (s ≡ place + 1 → ⊥) → may s logged
    → might s logged) where
  pub as_many : length nodes ≡ script.nodes
  as_many = ap (λ (ns : List NodeFields). length ns) are ∙ length-set works.nodes place new
      ∙ keeps.one_each

  pub sites_are : set (sites_of works.nodes) place new.site ≡ sites_of nodes
  sites_are = sym (sites_set works.nodes place new) ∙ ap sites_of (sym are)

  pub nodes_are : (halted : List Bool) → new.halted ≡ is_halted halted (place + 1)
      → ((m : ℕ) → 1 ≤ m → (m ≡ place + 1 → ⊥) → is_halted works.halted m ≡ is_halted halted m)
      → (q : ℕ) (n : NodeFields) → slice_get nodes q ≡ Some n
      → IsNodeOf script.objects halted (q + 1) n
  nodes_are halted here elsewhere q n at =
      elim (set_tells _ _ _ _ _ (slice_get_within works.nodes place old there) (ap (λ (ns :
      List NodeFields). slice_get ns q) (sym are) ∙ at)) [
        | inl y ↦ subst (IsNodeOf script.objects halted (q + 1)) y.1 (record {
          over = objects ∙ (keeps.nodes place old there).over;
          is_halted = here ∙ ap (λ (p : ℕ). is_halted halted (p + 1)) (sym y.0);
        })
        | inr off ↦ record {
          over = (keeps.nodes q n off.1).over;
          is_halted =
              (keeps.nodes q n off.1).is_halted ∙ elsewhere (q + 1) (omega arith) (λ e. off.0 (omega
              (arith, e)));
        }
      ]

  -- the halted nodes, where the changed one is not among them
  pub halts_are : (now : Standing)
      → ((m : ℕ) → has_number now.halted m ≡ true
      → (m ≡ place + 1 → ⊥) × (has_number st.halted m ≡ true))
      → ((m : ℕ) → 1 ≤ m → (m ≡ place + 1 → ⊥)
      → AreAlike (history_of script.objects st.running.trace m)
      (history_of script.objects now.running.trace m))
      → ((m : ℕ) → (m ≡ place + 1 → ⊥) → (u : Undecided) → undecided_of m st.undecided ≡ Some u
      → IsUndecidedAlike script.objects m u st now)
      → (q : ℕ) (n : NodeFields) → slice_get nodes q ≡ Some n
      → has_number now.halted (q + 1) ≡ true
      → IsHaltOf script.objects now.running.trace now.undecided (q + 1) n (may (q + 1))
  halts_are now away same still q n at said =
      let off = away (q + 1) said in
      elim (set_tells _ _ _ _ _ (slice_get_within works.nodes place old there) (ap (λ (ns :
      List NodeFields). slice_get ns q) (sym are) ∙ at)) [
        | inl y ↦ absurd (off.0 (ap (λ (p : ℕ). p + 1) y.0))
        | inr other ↦
            halt_stays _ _ _ _ _ (might (q + 1)) (may (q + 1)) (same (q + 1) (omega arith)
            off.0) (still (q + 1) off.0) (λ logged read. others (q + 1) logged (omega arith) off.0
            read) (keeps.halts q n other.1 other.0 off.1)
      ]
