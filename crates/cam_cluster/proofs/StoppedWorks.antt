-- The nodes of works by the lines that stop their disks, where one of them steps or restarts.
use Rattle.std.proofs.Common.{◌≡◌, inl, inr, ℕ, zero, suc, ◌+◌, Bool, false, ◌⊎◌, List, [], ◌∷◌}
use Rattle.std.proofs.Common.{set, Option, Some, Result, Err, sym, ap, ◌∙◌, subst, arith}
use Rattle.std.specs.Prelude.{slice_get}
use Rattle.std.specs.List.{AllByRecursion}
use Rattle.std.proofs.lemmas.Option.{none-some, slice_get_within, same_Some}
use Rattle.cam_type.specs.declared.ObjectDecl.{ObjectDecl}
use Rattle.cam_event.specs.declared.Event.{Event}
use Rattle.cam_log.specs.CutOff.{IsCutOff}
use Rattle.cam_runs.specs.Running.{has_number}
use Rattle.cam_runs.specs.Halts.{Turn, calls_left}
use Rattle.cam_histories.specs.Alike.{AreAlike}
use Rattle.cam_histories.specs.Laws.{history_of}
use Rattle.cam_cluster.specs.declared.works.failing.Failed.{Failed}
use Rattle.cam_cluster.specs.Stopped.{IsStoppedAs}
use Rattle.cam_cluster.specs.Stopping.{stopped_at, IsAsStopped}
use Rattle.cam_cluster.specs.Works.{HasTellingDisk, NodeFields, AreStoppedIf}
use Rattle.cam_cluster.specs.Works.{IsUnfailing}
use Rattle.cam_cluster.proofs.HaltsByStop.{halt_alike}
use Rattle.cam_cluster.proofs.WorksNodes.{set_tells}

-- What holds of each with one changed held before, where it holds of that one then.
all_before : {X : Type 0} (P : X → Type 0) (xs : List X) (place : ℕ) (old new : X)
    → slice_get xs place ≡ Some old → (P new → P old) → AllByRecursion P (set xs place new)
    → AllByRecursion P xs
all_before P [] place old new there back all = tt
all_before P (x ∷ xs) zero old new there back all =
    (subst P (sym (same_Some x old there)) (back all.0), all.1)
all_before P (x ∷ xs) (suc place) old new there back all =
    (all.0, all_before P xs place old new there back all.1)

pub unfailing_before : (failed : Failed) (nodes now : List NodeFields) (place : ℕ)
    (old new : NodeFields) → slice_get nodes place ≡ Some old → now ≡ set nodes place new
    → (HasTellingDisk new → HasTellingDisk old) → (s : ℕ) → IsUnfailing failed now s
    → IsUnfailing failed nodes s
unfailing_before failed nodes now place old new there are back s all = (
  all.0,
  (
    all.1.0,
    all_before HasTellingDisk _ _ _ _ there back
        (subst (AllByRecursion HasTellingDisk) are all.1.1),
  ),
)

pub unfailing_there : (failed : Failed) (nodes : List NodeFields) (place : ℕ) (node : NodeFields)
    → slice_get nodes place ≡ Some node → (s : ℕ) → IsUnfailing failed nodes s
    → HasTellingDisk node
unfailing_there failed nodes place node at s all = one nodes place at all.1.1
  where
    one : (xs : List NodeFields) (k : ℕ) → slice_get xs k ≡ Some node
        → AllByRecursion HasTellingDisk xs → HasTellingDisk node
    one [] k at each = absurd (none-some node at)
    one (x ∷ xs) zero at each = subst HasTellingDisk (same_Some x node at) each.0
    one (x ∷ xs) (suc k) at each = one xs k at each.1

pub unfailing_less : (old new : NodeFields) → new.tells ≡ old.tells
    → HasTellingDisk new → HasTellingDisk old
unfailing_less old new told all = sym told ∙ all

-- how a step failed
pub fault_is : {T E : Type 0} (result : Result T E) (fault cause : E) → result ≡ Err fault
    → fault ≡ cause → result ≡ Err cause
fault_is result fault cause is same = is ∙ ap Err same

-- It failed by its disk, which did not fail by itself: its append was cut off.
pub told_cut : (P T : Type 0) (before left : Option ℕ) {Did : ℕ → Type 0} → (P → ⊥) → T
    → P ⊎ IsCutOff 4 before left (λ calls. T → Did calls) → IsCutOff 4 before left Did
told_cut P T before left not_so told (inl so) = absurd (not_so so)
told_cut P T before left not_so told (inr cut) = record {
  calls = cut.calls;
  had = cut.had;
  fewer = cut.fewer;
  none = cut.none;
  did = cut.did told;
}

-- A node for which history and turns say the same.
pub stopped_alike : (objects : List ObjectDecl) (t now : List Event) (h halted : List ℕ)
    (before turns : List Turn) (s : ℕ) (node : NodeFields)
    → AreAlike (history_of objects t s) (history_of objects now s)
    → has_number halted s ≡ has_number h s
    → calls_left turns s ≡ calls_left before s → stopped_at turns s ≡ stopped_at before s
    → IsStoppedAs objects t h before s node.site.node node.halted_at node.passes node.reads
    → IsStoppedAs objects now halted turns s node.site.node node.halted_at node.passes node.reads
stopped_alike objects t now h halted before turns s node alike same calls stops is = record {
  awake = λ runs. is.awake (sym same ∙ runs) ∙ sym calls;
  by_stop = λ said. halt_alike _ _ _ _ _ _ _ (is.by_stop (sym same ∙ said)) _ _ alike
      stops;
}

-- One node has changed, and the others are said alike.
module _ (objects : List ObjectDecl) (t now : List Event) (h halted : List ℕ)
    (before turns : List Turn) (place : ℕ) (nodes nodes_now : List NodeFields)
    (old new : NodeFields) (there : slice_get nodes place ≡ Some old)
    (are : nodes_now ≡ set nodes place new)
    (alike : (m : ℕ) → (m ≡ place + 1 → ⊥)
    → AreAlike (history_of objects t m) (history_of objects now m))
    (same : (m : ℕ) → (m ≡ place + 1 → ⊥) → has_number halted m ≡ has_number h m)
    (calls : (m : ℕ) → (m ≡ place + 1 → ⊥) → calls_left turns m ≡ calls_left before m)
    (stops : (m : ℕ) → (m ≡ place + 1 → ⊥) → stopped_at turns m ≡ stopped_at before m) where
  pub nodes_stopped : (was so : ℕ → Type 0)
      → ((m : ℕ) → (m ≡ place + 1 → ⊥) → so m → was m)
      → ((s : ℕ) → so s → IsAsStopped (has_number halted s) turns s)
      → (so (place + 1) → IsStoppedAs objects now halted turns (place + 1) new.site.node
      new.halted_at new.passes new.reads)
      → AreStoppedIf was objects t h before nodes
      → AreStoppedIf so objects now halted turns nodes_now
  nodes_stopped was so only said own is = record {
    said = said;
    each = λ q n at all. elim (set_tells _ _ _ _ _ (slice_get_within nodes place old there) (ap
        (λ (ns : List NodeFields). slice_get ns q) (sym are) ∙ at)) [
          | inl y ↦
              subst (λ (z : ℕ × NodeFields). IsStoppedAs objects now halted turns (z.0 + 1)
              z.1.site.node z.1.halted_at z.1.passes z.1.reads) (λ i. (sym y.0 i, y.1 i))
              (own (subst so (ap (λ (k : ℕ). k + 1) y.0) all))
          | inr other ↦
              let away : q + 1 ≡ place + 1 → ⊥ =
              λ e. other.0 (let back : q ≡ place = omega (arith, e) in back) in
              stopped_alike _ _ _ _ _ _ _ _ n (alike (q + 1) away) (same (q + 1) away)
              (calls (q + 1) away) (stops (q + 1) away)
              (is.each q n other.1 (only (q + 1) away all))
        ];
  }
