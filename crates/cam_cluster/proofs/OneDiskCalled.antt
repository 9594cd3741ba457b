-- The works go on with their disks where one node was called: its count of faults is watched.
use Rattle.std.proofs.Common.{◌≡◌, ◌⊎◌, inl, inr, ℕ, ◌+◌, ◌-◌, ◌≤◌, ◌<◌, true, List, length, get_or}
use Rattle.std.proofs.Common.{set, Some, sym, ap, ◌∙◌, subst, arith}
use Rattle.std.specs.Prelude.{IfSome, map, slice_get}
use Rattle.std.proofs.lemmas.List.{map-set}
use Rattle.std.proofs.lemmas.Option.{same_Some, slice_get_within}
use Rattle.cam_base.specs.Causes.{Rose}
use Rattle.cam_cluster.specs.declared.works.failing.Failed.{Failed}
use Rattle.cam_cluster.specs.declared.works.failing.Ending.TheVariants as endings
use Rattle.cam_cluster.specs.Failing.{GoOn, IsAfterCall, IsKnownToFail}
use Rattle.cam_cluster.specs.HandedBack.{HasFailed}
use Rattle.cam_cluster.specs.Works.{NodeFields, has_failed}
use Rattle.cam_cluster.proofs.Failures.{call_knows, marked_why, rose_or_still}
use Rattle.cam_cluster.proofs.HandedBack.{one_later}
use Rattle.cam_cluster.proofs.PlacedNodes.{holds_there, seen_there, taken_there}
use Rattle.cam_cluster.proofs.WorksNodes.{at_set}
use Rattle.cam_cluster.proofs.DisksGoOn.{known_still}

-- what is known then
known_after : (nodes : List NodeFields) (place : ℕ) (old new : NodeFields) (was now : Failed)
    → slice_get nodes place ≡ Some old → place < 8
    → IsAfterCall place old.failures new.failures was now
    → IsKnownToFail was nodes now (set nodes place new)
known_after nodes place old new was now at within after = record {
  more = call_knows place old.failures new.failures was now within after;
  disk = λ s low is. by s low is (rose_or_still old.failures new.failures);
  ends = λ s is. inl (ended s is (rose_or_still old.failures new.failures));
}
  where
    less : place < length nodes
    less = slice_get_within nodes place old at

    back : place ≡ place + 1 - 1
    back = omega arith

    fell : Rose old.failures new.failures
        → HasFailed (λ (n : NodeFields). n.failures) (λ (n : NodeFields). n.failures) (place + 1)
        nodes (set nodes place new)
    fell rose = record {
      low = omega arith;
      high = omega (arith, less);
      old = old;
      new = new;
      was = rw (← back) at;
      is = rw (← back) (at_set _ _ new less);
      rose = rose;
    }

    by : (s : ℕ) → 1 ≤ s → has_failed now s ≡ true
        → Rose old.failures new.failures ⊎ (Rose old.failures new.failures → ⊥)
        → (has_failed was s ≡ true)
        ⊎ HasFailed (λ (n : NodeFields). n.failures) (λ (n : NodeFields). n.failures) s nodes
        (set nodes place new)
    by s low is (inl rose) = elim (marked_why was.disks place s after.eight within low
        (ap (λ (f : Failed). has_failed f s) (sym (after.rose rose)) ∙ is)) [
          | inl was ↦ inl was
          | inr own ↦
              inr (subst (λ (n : ℕ). HasFailed (λ (n : NodeFields). n.failures)
              (λ (n : NodeFields). n.failures) n nodes (set nodes place new)) own (fell rose))
        ]
    by s low is (inr still) =
        inl (ap (λ (f : Failed). has_failed f s) (sym (after.still still)) ∙ is)

    ended : (s : ℕ) → now.ends ≡ endings.Disk s
        → Rose old.failures new.failures ⊎ (Rose old.failures new.failures → ⊥)
        → was.ends ≡ endings.Disk s
    ended s is (inl rose) = ap (λ (f : Failed). f.ends) (sym (after.rose rose)) ∙ is
    ended s is (inr still) = ap (λ (f : Failed). f.ends) (sym (after.still still)) ∙ is

-- One node was called, and its count is watched.
pub goes_on_at : (nodes : List NodeFields) (before : Failed) (news : List NodeFields)
    (now : Failed) (place : ℕ) (old new : NodeFields) → slice_get nodes place ≡ Some old
    → news ≡ set nodes place new → new.tells ≡ old.tells → old.failures ≤ new.failures
    → IsAfterCall place old.failures new.failures before now → place < 8 → GoOn nodes before news now
goes_on_at nodes before news now place old new at are told later watched within =
    rw are (record {
      later = one_later _ _ _ _ _ _ at (record { told = told; later = later });
      known = known_after _ _ _ _ _ _ at within watched;
    })

-- so of nodes that are seen so
pub goes_on_in : {N : Type 0} (part : N → NodeFields) (nodes mids news : List N)
    (before known now : Failed) (place : ℕ) (old new : N) → mids ≡ nodes → known ≡ before
    → place < length mids → old ≡ get_or mids place old → news ≡ set mids place new
    → (part new).tells ≡ (part old).tells → (part old).failures ≤ (part new).failures
    → IsAfterCall place (part old).failures (part new).failures known now → place < 8
    → GoOn (map part nodes) before (map part news) now
goes_on_in {N} part nodes mids news before known now place old new same same_known there is_old are
    told later watched within =
    subst (λ (z : List N × Failed). GoOn (map part z.0) z.1 (map part news) now) (λ i. (
      same i,
      same_known i,
    )) (goes_on_at _ _ _ _ _ _ _ (seen_there part mids place _ (taken_there _
    _ _ there is_old)) (ap (map part) are ∙ map-set part mids place new) told later watched within)

-- how it was watched, by the count of the disk of the node that was asked
pub watched_there : {N : Type 0} (part : N → NodeFields) (nodes : List N) (place : ℕ)
    (asked old new : N) (before : ℕ) (known now : Failed) → place < length nodes
    → asked ≡ get_or nodes place asked → old ≡ get_or nodes place old
    → before ≡ (part asked).failures
    → IfSome (slice_get (set nodes place new) place)
    (λ (n : N). IsAfterCall place before (part n).failures known now)
    → IsAfterCall place (part old).failures (part new).failures known now
watched_there {N} part nodes place asked old new before known now there is_asked is_old is watched =
    let same : asked ≡ old =
    same_Some asked old (sym (taken_there _ _ _ there is_asked) ∙ taken_there _ _ _ there
    is_old) in
    rw (← (is ∙ ap (λ (n : N). (part n).failures) same)) (holds_there (λ (n : N). IsAfterCall
    place before (part n).failures known now) (set nodes place new) place _ (at_set _ _ new there)
    watched)

-- A node whose count stays goes on, and nothing more is known.
pub stays_at : {N : Type 0} (part : N → NodeFields) (nodes : List N) (now : Failed) (place : ℕ)
    (old new : N) → place < length nodes → old ≡ get_or nodes place old
    → (part new).tells ≡ (part old).tells → (part new).failures ≡ (part old).failures
    → GoOn (map part nodes) now (map part (set nodes place new)) now
stays_at part nodes now place old new there is_old told same =
    let at = seen_there part nodes place _ (taken_there _ _ _ there is_old) in
    rw (map-set part nodes place new) (record {
      later = one_later _ _ _ _ _ _ at (record { told = told; later = omega (arith, same) });
      known = known_still _ _ _;
    })
