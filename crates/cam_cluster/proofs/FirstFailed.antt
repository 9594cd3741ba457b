-- Which disk failed by itself in a run, by the counts that were taken before it.
use Rattle.std.proofs.Common.{◌≡◌, ◌≤◌, ◌<◌, ℕ, zero, suc, ◌+◌, ◌-◌, Bool, List, [], ◌∷◌, length}
use Rattle.std.proofs.Common.{Some, None, Option, Result, Ok, Err, ◌⊎◌, inl, inr, ◌^◌, true, false}
use Rattle.std.proofs.Common.{refl, sym, ap, ◌∙◌, subst, arith, get_or, min, take}
use Rattle.std.specs.Prelude.{map, leb, slice_get, IfErr}
use Rattle.std.proofs.lemmas.Bool.Decides.{leb_tells}
use Rattle.std.proofs.lemmas.Option.{none-some, same_Some, slice_get-get_or, slice_get_read}
use Rattle.std.proofs.lemmas.Option.{slice_get_within}
use Rattle.cam_base.specs.Causes.{Rose}
use Rattle.cam_cluster.specs.declared.fault.RunFault.{RunFault}
use Rattle.cam_cluster.specs.declared.fault.RunFault.TheVariants as faults
use Rattle.cam_cluster.specs.HandedBack.{AreHandedBack, FindsFailed, HasFailed}
use Rattle.cam_cluster.specs.HandedBack.{IsFirstFailed, NamesFailed, NoneFailed, disk_named}
use Rattle.cam_cluster.proofs.HandedBack.{was_at}

-- what stands in the counts at the place of a disk is its count
count_at : {D : Type 0} (faults_of : D → ℕ) (disks : List D) (counts : List ℕ) (place : ℕ)
    (disk : D)
    → take (length disks) counts ≡ map faults_of disks → slice_get disks place ≡ Some disk
    → slice_get counts place ≡ Some (faults_of disk)
count_at faults_of [] counts place disk taken at = absurd (none-some disk at)
count_at faults_of (d ∷ disks) [] place disk taken at = absurd cc
count_at faults_of (d ∷ disks) (n ∷ counts) zero disk taken at = cc
count_at faults_of (d ∷ disks) (n ∷ counts) (suc place) disk taken at =
    count_at faults_of disks counts place disk (cc) at

module _ {D : Type 0} (tells : D → Bool) (faults_of : D → ℕ) (before after : List D)
    (counts : List ℕ) (taken : take (length before) counts ≡ map faults_of before)
    (back : AreHandedBack tells faults_of before after) where
  -- what failed by the counts did, and the other way round
  failed_since : (s : ℕ) → HasFailed (λ (count : ℕ). count) faults_of s counts after
      → HasFailed faults_of faults_of s before after
  failed_since s failed =
      let was =
      was_at _ _ _ _ _ _ _ _ back failed.is in
      let same : failed.old ≡ faults_of was.old =
      same_Some failed.old (faults_of was.old) (sym failed.was ∙ count_at _ _ _ _ _ taken
      was.at) in
      let within = slice_get_within before (s - 1) was.old was.at in
      record {
        low = failed.low;
        high = let low = failed.low in omega (arith, low, within);
        old = was.old;
        new = failed.new;
        was = was.at;
        is = failed.is;
        rose = rw (← same) failed.rose;
      }

  failed_by_count : (s : ℕ) → HasFailed faults_of faults_of s before after
      → HasFailed (λ (count : ℕ). count) faults_of s counts after
  failed_by_count s failed =
      let was = count_at _ _ _ _ _ taken failed.was in
      let within = slice_get_within counts (s - 1) (faults_of failed.old) was in
      record {
        low = failed.low;
        high = let low = failed.low in omega (arith, low, within);
        old = faults_of failed.old;
        new = failed.new;
        was = was;
        is = failed.is;
        rose = failed.rose;
      }

  -- So the first that failed by the counts is the first that failed,
  first_since : (found : Option ℕ)
      → FindsFailed (λ (count : ℕ). count) faults_of counts after found
      → FindsFailed faults_of faults_of before after found
  first_since (Some s) is = record {
    failed = failed_since s is.failed;
    first = λ k less failed. is.first k less (failed_by_count k failed);
  }
  first_since None none = λ s failed. none s (failed_by_count s failed)

-- as the disks were handed over and back;
pub found_since : {D : Type 0} (tells : D → Bool) (faults_of : D → ℕ) (before after : List D)
    (given left : List D) (counts : List ℕ) (found : Option ℕ) → given ≡ before → left ≡ after
    → take (length given) counts ≡ map faults_of given → AreHandedBack tells faults_of before after
    → FindsFailed (λ (count : ℕ). count) faults_of counts left found
    → FindsFailed faults_of faults_of before after found
found_since tells faults_of before after given left counts found is_before is_after taken back is =
    first_since tells faults_of before after counts (rw (← is_before) taken) back found (rw (←
    is_after) is)

-- and where none did, what a run gives names none.
pub none_named : {D T : Type 0} (faults_of : D → ℕ) (before after : List D)
    (run : Result T RunFault)
    → NoneFailed faults_of faults_of before after
    → IfErr run (NamesFailed faults_of before after)
    → FindsFailed faults_of faults_of before after (disk_named run)
none_named faults_of before after (Ok given) none cause = none
none_named faults_of before after (Err (faults.DiskFault s)) none cause = absurd (none s cause)
none_named faults_of before after (Err faults.NoMemory) none cause = none

-- No disk at these places failed by the counts: nor did the next one, whose count did not rise.
abbrev pub NoneUpTo : {D : Type 0} → (D → ℕ) → List ℕ → List D → ℕ → Type 0
NoneUpTo faults_of counts disks places =
    (s : ℕ) → s ≤ places → HasFailed (λ (count : ℕ). count) faults_of s counts disks → ⊥

-- The count at the next place rose: its disk is the first that failed.
pub rises_at : {D : Type 0} (faults_of : D → ℕ) (counts : List ℕ) (disks : List D) (place : ℕ)
    (disk : D) → place < length counts → place < length disks → disk ≡ get_or disks place disk
    → min (get_or counts place 0 + 1) (2 ^ 64 - 1) ≤ faults_of disk
    → NoneUpTo faults_of counts disks place
    → IsFirstFailed (λ (count : ℕ). count) faults_of (place + 1) counts disks
rises_at faults_of counts disks place disk within there is rose none = record {
  failed = record {
    low = omega arith;
    high = omega (arith, within);
    old = get_or counts place 0;
    new = disk;
    was = rw (← back) (slice_get-get_or counts place 0 within);
    is = rw (← back) (slice_get_read disks (length disks) place disk refl there is);
    rose = rose;
  };
  first = λ k less failed. none k (omega (arith, less)) failed;
}
  where
    back : place ≡ (place + 1) - 1
    back = omega arith

-- It did not rise: nor did that of the disks so far.
pub stays_at : {D : Type 0} (faults_of : D → ℕ) (counts : List ℕ) (disks : List D) (place : ℕ)
    (disk : D) → place < length counts → place < length disks → disk ≡ get_or disks place disk
    → faults_of disk < min (get_or counts place 0 + 1) (2 ^ 64 - 1)
    → NoneUpTo faults_of counts disks place → NoneUpTo faults_of counts disks (place + 1)
stays_at faults_of counts disks place disk within there is still none = λ s high failed.
    by s high failed (leb_tells s place)
  where
    by : (s : ℕ) → s ≤ place + 1 → HasFailed (λ (count : ℕ). count) faults_of s counts disks
        → ((leb s place ≡ true) × (s ≤ place)) ⊎ ((leb s place ≡ false) × (place < s)) → ⊥
    by s high failed (inl before) = none s before.1 failed
    by s high failed (inr here) =
        let at : s - 1 ≡ place = let after = here.1 in omega (arith, high, after) in
        let old : failed.old ≡ get_or counts place 0 =
        same_Some failed.old (get_or counts place 0)
        (sym failed.was ∙ ap (slice_get counts) at ∙ slice_get-get_or counts place 0 within) in
        let new : failed.new ≡ disk =
        same_Some failed.new disk
        (sym failed.is ∙ ap (slice_get disks) at
        ∙ slice_get_read disks (length disks) place disk refl there is) in
        let count = ap faults_of new in
        let rose = failed.rose in
        omega (arith, still, rose, old, count)
