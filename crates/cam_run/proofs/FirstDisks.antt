-- A run over the first disks of a list, and what it says of the whole list, of which the rest stays.
use Rattle.std.proofs.Common.{◌≡◌, ◌≤◌, ◌<◌, ◌-◌, ℕ, zero, suc, Bool, List, [], ◌∷◌, ◌++◌, length, take, drop, Some, Result, Ok, Err, refl, sym, ap, ◌∙◌, subst, arith}
use Rattle.std.specs.Prelude.{reverse, slice_get, IfErr, OnOk}
use Rattle.std.proofs.lemmas.List.{drop_at, take-append-drop, length-take-le}
use Rattle.cam_cluster.specs.declared.fault.RunFault.{RunFault}
use Rattle.cam_cluster.specs.declared.fault.RunFault.TheVariants.{DiskFault, NoMemory}
use Rattle.cam_cluster.specs.HandedBack.{AreHandedBack, FindsFailed, HasFailed, NamesFailed, disk_named}
use Rattle.cam_run.specs.Disks.{FailedAmong, FailedAt, IsCaused, IsNamed, OneFailed}

-- disks that nothing happened to are handed back
pub as_they_were : {D : Type 0} (tells : D → Bool) (faults_of : D → ℕ) (disks : List D)
    → AreHandedBack tells faults_of disks disks
as_they_were tells faults_of [] = tt
as_they_were tells faults_of (disk ∷ disks) =
    (record { told = refl; later = omega arith }, as_they_were tells faults_of disks)

pub as_many : {D : Type 0} (tells : D → Bool) (faults_of : D → ℕ) (before after : List D)
    → AreHandedBack tells faults_of before after → length after ≡ length before
as_many tells faults_of [] [] back = refl
as_many tells faults_of [] (new ∷ after) back = absurd back
as_many tells faults_of (old ∷ before) [] back = absurd back
as_many tells faults_of (old ∷ before) (new ∷ after) back =
    ap suc (as_many tells faults_of before after back.1)

beside : {D : Type 0} (tells : D → Bool) (faults_of : D → ℕ) (before after rest : List D)
    → AreHandedBack tells faults_of before after
    → AreHandedBack tells faults_of (before ++ rest) (after ++ rest)
beside tells faults_of [] [] rest back = as_they_were tells faults_of rest
beside tells faults_of [] (new ∷ after) rest back = absurd back
beside tells faults_of (old ∷ before) [] rest back = absurd back
beside tells faults_of (old ∷ before) (new ∷ after) rest back =
    (back.0, beside tells faults_of before after rest back.1)

-- an element of the first part is one of the whole, and back
of_whole : {D : Type 0} (first rest : List D) (k : ℕ) (disk : D) → slice_get first k ≡ Some disk
    → slice_get (first ++ rest) k ≡ Some disk
of_whole [] rest k disk at = absurd cc
of_whole (x ∷ first) rest zero disk at = at
of_whole (x ∷ first) rest (suc k) disk at = of_whole first rest k disk at

pub of_first : {D : Type 0} (first rest : List D) (k : ℕ) (disk : D) → k < length first
    → slice_get (first ++ rest) k ≡ Some disk → slice_get first k ≡ Some disk
of_first [] rest k disk within at = absurd (omega (arith, within))
of_first (x ∷ first) rest zero disk within at = at
of_first (x ∷ first) rest (suc k) disk within at =
    of_first first rest k disk (omega (arith, within)) at

-- A run over the first disks of a list, and the whole list after it.
pub record IsOverFirst {D : Type 0} (tells : D → Bool) (faults_of : D → ℕ) (n : ℕ)
    (disks later whole : List D) : Type 0 where
  pub enough : n ≤ length disks
  pub back : AreHandedBack tells faults_of (take n disks) later
  pub all : whole ≡ later ++ drop n disks

pub is_over_first : {D : Type 0} (tells : D → Bool) (faults_of : D → ℕ) (n : ℕ)
    (disks first later further whole : List D)
    → n ≤ length disks → first ≡ take n disks → AreHandedBack tells faults_of first later
    → reverse further ≡ drop n disks → whole ≡ later ++ reverse further
    → IsOverFirst tells faults_of n disks later whole
is_over_first tells faults_of n disks first later further whole enough front back rest all =
    record {
      enough = enough;
      back = subst (λ (xs : List _). AreHandedBack tells faults_of xs later) front back;
      all = all ∙ ap (λ (xs : List _). later ++ xs) rest;
    }

pub first_length : {D : Type 0} (tells : D → Bool) (faults_of : D → ℕ) (n : ℕ)
    (disks later : List D)
    → n ≤ length disks → AreHandedBack tells faults_of (take n disks) later → length later ≡ n
first_length tells faults_of n disks later enough back =
    as_many tells faults_of (take n disks) later back ∙ length-take-le n disks enough

-- The whole list is handed back,
pub all_back : {D : Type 0} (tells : D → Bool) (faults_of : D → ℕ) (n : ℕ)
    (disks later whole : List D)
    → IsOverFirst tells faults_of n disks later whole → AreHandedBack tells faults_of disks whole
all_back tells faults_of n disks later whole is =
    subst (λ (xs : List _). AreHandedBack tells faults_of xs whole) (take-append-drop n disks)
    (subst (λ (xs : List _). AreHandedBack tells faults_of (take n disks ++ drop n disks) xs)
    (sym is.all) (beside tells faults_of (take n disks) later (drop n disks) is.back))

-- with the rest as it was;
pub rest_stays : {D : Type 0} (tells : D → Bool) (faults_of : D → ℕ) (n : ℕ)
    (disks later whole : List D)
    → IsOverFirst tells faults_of n disks later whole → drop n whole ≡ drop n disks
rest_stays tells faults_of n disks later whole is =
    ap (λ (xs : List _). drop n xs) is.all
    ∙ drop_at later (drop n disks) n (first_length tells faults_of n disks later is.enough is.back)

-- What a run says of its disks is so of the whole list: which of them failed,
failed_of_whole : {D : Type 0} (faults_of : D → ℕ) (n : ℕ) (disks later : List D)
    → n ≤ length disks → (s : ℕ) → HasFailed faults_of faults_of s (take n disks) later
    → FailedAt faults_of disks (later ++ drop n disks) s
failed_of_whole faults_of n disks later enough s failed = record {
  low = failed.low;
  high = omega (arith, failed.high, length-take-le n disks enough, enough);
  old = failed.old;
  new = failed.new;
  was =
      ap (λ (xs : List _). slice_get xs (s - 1)) (sym (take-append-drop n disks))
      ∙ of_whole (take n disks) (drop n disks) (s - 1) failed.old failed.was;
  is = of_whole later (drop n disks) (s - 1) failed.new failed.is;
  rose = failed.rose;
}

-- and which of the whole list did, of so many.
failed_of_first : {D : Type 0} (faults_of : D → ℕ) (n : ℕ) (disks later : List D)
    → n ≤ length disks → length later ≡ n → (s : ℕ) → s ≤ n
    → FailedAt faults_of disks (later ++ drop n disks) s
    → HasFailed faults_of faults_of s (take n disks) later
failed_of_first faults_of n disks later enough many s within failed = record {
  low = failed.low;
  high = omega (arith, within, length-take-le n disks enough);
  old = failed.old;
  new = failed.new;
  was =
      of_first (take n disks) (drop n disks) (s - 1) failed.old
      (let low = failed.low in omega (arith, low, within, length-take-le n disks enough))
      (ap (λ (xs : List _). slice_get xs (s - 1)) (take-append-drop n disks) ∙ failed.was);
  is =
      of_first later (drop n disks) (s - 1) failed.new
      (let low = failed.low in omega (arith, low, within, many)) failed.is;
  rose = failed.rose;
}

-- So how the run ended says which of the first disks of the whole list failed.
pub record EndedBy {T : Type 0} (n : ℕ) (failed : ℕ → Type 0) (r : Result T RunFault) : Type 0 where
  pub steady : OnOk r (OneFailed n failed → ⊥)
  pub cause : IfErr r (IsCaused n failed)

ended_by : {D T : Type 0} (faults_of : D → ℕ) (n : ℕ) (disks later : List D) (r : Result T RunFault)
    → n ≤ length disks → length later ≡ n
    → FindsFailed faults_of faults_of (take n disks) later (disk_named r)
    → EndedBy n (FailedAt faults_of disks (later ++ drop n disks)) r
ended_by faults_of n disks later (Ok run) enough many none = record {
  steady = λ one.
      none one.node
      (failed_of_first faults_of n disks later enough many one.node one.high one.did);
  cause = tt;
}
ended_by faults_of n disks later (Err (DiskFault s)) enough many is =
    let within : s ≤ n =
    let high = is.failed.high in omega (arith, high, length-take-le n disks enough) in
    record {
      steady = tt;
      cause = (
        within,
        failed_of_whole faults_of n disks later enough s is.failed,
        λ k less failed.
            is.first k less
            (failed_of_first faults_of n disks later enough many k (omega (arith, less, within))
            failed),
      );
    }
ended_by faults_of n disks later (Err NoMemory) enough many none = record { steady = tt; cause = tt }

pub run_ended : {D T : Type 0} (tells : D → Bool) (faults_of : D → ℕ) (n : ℕ)
    (disks first later whole : List D) (r : Result T RunFault)
    → IsOverFirst tells faults_of n disks later whole → first ≡ take n disks
    → FindsFailed faults_of faults_of first later (disk_named r)
    → EndedBy n (FailedAt faults_of disks whole) r
run_ended tells faults_of n disks first later whole r is front found =
    subst (λ (xs : List _). EndedBy n (FailedAt faults_of disks xs) r) (sym is.all)
    (ended_by faults_of n disks later r is.enough
    (first_length tells faults_of n disks later is.enough is.back)
    (subst (λ (xs : List _). FindsFailed faults_of faults_of xs later (disk_named r)) front found))

-- A disk of the first ones that failed is one of so many of the whole list that failed,
pub failed_over : {D : Type 0} (tells : D → Bool) (faults_of : D → ℕ) (n : ℕ)
    (disks first later whole : List D)
    → IsOverFirst tells faults_of n disks later whole → first ≡ take n disks → (s : ℕ)
    → HasFailed faults_of faults_of s first later
    → FailedAmong n (FailedAt faults_of disks whole) s
failed_over tells faults_of n disks first later whole is front s failed = (
  let high = fell.high in omega (arith, high, length-take-le n disks is.enough),
  subst (λ (xs : List _). FailedAt faults_of disks xs s) (sym is.all)
      (failed_of_whole faults_of n disks later is.enough s fell),
)
  where
    fell : HasFailed faults_of faults_of s (take n disks) later
    fell = subst (λ (xs : List _). HasFailed faults_of faults_of s xs later) front failed

-- and so is the one that the fault of a run names.
pub named_over : {D T : Type 0} (tells : D → Bool) (faults_of : D → ℕ) (n : ℕ)
    (disks first later whole : List D) (r : Result T RunFault)
    → IsOverFirst tells faults_of n disks later whole → first ≡ take n disks
    → IfErr r (NamesFailed faults_of first later)
    → IfErr r (IsNamed n (FailedAt faults_of disks whole))
named_over tells faults_of n disks first later whole (Ok run) is front named = tt
named_over tells faults_of n disks first later whole (Err (DiskFault s)) is front named =
    failed_over tells faults_of n disks first later whole is front s named
named_over tells faults_of n disks first later whole (Err NoMemory) is front named = tt
