-- A disk that may stop: how many calls it still does, and what a call does when none is left.
use Rattle.std.specs.Prelude.{ℕ, zero, suc, ◌≡◌, ◌+◌, ◌-◌, ◌^◌, ◌≤◌, min, List, Option, Some, None, Result, Err, IsErrOf}
use Rattle.cam_base.specs.Causes.{Rose}
use Rattle.cam_disk.specs.declared.error.DiskError.{DiskError}
use Rattle.cam_disk.specs.declared.error.DiskError.TheVariants.{Failed}

-- Nothing has happened to what holds the bytes: they are the same, no moment has passed, and a crash might have left the same.
pub record Untouched {A : Type 0} (before now : ℕ) (past since : ℕ → A → Type 0)
    (seen_before seen_now : List ℕ) : Type 0 where
  pub moment : now ≡ before
  pub outcomes : (t : ℕ) (c : A) → (past t c → since t c) × (since t c → past t c)
  pub bytes : seen_now ≡ seen_before

-- a call that was not done: it failed, the disk counted that as its own fault, and nothing else happened
pub record NotDone {T : Type 0} (own_before own_now : ℕ) (same : Type 0)
    (result : Result T DiskError) : Type 0 where
  pub failed : result ≡ Err Failed
  pub counted : own_now ≡ min (own_before + 1) (2 ^ 64 - 1)
  pub unchanged : same

-- With none left a call is not done. Otherwise it is, and one less is left.
abbrev pub Stops : {T : Type 0} → Option ℕ → Option ℕ → ℕ → ℕ → Type 0 → Result T DiskError → Type 0
Stops None left own_before own_now same result = (left ≡ None) × (own_now ≡ own_before)
Stops (Some zero) left own_before own_now same result =
    (left ≡ Some zero) × NotDone own_before own_now same result
Stops (Some (suc n)) left own_before own_now same result = (left ≡ Some n) × (own_now ≡ own_before)

-- Of the faults that are not the disk's own: their count never falls, and a call that is passed on gives `Failed` only if it rose.
pub record FailsWithin {T : Type 0} (left : Option ℕ) (before now : ℕ)
    (result : Result T DiskError) : Type 0 where
  pub later : before ≤ now
  pub failed : (left ≡ Some 0 → ⊥) → IsErrOf result Failed → Rose before now

-- a call is counted if one is left: one less is left then
abbrev pub IsPassed : Option ℕ → Option ℕ → Type 0
IsPassed None left = left ≡ None
IsPassed (Some zero) left = ⊥
IsPassed (Some (suc n)) left = left ≡ Some n

pub stops_done : {T : Type 0} (before left : Option ℕ) (own_before own_now : ℕ) (same : Type 0)
    (result : Result T DiskError) → IsPassed before left → own_now ≡ own_before
    → Stops before left own_before own_now same result
stops_done None left own_before own_now same result passed own = (passed, own)
stops_done (Some (suc n)) left own_before own_now same result passed own = (passed, own)
stops_done (Some zero) left own_before own_now same result passed own = absurd passed

pub stops_not_done : {T : Type 0} (before left : Option ℕ) (own_before own_now : ℕ) (same : Type 0)
    (result : Result T DiskError) → before ≡ Some zero → left ≡ Some zero
    → NotDone own_before own_now same result → Stops before left own_before own_now same result
stops_not_done before left own_before own_now same result is now not_done = rw is (now, not_done)
