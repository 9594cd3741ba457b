-- How many calls of a disk were done, if it does a bounded number of them.
use Rattle.std.proofs.Common.{ℕ, zero, suc, ◌≡◌, ◌+◌, Option, Some, None, Result, Ok, subst, arith, OnOk, Err}
use Rattle.cam_disk.specs.declared.error.DiskError.{DiskError}
use Rattle.cam_disk.specs.Stop.{Stops}

-- This many were done: so many were left, and are left no more. If there is no bound, there is none later.
abbrev pub Spent : ℕ → Option ℕ → Option ℕ → Type 0
Spent calls None left = left ≡ None
Spent calls (Some n) left = (m : ℕ) × (n ≡ calls + m) × (left ≡ Some m)

pub spent_one : {T : Type 0} (before left : Option ℕ) (own_before own_now : ℕ) (same : Type 0)
    (result : Result T DiskError) → Stops before left own_before own_now same result
    → OnOk result (Spent 1 before left)
spent_one None left own_before own_now same (Ok x) stops = stops.0
spent_one (Some zero) left own_before own_now same (Ok x) stops = absurd (cc (stops.1.failed))
spent_one (Some (suc n)) left own_before own_now same (Ok x) stops = (n, omega arith, stops.0)
spent_one before left own_before own_now same (Err e) stops = tt

pub spent_then : (a b : ℕ) (before between left : Option ℕ) → Spent a before between
    → Spent b between left → Spent (a + b) before left
spent_then a b None between left first second = subst (λ (u : Option ℕ). Spent b u left) first second
spent_then a b (Some n) between left first second =
    let more = subst (λ (u : Option ℕ). Spent b u left) first.2 second in
    (more.0, omega (arith, first.1, more.1), more.2)

-- a call of a disk with none left touches nothing
pub stops_at_none : {T : Type 0} (before left : Option ℕ) (own_before own_now : ℕ)
    (same untouched : Type 0) (result : Result T DiskError)
    → Stops before left own_before own_now (same × untouched) result → before ≡ Some 0 → untouched
stops_at_none None left own_before own_now same untouched result stops none = absurd (cc)
stops_at_none (Some zero) left own_before own_now same untouched result stops none =
    stops.1.unchanged.1
stops_at_none (Some (suc n)) left own_before own_now same untouched result stops none = absurd (cc)

-- if some were done, there were some
pub none_spent : (calls : ℕ) (before left : Option ℕ) → Spent (suc calls) before left
    → before ≡ Some 0 → ⊥
none_spent calls None left spent none = cc
none_spent calls (Some n) left spent none = let zero_is : n ≡ 0 = cc in omega (arith, spent.1, zero_is)

-- if there is no bound, there is none after a call
pub none_left : {T : Type 0} (before left : Option ℕ) (own_before own_now : ℕ) (same : Type 0)
    (result : Result T DiskError) → Stops before left own_before own_now same result
    → before ≡ None → left ≡ None
none_left None left own_before own_now same result stops none = stops.0
none_left (Some zero) left own_before own_now same result stops none = absurd (cc)
none_left (Some (suc n)) left own_before own_now same result stops none = absurd (cc)
