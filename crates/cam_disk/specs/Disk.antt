-- What the calls of a disk do to what it holds, and what a crash may do between two syncs.
use Rattle.std.specs.Prelude.{ℕ, ◌≡◌, ◌+◌, ◌-◌, ◌≤◌, ◌⊎◌, min, max, List, ◌++◌, length, take, drop, Result, IsErrOf}
use Rattle.cam_base.specs.Causes.{Rose}
use Rattle.cam_disk.specs.declared.error.DiskError.{DiskError}
use Rattle.cam_disk.specs.declared.error.DiskError.TheVariants.{Failed}

-- n bytes were copied: those from `at` on, as many as there are and as fit into `room`
pub record Reads (held : List ℕ) (at room n : ℕ) (bytes : List ℕ) : Type 0 where
  pub count : n ≡ min room (length held - at)
  pub copied : bytes ≡ take n (drop at held)

-- new is old with these bytes at this place
abbrev pub Holds : List ℕ → ℕ → List ℕ → List ℕ → Type 0
Holds old at bytes new = new ≡ take at old ++ bytes ++ drop (at + length bytes) old

-- after a write of n bytes that a crash cuts short: any bytes in the range and past the old end, the same elsewhere
pub record Torn (at n : ℕ) (old new : List ℕ) : Type 0 where
  pub before : take at new ≡ take at old
  pub after : drop (at + n) new ≡ drop (at + n) old
  pub no_shorter : length old ≤ length new
  pub no_longer : length new ≤ max (length old) (at + n)

-- After a cut that a crash cuts short: some length between. What was shorter before stays as it was.
pub record Cut (n : ℕ) (old new : List ℕ) : Type 0 where
  pub no_shorter : min n (length old) ≤ length new
  pub front : take (length new) old ≡ new

abbrev pub Same : List ℕ → List ℕ → Type 0
Same old new = new ≡ old

-- each new outcome of a crash is an old outcome after a step
abbrev pub Follows : (List ℕ → List ℕ → Type 0) → (List ℕ → Type 0) → (List ℕ → Type 0) → Type 0
Follows step old new = (c : List ℕ) → new c → (d : List ℕ) × old d × step d c

-- a crash leaves this and nothing else
abbrev pub Only : List ℕ → (List ℕ → Type 0) → Type 0
Only held outcomes = (c : List ℕ) → outcomes c → c ≡ held

-- Time goes on: a crash since t might have left what it might have left before, or what it may leave now.
pub record Elapses (before now : ℕ) (past since : ℕ → List ℕ → Type 0)
    (may_leave : List ℕ → Type 0) : Type 0 where
  pub later : before ≤ now
  pub nothing_else : (t : ℕ) (c : List ℕ) → t ≤ before → since t c → past t c ⊎ may_leave c
  pub keeps : (t : ℕ) (c : List ℕ) → t ≤ before → past t c → since t c

-- The count of faults never falls, and `Failed` comes only if it rose.
pub record FailsWithCause {T : Type 0} (before now : ℕ) (result : Result T DiskError) : Type 0 where
  pub later : before ≤ now
  pub failed : IsErrOf result Failed → Rose before now
