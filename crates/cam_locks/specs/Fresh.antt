-- Whether what is kept of an object can be gone by.
use Rattle.std.specs.Prelude.{◌≡◌, ℕ, ◌<◌, false, List, length, get_or}
use Rattle.cam_locks.specs.Holding.{LocksView}

-- Something is kept at the place, and it is not stale.
pub record IsFresh (locks : List LocksView) (x : ℕ) : Type 0 where
  pub within : x < length locks
  pub not_stale : (l : LocksView) → (get_or locks x l).stale ≡ false
