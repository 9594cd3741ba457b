-- What a server holds after an operation that was asked of it.
use Rattle.std.specs.Prelude.{◌≡◌, ℕ, List}
use Rattle.cam_names.specs.declared.name.Name.{Name}
use Rattle.cam_type.specs.declared.State.{State}
use Rattle.cam_type.specs.declared.Op.{Op}
use Rattle.cam_type.specs.Table.{state_after}
use Rattle.cam_locks.specs.declared.LiveOp.{LiveOp}
use Rattle.cam_locks.specs.Site.{Site}
use Rattle.cam_locks.specs.Moss.{holder, value}
use Rattle.cam_locks.specs.Holding.{LocksView}
use Rattle.cam_locks.specs.Sums.{sum_on, IsStart}
use Rattle.cam_locks.specs.Changes.{met, LastIsLive, Tidied, by_holder}

abbrev pub served : Site → Name → ℕ → Op → State → State
served site a x op held = by_holder (holder site a x op) held (state_after (value site x) op)

-- The state is that after an operation: what need not be kept was left out, and then it was done.
pub record IsServed (committed : List Name) (live : List LiveOp) (o : LiveOp) (state : State)
    (old : LocksView) : Type 0 where
  pub before : LocksView
  pub tidied : Tidied committed live old before
  pub last : LastIsLive live before.versions
  pub range : IsStart before.start
  pub state_is : state ≡ state_after (met before.start before.versions (sum_on o.object live)) o.op
