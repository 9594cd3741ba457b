-- All that the proofs use of the modes: each is one of the three, writes are not compatible, what is no write leaves the state of an object
-- that is no counter, and a counter has no writes. And which lists are changed for an operation of a mode.
use Rattle.std.proofs.Common.{◌≡◌, if◌then◌else◌, true, false, ◌||◌, List, [], ◌∷◌, refl}
use Rattle.cam_type.specs.declared.State.{State}
use Rattle.cam_type.specs.declared.State.TheVariants.{Register, Queue, Counter}
use Rattle.cam_type.specs.declared.Op.{Op}
use Rattle.cam_type.specs.declared.Op.TheVariants as ops
use Rattle.cam_type.specs.declared.Mode.{Mode}
use Rattle.cam_type.specs.declared.Mode.TheVariants.{Read, Write, Add}
use Rattle.cam_type.specs.Table.{state_after, mode_of, compatible}
use Rattle.cam_names.specs.declared.name.Name.{Name}
use Rattle.cam_locks.specs.declared.LiveOp.{LiveOp}
use Rattle.cam_locks.specs.Holding.{mode_eq, LocksView, leaders_of, fresh}
use Rattle.cam_locks.specs.Changes.{with_leader, with_write, added_by}
use Rattle.cam_locks.specs.Sums.{is_counter}

-- modes that are tested to be the same are the same
pub same_mode : (m n : Mode) → mode_eq m n ≡ true → m ≡ n
same_mode Read Read h = refl
same_mode Read Write h = cc
same_mode Read Add h = cc
same_mode Write Read h = cc
same_mode Write Write h = refl
same_mode Write Add h = cc
same_mode Add Read h = cc
same_mode Add Write h = cc
same_mode Add Add h = refl

-- a mode is one of the three
pub some_mode : (k : Mode) → ((mode_eq k Read || mode_eq k Write) || mode_eq k Add) ≡ true
some_mode Read = refl
some_mode Write = refl
some_mode Add = refl

-- writes are not compatible
pub writes_apart : (m n : Mode) → mode_eq m Write ≡ true → mode_eq n Write ≡ true → compatible m n ≡ false
writes_apart Read n h k = cc
writes_apart Add n h k = cc
writes_apart Write Read h k = cc
writes_apart Write Add h k = cc
writes_apart Write Write h k = refl

-- what is no write leaves the state of a register or a queue
pub no_write : (state : State) (op : Op) → is_counter state ≡ false → mode_eq (mode_of op) Write ≡ false → state_after state op ≡ state
no_write (Register v) ops.Read k h = refl
no_write (Register v) (ops.Write w) k h = cc
no_write (Register v) (ops.Swap w) k h = cc
no_write (Register v) ops.Size k h = refl
no_write (Register v) (ops.Put w) k h = cc
no_write (Register v) ops.Take k h = cc
no_write (Register v) (ops.Add w) k h = refl
no_write (Queue items) ops.Read k h = refl
no_write (Queue items) (ops.Write w) k h = cc
no_write (Queue items) (ops.Swap w) k h = cc
no_write (Queue items) ops.Size k h = refl
no_write (Queue items) (ops.Put w) k h = cc
no_write (Queue items) ops.Take k h = cc
no_write (Queue items) (ops.Add w) k h = refl
no_write (Counter v) op k h = cc

-- what is no counter stays none
pub no_counter : (state : State) (op : Op) → is_counter state ≡ false → is_counter (state_after state op) ≡ false
no_counter (Register v) ops.Read k = refl
no_counter (Register v) (ops.Write w) k = refl
no_counter (Register v) (ops.Swap w) k = refl
no_counter (Register v) ops.Size k = refl
no_counter (Register v) (ops.Put w) k = refl
no_counter (Register v) ops.Take k = refl
no_counter (Register v) (ops.Add w) k = refl
no_counter (Queue items) ops.Read k = refl
no_counter (Queue items) (ops.Write w) k = refl
no_counter (Queue items) (ops.Swap w) k = refl
no_counter (Queue items) ops.Size k = refl
no_counter (Queue items) (ops.Put w) k = refl
no_counter (Queue []) ops.Take k = refl
no_counter (Queue (v ∷ items)) ops.Take k = refl
no_counter (Queue items) (ops.Add w) k = refl
no_counter (Counter v) op k = cc

-- an operation leaves the start state
pub added_start : (m : Mode) (ns : List Name) (os : List LiveOp) (l : LocksView) (o : LiveOp) → (added_by m ns os l o).start ≡ l.start
added_start Read ns os l o = refl
added_start Write ns os l o = refl
added_start Add ns os l o = refl

-- and whether the object is stale
pub added_stale : (m : Mode) (ns : List Name) (os : List LiveOp) (l : LocksView) (o : LiveOp) → (added_by m ns os l o).stale ≡ l.stale
added_stale Read ns os l o = refl
added_stale Write ns os l o = refl
added_stale Add ns os l o = refl

-- It changes the list of its own mode alone.
pub added_leaders : (m k : Mode) (ns : List Name) (os : List LiveOp) (l : LocksView) (o : LiveOp)
    → leaders_of (added_by m ns os l o) k ≡ (if mode_eq m k then with_leader ns os (leaders_of l k) o else leaders_of l k)
added_leaders Read Read ns os l o = refl
added_leaders Read Write ns os l o = refl
added_leaders Read Add ns os l o = refl
added_leaders Write Read ns os l o = refl
added_leaders Write Write ns os l o = refl
added_leaders Write Add ns os l o = refl
added_leaders Add Read ns os l o = refl
added_leaders Add Write ns os l o = refl
added_leaders Add Add ns os l o = refl

-- and the versions, where it writes
pub added_versions : (m : Mode) (ns : List Name) (os : List LiveOp) (l : LocksView) (o : LiveOp)
    → (added_by m ns os l o).versions ≡ (if mode_eq m Write then with_write ns l.start l.versions o else l.versions)
added_versions Read ns os l o = refl
added_versions Write ns os l o = refl
added_versions Add ns os l o = refl

-- at first nothing leads
pub no_leaders_of : (m : Mode) (start : State) → leaders_of (fresh start) m ≡ []
no_leaders_of Read start = refl
no_leaders_of Write start = refl
no_leaders_of Add start = refl
