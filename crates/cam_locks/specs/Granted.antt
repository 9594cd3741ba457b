-- What a grant makes of what a table goes by.
use Rattle.std.specs.Prelude.{◌≡◌, List, ℕ, ◌≤◌, ◌+◌, true, [], ◌∷◌, ◌++◌, filter, not, Option, Result, IfOk, OnOk, OnErr}
use Rattle.cam_names.specs.declared.name.Name.{Name}
use Rattle.cam_type.specs.declared.State.{State}
use Rattle.cam_type.specs.declared.Kind.{Kind}
use Rattle.cam_type.specs.Objects.{start_of}
use Rattle.cam_type.specs.Table.{kind_of, fits, state_after, answer_of}
use Rattle.cam_locks.specs.declared.LiveOp.{LiveOp}
use Rattle.cam_locks.specs.declared.Grant.{Grant}
use Rattle.cam_locks.specs.declared.kept.Kept.{Kept}
use Rattle.cam_locks.specs.Moss.{holder_of, value_of}
use Rattle.cam_locks.specs.Calls.{grant_by, is_below}
use Rattle.cam_locks.specs.Site.{IndicesRise, AreFit}
use Rattle.cam_locks.specs.Holding.{AllLocks}
use Rattle.cam_locks.specs.Changes.{by_holder}

-- The live operations are in order of their indices, and what is kept of each object is right, unless it is stale.
pub record IsKept (k : Kept) : Type 0 where
  pub rising : IndicesRise 0 k.live.ops k.live.next
  pub range : k.live.next ≤ 1000000000
  pub locks : AllLocks k.objects k.committed.names k.live.ops k.live.next k.locks.items

-- who stands in the way of an operation, and the value that it meets
abbrev pub holder_in : Kept → LiveOp → Option Name
holder_in k o = holder_of k.committed.names k.live.ops o.action o.object o.op

abbrev pub value_in : Kept → LiveOp → State
value_in k o = value_of k.objects k.live.ops o.object

-- An operation may be added: its index is the next one or above, and in its range.
pub record MayFollow (k : Kept) (o : LiveOp) : Type 0 where
  pub index : k.live.next ≤ o.index
  pub range : o.index ≤ 999999999

-- And a server may be asked for it: it fits its object, whose kind is the server's.
pub record MayBeAsked (k : Kept) (o : LiveOp) (kind : Kind) : Type 0 where
  pub index : k.live.next ≤ o.index
  pub range : o.index ≤ 999999999
  pub fit : fits (kind_of (start_of k.objects o.object)) o.op ≡ true
  pub same_kind : kind ≡ kind_of (start_of k.objects o.object)

-- An operation was added, or memory ran out and nothing was.
pub record IsAdded {T E : Type 0} (old : Kept) (o : LiveOp) (answer : Result T E)
    (new : Kept) : Type 0 where
  pub kept : IsKept new
  pub objects : new.objects ≡ old.objects
  pub committed : new.committed ≡ old.committed
  pub ops : OnOk answer (new.live.ops ≡ old.live.ops ++ o ∷ [])
  pub next : OnOk answer (new.live.next ≡ o.index + 1)
  pub err_ops : OnErr answer (new.live.ops ≡ old.live.ops)
  pub err_next : OnErr answer (new.live.next ≡ old.live.next)

-- What a grant means. Where someone stands in the way it names him and changes nothing. Else the operation was added, and answered at the
-- value that it meets, and the server holds the state after it. Where memory ran out the live operations are as before.
pub record IsGranted {E : Type 0} (old : Kept) (o : LiveOp) (held : State) (answer : Result Grant E)
    (new : Kept) (after : State) : Type 0 where
  pub kept : IsKept new
  pub objects : new.objects ≡ old.objects
  pub committed : new.committed ≡ old.committed
  pub grant : IfOk answer
      (λ granted. granted ≡ grant_by (holder_in old o) (answer_of (value_in old o) o.op))
  pub served : OnOk answer
      (after ≡ by_holder (holder_in old o) held (state_after (value_in old o) o.op))
  pub ops : OnOk answer
      (new.live.ops ≡ by_holder (holder_in old o) old.live.ops (old.live.ops ++ o ∷ []))
  pub next : OnOk answer (new.live.next ≡ by_holder (holder_in old o) old.live.next (o.index + 1))
  pub err_ops : OnErr answer (new.live.ops ≡ old.live.ops)
  pub err_next : OnErr answer (new.live.next ≡ old.live.next)

-- The operation was taken back that was added last, under the index before the next one; where that one is live no longer nothing was.
pub record IsTakenBack (old new : Kept) : Type 0 where
  pub kept : IsKept new
  pub objects : new.objects ≡ old.objects
  pub committed : new.committed ≡ old.committed
  pub fit : (node : ℕ) → AreFit old.objects node old.live.ops → AreFit old.objects node new.live.ops
  pub taken :
      (before : List LiveOp) (o : LiveOp) → old.live.ops ≡ before ++ o ∷ []
      → old.live.next ≡ o.index + 1
      → (new.live.ops ≡ before) × (new.live.next ≡ o.index)

-- The operations of an action and of all below it were dropped.
pub record IsDroppedFrom (old : Kept) (a : Name) (new : Kept) : Type 0 where
  pub kept : IsKept new
  pub objects : new.objects ≡ old.objects
  pub committed : new.committed ≡ old.committed
  pub ops : new.live.ops ≡ filter (λ o. not (is_below a o)) old.live.ops
  pub next : new.live.next ≡ old.live.next
