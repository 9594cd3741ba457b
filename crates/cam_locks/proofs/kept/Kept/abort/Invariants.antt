use Rattle.std.proofs.Common.{◌≡◌, not, length}
use Rattle.std.specs.Prelude.{filter}
use Rattle.cam_locks.specs.declared.LiveOp.{LiveOp}
use Rattle.cam_locks.specs.Members.{In}
use Rattle.cam_locks.specs.Calls.{is_below}
use Rattle.cam_locks.proofs.EachObject.{SpoiledWhere}
use Rattle.cam_locks.proofs.kept.Kept.abort.Given as goal

abbrev pub invariant-loop-operation : goal.invariant-loop-operation
invariant-loop-operation l = record {
  among : (o : LiveOp) → In o l.live.ops → In o l.initial.live.ops;
  above : filter (λ o. not (is_below l.name o)) l.live.ops ≡ filter (λ o. not (is_below l.name o)) l.initial.live.ops;
  next : l.live.next ≡ l.initial.live.next;
  spoiled : SpoiledWhere l.spoils l.name l.initial.live.ops l.live.ops l.initial.locks.items l.locks.items;
}

abbrev pub decreases-loop-operation : goal.decreases-loop-operation
decreases-loop-operation l = length l.live.ops
