use Rattle.std.proofs.Common.{◌≡◌, ℕ, eqb, take}
use Rattle.std.specs.List.{list_any}
use Rattle.cam_locks.specs.Restored.{has_index, MayBeHeld}
use Rattle.cam_locks.proofs.restorable.may_be_held.Given as goal

abbrev pub invariant-loop-op : goal.invariant-loop-op
invariant-loop-op l =
    MayBeHeld l.objects l.node (take l.op-index l.ops)
    × ((i : ℕ) → list_any (λ j. eqb i j) l.indices.keys ≡ has_index (take l.op-index l.ops) i)
