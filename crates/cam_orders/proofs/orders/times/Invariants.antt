use Rattle.std.proofs.Common.{◌≡◌, ◌+◌, ◌≤◌, drop}
use Rattle.cam_orders.specs.Orders.{times}
use Rattle.cam_orders.proofs.orders.times.Given as goal

abbrev pub invariant-loop-other : goal.invariant-loop-other
invariant-loop-other l =
    (l.count + times l.family (drop l.other-index l.order) ≡ times l.family l.order) × (l.count ≤ l.other-index)
