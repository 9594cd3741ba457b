use Rattle.std.proofs.Common.{◌≡◌, ◌++◌, drop}
use Rattle.cam_orders.specs.Orders.{longer, longer_from}
use Rattle.cam_orders.proofs.orders.add_longer.Given as goal

abbrev pub invariant-loop-family : goal.invariant-loop-family
invariant-loop-family l =
    l.orders ++ longer_from l.family (drop l.family l.counts) l.begun ≡ l.fn.orders ++ longer l.counts l.begun
