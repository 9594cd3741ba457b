use Rattle.std.proofs.Common.{◌≡◌, take}
use Rattle.std.specs.List.{flat_map}
use Rattle.cam_orders.specs.Orders.{longer}
use Rattle.cam_orders.proofs.orders.all_longer.Given as goal

abbrev pub invariant-loop-order : goal.invariant-loop-order
invariant-loop-order l = l.orders ≡ flat_map (longer l.counts) (take l.order-index l.order-items)
