use Rattle.std.proofs.Common.{◌≡◌, ◌≤◌, ◌+◌, length}
use Rattle.cam_orders.specs.Orders.{beginnings}
use Rattle.cam_orders.proofs.Counting.{lines_below}
use Rattle.cam_orders.proofs.orders.all_orders.Given as goal

abbrev pub invariant-loop-count : goal.invariant-loop-count
invariant-loop-count l =
    (l.orders ≡ beginnings l.counts (lines_below l.count-index l.counts)) × (length l.orders ≤ l.most)

abbrev pub invariant-loop-step : goal.invariant-loop-step
invariant-loop-step l =
    (l.orders ≡ beginnings l.counts (lines_below l.count-index l.counts + l.step)) × (length l.orders ≤ l.most)
