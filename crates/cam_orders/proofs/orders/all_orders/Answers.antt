use Rattle.std.proofs.Common.{◌≡◌, ◌∙◌, ◌+◌, suc, ap, arith, length}
use Rattle.std.specs.List.{flat_map}
use Rattle.cam_orders.specs.Orders.{beginnings, longer}
use Rattle.cam_orders.proofs.Counting.{lines_below}
use Rattle.cam_orders.proofs.Filling.{more_orders}
use Rattle.cam_orders.proofs.Levels.{all_begun}
use Rattle.cam_orders.proofs.orders.all_orders.Goals as goal

pub returns-then-len-most-clause-more : goal.returns-then-len-most-clause-more
returns-then-len-most-clause-more c =
    more_orders c.args.counts.now (suc (lines_below c.loop-count.count-index c.args.counts.now + c.loop-step.step)) c.args.most
    c.in_ok-orders-2.orders
    (c.in_ok-orders-2.ensures ∙ ap (flat_map (longer c.args.counts.now)) c.loop-step.invariant.0)
    (grind arith)

pub returns-clause-all : goal.returns-clause-all
returns-clause-all c =
    let end : c.loop-count.count-index ≡ length c.args.counts.now = grind arith in
    all_begun c.args.counts.now c.loop-count.orders
    (c.loop-count.invariant.0 ∙ ap (λ i. beginnings c.args.counts.now (lines_below i c.args.counts.now)) end)
