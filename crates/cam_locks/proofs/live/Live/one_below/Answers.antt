use Rattle.cam_locks.proofs.PlacedOrder.{not_before_itself}
use Rattle.cam_locks.proofs.NextBelow.{nothing_below}
use Rattle.cam_locks.proofs.live.Live.one_below.Goals as goal

pub next_below-requires : goal.next_below-requires
next_below-requires c = not_before_itself (record { name = c.args.name.now; index = 0 })

pub returns-clause-none : goal.returns-clause-none
returns-clause-none c = nothing_below c.args.self.now.ops c.args.name.now c.next_below.result c.next_below.ensures.value
