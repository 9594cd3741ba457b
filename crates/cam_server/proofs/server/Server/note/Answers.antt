-- There is room, so the insertion does not fail.
use Rattle.std.proofs.Common.{arith, refl}
use Rattle.cam_server.specs.declared.server.Server.{Server as Tables}
use Rattle.cam_server.proofs.Noting.{busy_noted}
use Rattle.cam_server.proofs.server.Server.note.Goals as goal

pub returns-in-Conflict-clause-replies : goal.returns-in-Conflict-clause-replies
returns-in-Conflict-clause-replies c =
    let old = c.args.self.now in
    let new : Tables = record { count = old.count; table = old.table; performed = old.performed; bounced = c.insert-in-Conflict.new.self } in
    rw c.in-Conflict.is
    (busy_noted c.insert-in-Conflict.result old new c.args.call.now c.in-Conflict.holder (c.insert-in-Conflict.ensures.succeeds (omega (arith, c.requires.room))) c.insert-in-Conflict.ensures.updates refl c.requires.fresh)
