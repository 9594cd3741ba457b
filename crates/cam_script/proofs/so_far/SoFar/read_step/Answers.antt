use Rattle.std.proofs.Common.{sym, subst}
use Rattle.std.specs.Prelude.{IsFalse}
use Rattle.cam_script.specs.Order.{is_too_many}
use Rattle.cam_script.proofs.Costs.{room_to_start}
use Rattle.cam_script.proofs.so_far.SoFar.read_step.Goals as goal

pub push_binding-requires-in-Start-clause-room : goal.push_binding-requires-in-Start-clause-room
push_binding-requires-in-Start-clause-room c =
    let d = c.args.self.now in
    let line = c.args.line.now in
    let read = c.in_ok-name-in-Start in
    room_to_start d line.number c.args.at line.bytes.now (read.name, read.act) c.requires.within.names c.requires.outside
    (subst (λ f. IsFalse (is_too_many d f c.args.at line.bytes.now)) c.in-Start.is c.requires.room) (sym read.ensures.value)
