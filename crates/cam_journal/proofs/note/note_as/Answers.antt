use Rattle.std.proofs.Common.{arith}
use Rattle.cam_journal.proofs.Joining.{notes}
use Rattle.cam_journal.proofs.note.note_as.Goals as goal

pub split_seat-requires : goal.split_seat-requires
split_seat-requires g c =
    let core = g.C.Core in
    let token = c.args.token.now in (
      c.requires.table.0,
      (let one = c.requires.table.1 in omega arith),
      notes core.names core.sends core.lawful c.args.shared.now.key token.id token.me.0 c.args.sent.now g.N.Told.told c.requires.told c.requires.sent,
    )
