use Rattle.std.proofs.Common.{sym, ap, ◌∙◌, arith}
use Rattle.cam_journal.specs.Seats.{sent_as}
use Rattle.cam_journal.proofs.Joining.{copies}
use Rattle.cam_journal.proofs.journal.Journal.copy_note.Goals as goal

pub split_seat-token-requires : goal.split_seat-token-requires
split_seat-token-requires g c =
    let core = g.C.Core in
    let one = c.self.invariant.0 in
    let token = c.note.inside.token in (
      ap (λ n. n.journal) c.note.view_is ∙ c.requires ∙ sym (ap (λ j. j.id) c.self.view_is),
      omega arith,
      copies core.names core.sends core.lawful c.self.inside.table.shared.key token.id token.me.0 (sent_as c.note.inside.number c.note.inside.place c.note.inside.letter.value) (ap (λ me. me.0) c.note.invariant.0),
    )
