use Rattle.cam_hall.proofs.Turning.{history_addressed}
use Rattle.cam_hall.proofs.cell.Cell.turn.Goals as goal

pub returns : goal.returns
returns g c =
    let core = g.C.Core in
    history_addressed core.names core.sends core.lawful core.answers core.goes_to core.copied
    g.J.Names.journal g.row.NODE _ _ c.args.item c.turn-answer.result c.turn-answer.ensures.history
