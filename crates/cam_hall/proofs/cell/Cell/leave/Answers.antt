use Rattle.cam_hall.proofs.cell.Cell.leave.Goals as goal

pub returns-clause-left : goal.returns-clause-left
returns-clause-left g c =
    let parts = c.into_parts-core in (
      record { core = parts.result.0; seat = parts.result.1 },
      record {
        own = parts.ensures.seat.0;
        number = parts.ensures.seat.1;
        replay = parts.ensures.replay;
      },
      c.in-Ok.ensures.items,
      c.in-Ok-push.ensures.items,
    )
