use Rattle.cam_hall.proofs.Leaving.{left_are_seats}
use Rattle.cam_hall.proofs.ended.Ended.into_parts.Goals as goal

pub returns-clause-seats : goal.returns-clause-seats
returns-clause-seats g c =
    left_are_seats g.C.Core.is_replay (record {
      journal = c.self.inside.journal;
      cores = c.self.inside.cores.items;
      seats = c.self.inside.seats.items;
    }) c.self.invariant
