use Rattle.cam_test_threads.proofs.Rings.{last_of}
use Rattle.cam_test_threads.proofs.ring.last_seat.Goals as goal

pub returns : goal.returns
returns g c =
    let last =
    last_of g.J.Names.journal g.row.NODE c.args.seats.now.items c.pop.new.self.items
    c.in_ok-seat.seat c.requires c.in_ok-seat.ensures.items in
    record { own = (last.0, last.1); new = last.2; rest = last.3 }
