-- The last core and the last seat.
use Rattle.std.proofs.Common.{Box, Global, arith}
use Rattle.cam_workers.proofs.Last.{last_stands, others_stand, seen_last}
use Rattle.cam_workers.proofs.hall.last_cell.Goals as goal

pub new-requires : goal.new-requires
new-requires g c =
    let standing =
    last_stands g.C.Core.is_replay g.J.Names.journal g.row.NODE _ _ c.in-Some.core.value _ _
    c.in-Some-pop.seat c.requires.standing
    (seen_last (λ (core : Box g.row.C.Denot Global). core.value) c.pop.new.self.items
    c.args.cores.now.items c.in-Some.core c.in-Some.ensures.items)
    c.in-Some-pop.ensures.items in
    (omega arith, ((standing.own, standing.number), standing.replay))

pub returns : goal.returns
returns g c =
    others_stand g.C.Core.is_replay g.J.Names.journal g.row.NODE _ _ c.in-Some.core.value _ _
    c.in-Some-pop.seat c.requires.standing
    (seen_last (λ (core : Box g.row.C.Denot Global). core.value) c.pop.new.self.items
    c.args.cores.now.items c.in-Some.core c.in-Some.ensures.items)
    c.in-Some-pop.ensures.items
