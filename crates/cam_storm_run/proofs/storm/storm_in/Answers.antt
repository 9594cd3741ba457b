-- New nodes stand beside new seats.
use Rattle.std.proofs.Common.{◌∙◌}
use Rattle.cam_storm_run.proofs.Founded.{standing}
use Rattle.cam_storm_run.proofs.storm.storm_in.Goals as goal

pub hall_of-hall-requires-clause-standing : goal.hall_of-hall-requires-clause-standing
hall_of-hall-requires-clause-standing g c =
    standing _ _ g.J.Names.journal c.found.new.cores.items c.args.seats.items
    (c.in_ok-found.ensures.count ∙ c.requires.one_each) c.in_ok-found.ensures.new c.requires.seats
