-- The letter came once more.
use Rattle.std.proofs.Common.{◌∙◌}
use Rattle.cam_storm_node.proofs.Counted.{counted}
use Rattle.cam_storm_node.proofs.receipts.Receipts.take_in.Goals as goal

pub returns-in_ok-insert : goal.returns-in_ok-insert
returns-in_ok-insert c t e got before =
    counted t e c.args.self.now (record { times = c.insert.new.self }) c.in-Some.letter.event
    c.in-Some.letter.place
    c.times-times.result (got ∙ c.in-Some.is) c.times-times.ensures
    c.in_ok-insert.ensures.updates.0 before
