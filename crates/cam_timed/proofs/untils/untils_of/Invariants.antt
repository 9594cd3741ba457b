use Rattle.std.proofs.Common.{take, reverse}
use Rattle.cam_timed.specs.Untils.{TellsUntils}
use Rattle.cam_timed.proofs.untils.untils_of.Given as goal

abbrev pub invariant-loop-event : goal.invariant-loop-event
invariant-loop-event l = TellsUntils (reverse (take l.event-index l.event-items)) l.untils
