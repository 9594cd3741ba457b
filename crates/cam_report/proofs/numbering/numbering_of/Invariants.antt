use Rattle.std.proofs.Common.{take, reverse}
use Rattle.cam_report.proofs.Counting.{IsCounted}
use Rattle.cam_report.proofs.numbering.numbering_of.Given as goal

abbrev pub invariant-loop-event : goal.invariant-loop-event
invariant-loop-event l = IsCounted (reverse (take l.event-index l.events)) l.before.items l.sent
