-- As many clocks as events were taken.
use Rattle.std.proofs.Common.{◌≡◌, length}
use Rattle.cam_shiviz.proofs.clocks.clocks_of.Given as goal

abbrev pub invariant-loop-event : goal.invariant-loop-event
invariant-loop-event l = length l.clocks.items ≡ l.event-index
