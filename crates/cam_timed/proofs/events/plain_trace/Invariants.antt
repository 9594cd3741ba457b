use Rattle.std.proofs.Common.{◌≡◌, take, reverse}
use Rattle.cam_timed.specs.Moments.{events}
use Rattle.cam_timed.proofs.events.plain_trace.Given as goal

abbrev pub invariant-loop-event : goal.invariant-loop-event
invariant-loop-event l = reverse l.plain ≡ events (reverse (take l.event-index l.event-items))
