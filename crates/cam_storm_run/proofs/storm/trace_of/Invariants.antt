-- The events that were taken, and those that are left.
use Rattle.std.proofs.Common.{◌≡◌, ◌++◌, length, map}
use Rattle.cam_storm_run.proofs.storm.trace_of.Given as goal

abbrev pub invariant-loop-stepped : goal.invariant-loop-stepped
invariant-loop-stepped g l =
    l.trace ++ map (λ event. event.1.event) l.gathered
    ≡ map (λ event. event.1.event) l.fn.gathered

abbrev pub decreases-loop-stepped : goal.decreases-loop-stepped
decreases-loop-stepped g l = length l.gathered
