use Rattle.std.proofs.Common.{length, ◌-◌, ◌≤◌}
use Rattle.cam_net.specs.Waiting.{first_for}
use Rattle.cam_net.proofs.in_flight.first_for.Given as goal

-- no letter before the place waits for the node
abbrev pub invariant-loop-place : goal.invariant-loop-place
invariant-loop-place l = record { before : l.place ≤ first_for l.node l.letters }

abbrev pub decreases-loop-place : goal.decreases-loop-place
decreases-loop-place l = length l.letters - l.place
