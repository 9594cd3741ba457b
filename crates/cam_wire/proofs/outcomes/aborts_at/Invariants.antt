use Rattle.std.proofs.Common.{◌≡◌, ◌≤◌, length}
use Rattle.cam_wire.specs.Reading.{aborts_from, aborts_at}
use Rattle.cam_wire.proofs.outcomes.aborts_at.Given as goal

-- what is still to be read gives what all gives
abbrev pub invariant-loop-left : goal.invariant-loop-left
invariant-loop-left l = record {
  start : l.fn.at ≤ l.at;
  end : l.at ≤ length l.bytes;
  same : aborts_from l.left l.aborts l.at l.bytes ≡ aborts_at l.fn.at l.bytes;
}

abbrev pub decreases-loop-left : goal.decreases-loop-left
decreases-loop-left l = l.left
