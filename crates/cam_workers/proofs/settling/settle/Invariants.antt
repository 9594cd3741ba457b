-- Before the last pass there were so many events.
use Rattle.std.proofs.Common.{◌≡◌, ◌≤◌, ◌-◌}
use Rattle.cam_workers.specs.Rest.{HasPassed, IsAtRest, Stood, events, stood}
use Rattle.cam_workers.proofs.settling.settle.Given as goal

abbrev pub invariant-loop-before : goal.invariant-loop-before
invariant-loop-before g l = record {
  journal : l.ended.journal ≡ l.fn.ended.journal;
  start : Stood g.row.C.Denot g.row.C-Event.Denot g.row.C-Letter.Denot;
  count : events start ≡ l.before;
  most : l.before ≤ 2000000000;
  passed :
      HasPassed (IsAtRest g.C.Core.sends g.C.Core.goes_to g.C.Core.is_idle) start (stood l.ended);
}

abbrev pub decreases-loop-before : goal.decreases-loop-before
decreases-loop-before g l = 2000000000 - l.before
