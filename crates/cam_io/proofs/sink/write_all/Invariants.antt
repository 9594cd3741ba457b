use Rattle.std.proofs.Common.{◌≡◌, ◌≤◌, ◌-◌, ◌++◌, take, length}
use Rattle.cam_base.specs.Told.{IfTold}
use Rattle.cam_io.proofs.sink.write_all.Given as goal

abbrev pub invariant-loop-at : goal.invariant-loop-at
invariant-loop-at g l = record {
  place : l.at ≤ length l.text;
  count : g.K.Sink.faults l.initial.sink ≤ g.K.Sink.faults l.sink;
  front : IfTold (g.K.Sink.written l.initial.sink) (g.K.Sink.written l.sink) (λ old new. new ≡ old ++ take l.at l.text);
}

abbrev pub decreases-loop-at : goal.decreases-loop-at
decreases-loop-at g l = length l.text - l.at
