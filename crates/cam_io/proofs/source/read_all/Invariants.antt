use Rattle.std.proofs.Common.{◌≡◌, ◌≤◌, ◌-◌, ◌++◌, vec_len}
use Rattle.cam_base.specs.Told.{IfTold}
use Rattle.cam_io.proofs.source.read_all.Given as goal

abbrev pub invariant-loop-bytes : goal.invariant-loop-bytes
invariant-loop-bytes g l = record {
  within : vec_len l.bytes ≤ l.limit;
  count : g.S.Source.faults l.initial.source ≤ g.S.Source.faults l.source;
  front : IfTold (g.S.Source.left l.initial.source) (g.S.Source.left l.source) (λ old new. old ≡ l.bytes.items ++ new);
}

abbrev pub decreases-loop-bytes : goal.decreases-loop-bytes
decreases-loop-bytes g l = l.limit - vec_len l.bytes
