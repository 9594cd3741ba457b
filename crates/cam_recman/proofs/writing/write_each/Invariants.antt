use Rattle.std.proofs.Common.{◌≡◌, ◌++◌, take, flat_map, All}
use Rattle.cam_recman.specs.Records.{held_op}
use Rattle.cam_recman.specs.Ranges.{IsHeldOp}
use Rattle.cam_recman.proofs.writing.write_each.Given as goal

abbrev pub invariant-loop-op : goal.invariant-loop-op
invariant-loop-op l = record {
  text : l.out.items ≡ l.fn.out.items ++ flat_map held_op (take l.op-index l.ops);
  range : All IsHeldOp (take l.op-index l.ops);
}
