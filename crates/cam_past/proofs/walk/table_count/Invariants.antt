use Rattle.std.proofs.Common.{take, ◌≤◌}
use Rattle.cam_past.specs.Tables.{AreWithin}
use Rattle.cam_past.proofs.walk.table_count.Given as goal

abbrev pub invariant-loop-node : goal.invariant-loop-node
invariant-loop-node l = (l.count ≤ 32) × AreWithin l.count (take l.node-index l.nodes)
