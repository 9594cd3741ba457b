-- Those that are left say whether all are low.
use Rattle.std.proofs.Common.{◌≡◌, drop}
use Rattle.std.specs.List.{list_all}
use Rattle.cam_node.specs.Restartable.{is_low}
use Rattle.cam_node.proofs.restartable.all_low.Given as goal

abbrev pub invariant-loop-op : goal.invariant-loop-op
invariant-loop-op l = list_all is_low (drop l.op-index l.ops) ≡ list_all is_low l.ops
