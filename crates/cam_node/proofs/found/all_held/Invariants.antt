-- Those that are left say whether all are held.
use Rattle.std.proofs.Common.{◌≡◌, drop}
use Rattle.std.specs.List.{list_all}
use Rattle.cam_node.specs.Found.{is_held}
use Rattle.cam_node.proofs.found.all_held.Given as goal

abbrev pub invariant-loop-deed : goal.invariant-loop-deed
invariant-loop-deed l =
    list_all (is_held l.held) (drop l.deed-index l.deeds) ≡ list_all (is_held l.held) l.deeds
