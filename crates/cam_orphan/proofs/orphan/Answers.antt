use Rattle.std.proofs.Common.{ap, length}
use Rattle.cam_names.specs.Dependencies.{pairs_of}
use Rattle.cam_orphan.proofs.FirstStale.{valid_visited}
use Rattle.cam_orphan.proofs.orphan.Goals as goal

pub orphan_by-requires : goal.orphan_by-requires
orphan_by-requires c = ap length c.of.ensures

pub returns : goal.returns
returns c = c.orphan_by.ensures (pairs_of c.args.visited.now) (valid_visited c.args.visited.now) c.of.ensures
