-- The home stands beside what the letter brings.
use Rattle.std.proofs.Common.{[], ◌∷◌, ◌++◌, ap, length}
use Rattle.cam_names.specs.Names.{home_node, home_count}
use Rattle.cam_names.specs.Dependencies.{pairs_of}
use Rattle.cam_orphan.proofs.FirstStale.{valid_append, valid_visited}
use Rattle.cam_orphan.proofs.Family.{together, together_eight}
use Rattle.cam_orphan.proofs.orphan_at_home.Goals as goal

pub orphan_by-requires : goal.orphan_by-requires
orphan_by-requires c =
    together_eight (pairs_of c.args.visited.now) c.home_oldest.result c.of.result c.join.result
    (ap length c.home_oldest.ensures.value) c.of.ensures c.join.ensures

pub returns : goal.returns
returns c =
    let home = (home_node c.args.name.now, home_count c.args.name.now) ∷ [] in
    let pairs = pairs_of c.args.visited.now in
    c.orphan_by.ensures (home ++ pairs) (valid_append home pairs c.home_oldest.ensures.valid (valid_visited c.args.visited.now))
    (together home pairs c.home_oldest.result c.of.result c.join.result c.home_oldest.ensures.value c.of.ensures c.join.ensures)
