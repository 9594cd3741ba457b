-- The rule, by the least counts.
use Rattle.std.proofs.Common.{◌∙◌}
use Rattle.std.specs.Prelude.{flat_map}
use Rattle.cam_names.specs.Names.{ancestors}
use Rattle.cam_know.specs.Orphans.{children_pairs}
use Rattle.cam_orphan.proofs.Family.{rule_by_abort, rule_by_least, together, together_eight}
use Rattle.cam_orphan.proofs.orphan_by.Goals as goal

pub returns-in-Some : goal.returns-in-Some
returns-in-Some c pairs valid is = rule_by_abort c.args.know.now c.args.name.now pairs c.in-Some.ancestor c.in-Some.ensures

pub stale-requires : goal.stale-requires
stale-requires c =
    together_eight (flat_map (children_pairs c.args.know.now) (ancestors c.args.name.now)) c.args.visited.now c.family_oldest.result c.join.result
    c.requires c.family_oldest.ensures c.join.ensures

pub returns-in-None : goal.returns-in-None
returns-in-None c pairs valid is =
    c.stale.ensures.value
    ∙ rule_by_least c.args.know.now c.args.name.now pairs c.join.result c.stale.ensures.eight valid c.in-None.ensures
    (together pairs (flat_map (children_pairs c.args.know.now) (ancestors c.args.name.now)) c.args.visited.now c.family_oldest.result c.join.result
    is c.family_oldest.ensures c.join.ensures)
