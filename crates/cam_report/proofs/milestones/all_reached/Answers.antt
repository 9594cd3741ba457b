use Rattle.std.proofs.Common.{◌≡◌, []}
use Rattle.std.specs.BTreeSet.{insert_key}
use Rattle.cam_names.specs.Names.{name_cmp}
use Rattle.cam_report.specs.Gathered.{reached}
use Rattle.cam_report.proofs.Gathering.{reached_none, reached_some}
use Rattle.cam_report.proofs.milestones.all_reached.Goals as goal
use Rattle.cam_report.proofs.milestones.all_reached.Goals.{in-Some+in_ok-insert, in_default}

pub loop-deed-preserved : goal.loop-deed-preserved
loop-deed-preserved c = elim c.match-reached.branch [
  | in-Some+in_ok-insert w ↦
      let keys : c.match-reached.names.keys ≡ insert_key name_cmp c.loop-deed.names.keys w.in-Some.name.now = cc (w.in_ok-insert.ensures.keys) in
      reached_some c.args.milestone c.args.deeds.now c.loop-deed.deed-index c.deed-item.result w.in-Some.name.now c.loop-deed-test.true c.deed-item.is w.in-Some.ensures _ _ c.loop-deed.invariant keys
  | in_default w ↦
      let none : [] ≡ reached c.args.milestone c.deed-item.result = w.in_default.ensures in
      let same : c.match-reached.names.keys ≡ c.loop-deed.names.keys = cc in
      reached_none c.args.milestone c.args.deeds.now c.loop-deed.deed-index c.deed-item.result c.loop-deed-test.true c.deed-item.is none _ (cc (same, c.loop-deed.invariant))
]
