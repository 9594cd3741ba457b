use Rattle.std.proofs.Common.{BTreeMap, ℕ, ap, ◌∙◌}
use Rattle.cam_names.specs.declared.name.Name.{Name}
use Rattle.cam_timed.specs.Untils.{until_in}
use Rattle.cam_timed.proofs.UntilTable.{until_more, until_named, until_unnamed}
use Rattle.cam_timed.proofs.untils.note_named.Goals as goal
use Rattle.cam_timed.proofs.untils.note_named.Goals.{in-Some+in_ok-insert, in_default}

pub loop-deed-preserved : goal.loop-deed-preserved
loop-deed-preserved c = λ a.
    until_more a c.as_slice-deed-items.result.now c.loop-deed.deed-index c.deed-item.result c.args.until (until_in c.args.untils.now a)
    (until_in c.loop-deed.untils a) (until_in c.match-named_first.untils a) c.loop-deed-test.true c.deed-item.is (c.loop-deed.invariant a)
    (elim c.match-named_first.branch [
      | in-Some+in_ok-insert w ↦
          ap (λ (m : BTreeMap Name ℕ). until_in m a) w.untils-is
          ∙ until_named a w.in-Some.action.now c.deed-item.result c.args.until c.loop-deed.untils w.insert.new.self (w.in-Some.ensures a)
          (λ q. w.in_ok-insert.ensures.updates.0 q)
      | in_default w ↦
          ap (λ (m : BTreeMap Name ℕ). until_in m a) w.untils-is
          ∙ until_unnamed a c.deed-item.result c.args.until (until_in c.loop-deed.untils a) (w.in_default.ensures a)
    ])
