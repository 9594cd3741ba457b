-- One more family is secured.
use Rattle.std.specs.HashSet.{contains}
use Rattle.cam_names.specs.Names.{name_eq}
use Rattle.cam_commit.proofs.Recovering.{held_noted}
use Rattle.cam_commit.proofs.Families.of.Goals as goal

pub loop-one-preserved : goal.loop-one-preserved
loop-one-preserved c =
    record {
      preparing = c.loop-one.invariant.preparing;
      votes = c.loop-one.invariant.votes;
      secured_are = λ f.
          held_noted f c.args.held.now c.loop-one.one-index c.one-item.result (contains name_eq c.insert.new.self f) (contains name_eq c.loop-one.families.secured f)
          c.loop-one-test.true c.one-item.is (c.in_ok-insert.ensures.updates.0 f) (c.loop-one.invariant.secured_are f);
    }
