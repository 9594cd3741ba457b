use Rattle.std.proofs.Common.{reverse, subst}
use Rattle.cam_past.specs.Tables.{AreWithin}
use Rattle.cam_past.proofs.Tables.{told_is}
use Rattle.cam_past.proofs.walk.clocks.Goals as goal

pub returns : goal.returns
returns c =
    let count = c.table_count-count.result in
    record {
      exact = told_is (reverse c.args.trace.now) c.in_ok-first.first.nodes.items count c.in_ok-tables.field-0 c.in_ok-first.ensures.nodes
          (subst (AreWithin count) c.deref.ensures.value c.table_count-count.ensures.within) c.in_ok-tables.ensures;
    }
