use Rattle.std.proofs.Common.{List, subst, sym}
use Rattle.cam_names.specs.declared.name.Name.{Name}
use Rattle.cam_locks.specs.Names.{with_name}
use Rattle.cam_locks.specs.Holding.{AllLocks}
use Rattle.cam_locks.proofs.ClimbingLifts.{with_name_more}
use Rattle.cam_locks.proofs.AllLocks.{all_commit}
use Rattle.cam_locks.proofs.table.LockTable.commit.Goals as goal

pub invariant_of-self : goal.invariant_of-self
invariant_of-self c =
    let t = c.self.inside in
    let kept = c.self.invariant.0 in (
      record {
        rising = kept.rising;
        range = kept.range;
        locks = subst (λ (ns : List Name). AllLocks t.kept.objects ns t.kept.live.ops t.kept.live.next t.kept.locks.items) (sym c.put.ensures.names)
            (all_commit t.kept.objects t.kept.committed.names (with_name t.kept.committed.names c.args.name.now) t.kept.live.ops t.kept.live.next t.kept.locks.items
            (with_name_more t.kept.committed.names c.args.name.now) kept.locks);
      },
      c.self.invariant.1,
    )
