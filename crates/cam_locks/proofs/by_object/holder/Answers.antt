use Rattle.std.proofs.Common.{◌∙◌}
use Rattle.cam_locks.proofs.Grants.{holder_kept}
use Rattle.cam_locks.proofs.by_object.holder.Goals as goal

pub returns-clause-value : goal.returns-clause-value
returns-clause-value c = λ objects rise all.
    let o = c.args.asked.now in
    c.lift_of.ensures
    ∙ holder_kept objects c.args.committed.now.names c.args.live.now.ops c.args.live.now.next c.args.locks.now.items c.first_conflict-first.new.locks.items
    o.action o.object o.op c.first_conflict-first.result rise c.requires.within c.requires.not_stale c.first_conflict-first.ensures.tidied all c.first_conflict-first.ensures.value
