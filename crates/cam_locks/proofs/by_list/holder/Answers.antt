use Rattle.std.proofs.Common.{Option, ap, sym, ◌∙◌}
use Rattle.std.specs.Prelude.{option_and_then}
use Rattle.cam_locks.specs.declared.LiveOp.{LiveOp}
use Rattle.cam_locks.specs.Moss.{lift_of}
use Rattle.cam_locks.proofs.FirstConflicts.{holder_first}
use Rattle.cam_locks.proofs.by_list.holder.Goals as goal

pub returns : goal.returns
returns c =
    let ns = c.args.committed.now.names in
    c.lift_of.ensures
    ∙ ap (λ (r : Option LiveOp). option_and_then (lift_of ns) r) c.first_conflict.ensures
    ∙ sym (holder_first ns c.args.live.now c.args.asked.now.action c.args.asked.now.object c.args.asked.now.op)
