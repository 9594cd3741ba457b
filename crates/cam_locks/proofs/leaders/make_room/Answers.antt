use Rattle.std.proofs.Common.{List, subst, sym, ◌∙◌}
use Rattle.cam_locks.specs.declared.LiveOp.{LiveOp}
use Rattle.cam_locks.specs.Holding.{KeepsLeaders}
use Rattle.cam_locks.proofs.TidiedLocks.{leaders_running}
use Rattle.cam_locks.proofs.leaders.make_room.Goals as goal

pub returns-clause-kept : goal.returns-clause-kept
returns-clause-kept c = λ x m next keeps.
    let ns = c.args.committed.now.names in
    let os = c.args.live.now.ops in
    subst (λ (ts : List LiveOp). KeepsLeaders x m ns os next ts) (sym (c.reserve.ensures.items ∙ c.drop_ended.ensures))
    (leaders_running x m ns os next c.args.leaders.now.items keeps)

pub returns-in_err-reserve-clause-kept : goal.returns-in_err-reserve-clause-kept
returns-in_err-reserve-clause-kept c = λ x m next keeps.
    let ns = c.args.committed.now.names in
    let os = c.args.live.now.ops in
    subst (λ (ts : List LiveOp). KeepsLeaders x m ns os next ts) (sym (c.reserve.ensures.items ∙ c.drop_ended.ensures))
    (leaders_running x m ns os next c.args.leaders.now.items keeps)
