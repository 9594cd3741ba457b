use Rattle.std.proofs.Common.{get_or, refl, subst, ◌∙◌, arith}
use Rattle.std.proofs.lemmas.List.{get_or_default}
use Rattle.cam_locks.specs.Changes.{Tidied, TidiedTo}
use Rattle.cam_locks.specs.Holding.{LocksView}
use Rattle.cam_locks.specs.Served.{IsServed}
use Rattle.cam_locks.proofs.ServedStates.{on_ok}
use Rattle.cam_locks.proofs.Bools.{on_err}
use Rattle.cam_locks.proofs.EachObject.{each_set}
use Rattle.cam_locks.proofs.by_object.perform.Goals as goal

pub returns-clause-err : goal.returns-clause-err
returns-clause-err g c =
    let ns = c.args.committed.now.names in
    let os = c.args.live.now.ops in
    on_err c.perform.result (Tidied ns os c.index_mut.result.now c.perform.new.self) _
    (λ t. each_set (TidiedTo ns os) c.args.locks.now.items c.args.operation.now.object c.index_mut.result.now c.perform.new.self
    (omega (arith, c.requires.within, c.args.locks.now.ok)) c.index_mut.ensures.value t (λ x l apart. record { stale = refl; kept = λ y start next h. h })) c.perform.ensures.err

pub returns-clause-served : goal.returns-clause-served
returns-clause-served g c = λ l.
    let ns = c.args.committed.now.names in
    let os = c.args.live.now.ops in
    let o = c.args.operation.now in
    let ls = c.args.locks.now.items in
    let held = g.T.DataType.held c.perform.new.server in
    on_ok c.perform.result (IsServed ns os o held c.index_mut.result.now) (IsServed ns os o held (get_or ls o.object l))
    (subst (λ (v : LocksView). IsServed ns os o held v)
    (c.index_mut.ensures.value ∙ get_or_default ls o.object c.index_mut.result.now l (omega (arith, c.requires.within, c.args.locks.now.ok))))
    c.perform.ensures.served
