use Rattle.std.proofs.Common.{sym, subst, refl, ◌∙◌}
use Rattle.std.specs.Prelude.{filter}
use Rattle.cam_type.specs.Table.{kind_of, state_after, answer_of}
use Rattle.cam_type.specs.declared.State.{State}
use Rattle.cam_locks.specs.contracts.locks.Locks.{the_view}
use Rattle.cam_locks.specs.Moss.{is_on}
use Rattle.cam_locks.specs.Holding.{LocksView}
use Rattle.cam_locks.specs.Kinds.{AreOfKind}
use Rattle.cam_locks.specs.Changes.{Tidied, IsDone}
use Rattle.cam_locks.specs.Served.{IsServed}
use Rattle.cam_locks.proofs.ServedStates.{is_served}
use Rattle.cam_locks.proofs.MetStates.{met_read}
use Rattle.cam_locks.proofs.Bools.{any_err}
use Rattle.cam_locks.proofs.KindLaws.{kinds_written}
use Rattle.cam_locks.proofs.AddedLocks.{same, not_done, done_read, done_write, done_add}
use Rattle.cam_locks.proofs.locks.Locks.perform.Goals as goal

pub invariant_of-self : goal.invariant_of-self
invariant_of-self g c =
    c.tidy.ensures.kinds (kind_of c.self.inside.start) c.self.invariant

pub returns-in_err-make_room-in-Read-clause-err : goal.returns-in_err-make_room-in-Read-clause-err
returns-in_err-make_room-in-Read-clause-err g c =
    let ns = c.args.committed.now.names in
    let os = c.args.live.now.ops in
    let t = c.self.inside in let old : LocksView = the_view t in
    any_err c.from_residual.result (Tidied ns os c.args.self.now (record old { readers = c.make_room.new.leaders.items; versions = c.tidy.new.versions.items }))
    (subst (λ (v : LocksView). Tidied ns os v (record old { readers = c.make_room.new.leaders.items; versions = c.tidy.new.versions.items })) c.self.view_is
    (not_done ns os old (c.make_room.new.leaders.items) t.writers.items t.adders.items c.tidy.new.versions.items c.tidy.new.versions.items c.tidy.ensures.kept c.make_room.ensures.kept (same ns os t.writers.items) (same ns os t.adders.items) refl))

pub serve-requires-clause-kinds : goal.serve-requires-clause-kinds
serve-requires-clause-kinds g c =
    subst (AreOfKind (kind_of c.self.inside.start)) (sym c.as_slice.ensures.value) (c.tidy.ensures.kinds (kind_of c.self.inside.start) c.self.invariant)

pub invariant_of-self-in_err-answer-in-Read : goal.invariant_of-self-in_err-answer-in-Read
invariant_of-self-in_err-answer-in-Read g c =
    c.tidy.ensures.kinds (kind_of c.self.inside.start) c.self.invariant

pub returns-in_err-answer-in-Read-clause-err : goal.returns-in_err-answer-in-Read-clause-err
returns-in_err-answer-in-Read-clause-err g c =
    let ns = c.args.committed.now.names in
    let os = c.args.live.now.ops in
    let t = c.self.inside in let old : LocksView = the_view t in
    any_err c.from_residual-in_err-answer-in-Read.result (Tidied ns os c.args.self.now (record old { readers = c.make_room.new.leaders.items; versions = c.tidy.new.versions.items }))
    (subst (λ (v : LocksView). Tidied ns os v (record old { readers = c.make_room.new.leaders.items; versions = c.tidy.new.versions.items })) c.self.view_is
    (not_done ns os old (c.make_room.new.leaders.items) t.writers.items t.adders.items c.tidy.new.versions.items c.tidy.new.versions.items c.tidy.ensures.kept c.make_room.ensures.kept (same ns os t.writers.items) (same ns os t.adders.items) refl))

pub invariant_of-self-in-Read : goal.invariant_of-self-in-Read
invariant_of-self-in-Read g c =
    c.tidy.ensures.kinds (kind_of c.self.inside.start) c.self.invariant

pub returns-in_ok-answer-in-Read-clause-done : goal.returns-in_ok-answer-in-Read-clause-done
returns-in_ok-answer-in-Read-clause-done g c =
    let ns = c.args.committed.now.names in
    let os = c.args.live.now.ops in
    let o = c.args.operation.now in
    let t = c.self.inside in let old : LocksView = the_view t in
    subst (λ (v : LocksView). IsDone ns os o c.in_ok-answer-in-Read.answer v (record old { readers = c.add.new.leaders.items; versions = c.tidy.new.versions.items })) c.self.view_is
    (done_read ns os o c.in_ok-answer-in-Read.answer old c.make_room.new.leaders.items c.add.new.leaders.items c.tidy.new.versions.items (sym c.mode_of.ensures ∙ c.in-Read.is)
    c.in_ok-answer-in-Read.ensures.range c.make_room.ensures.kept c.tidy.ensures.kept c.tidy.ensures.last
    (c.in_ok-answer-in-Read.ensures.answer
    ∙ met_read (λ (s : State). answer_of s o.op) t.start c.tidy.new.versions.items _ (filter (is_on o.object) os) _ c.as_slice.ensures.value c.sum-sum.ensures) c.add.ensures)

pub invariant_of-self-in_err-make_room-in-Write : goal.invariant_of-self-in_err-make_room-in-Write
invariant_of-self-in_err-make_room-in-Write g c =
    c.tidy.ensures.kinds (kind_of c.self.inside.start) c.self.invariant

pub returns-in_err-make_room-in-Write-clause-err : goal.returns-in_err-make_room-in-Write-clause-err
returns-in_err-make_room-in-Write-clause-err g c =
    let ns = c.args.committed.now.names in
    let os = c.args.live.now.ops in
    let t = c.self.inside in let old : LocksView = the_view t in
    any_err c.from_residual-in_err-make_room-in-Write.result (Tidied ns os c.args.self.now (record old { writers = c.make_room-in-Write.new.leaders.items; versions = c.tidy.new.versions.items }))
    (subst (λ (v : LocksView). Tidied ns os v (record old { writers = c.make_room-in-Write.new.leaders.items; versions = c.tidy.new.versions.items })) c.self.view_is
    (not_done ns os old t.readers.items (c.make_room-in-Write.new.leaders.items) t.adders.items c.tidy.new.versions.items c.tidy.new.versions.items c.tidy.ensures.kept (same ns os t.readers.items) c.make_room-in-Write.ensures.kept (same ns os t.adders.items) refl))

pub write-requires-clause-kinds : goal.write-requires-clause-kinds
write-requires-clause-kinds g c =
    c.tidy.ensures.kinds (kind_of c.self.inside.start) c.self.invariant

pub invariant_of-self-in_err-answer-in-Write : goal.invariant_of-self-in_err-answer-in-Write
invariant_of-self-in_err-answer-in-Write g c =
    subst (AreOfKind (kind_of c.self.inside.start)) (sym c.in_err-answer-in-Write.ensures.err) (c.tidy.ensures.kinds (kind_of c.self.inside.start) c.self.invariant)

pub returns-in_err-answer-in-Write-clause-err : goal.returns-in_err-answer-in-Write-clause-err
returns-in_err-answer-in-Write-clause-err g c =
    let ns = c.args.committed.now.names in
    let os = c.args.live.now.ops in
    let t = c.self.inside in let old : LocksView = the_view t in
    any_err c.from_residual-in_err-answer-in-Write.result (Tidied ns os c.args.self.now (record old { writers = c.make_room-in-Write.new.leaders.items; versions = c.write.new.versions.items }))
    (subst (λ (v : LocksView). Tidied ns os v (record old { writers = c.make_room-in-Write.new.leaders.items; versions = c.write.new.versions.items })) c.self.view_is
    (not_done ns os old t.readers.items (c.make_room-in-Write.new.leaders.items) t.adders.items c.tidy.new.versions.items c.write.new.versions.items c.tidy.ensures.kept (same ns os t.readers.items) c.make_room-in-Write.ensures.kept (same ns os t.adders.items) c.in_err-answer-in-Write.ensures.err))

pub invariant_of-self-in-Write : goal.invariant_of-self-in-Write
invariant_of-self-in-Write g c =
    let t = c.self.inside in
    subst (AreOfKind (kind_of t.start)) (sym c.in_ok-answer-in-Write.ensures.ok)
    (kinds_written (kind_of t.start) c.args.committed.now.names t.start c.tidy.new.versions.items c.args.operation.now refl (c.tidy.ensures.kinds (kind_of c.self.inside.start) c.self.invariant))

pub returns-in_ok-answer-in-Write-clause-done : goal.returns-in_ok-answer-in-Write-clause-done
returns-in_ok-answer-in-Write-clause-done g c =
    let ns = c.args.committed.now.names in
    let os = c.args.live.now.ops in
    let o = c.args.operation.now in
    let t = c.self.inside in let old : LocksView = the_view t in
    subst (λ (v : LocksView). IsDone ns os o c.in_ok-answer-in-Write.answer v (record old { writers = c.add-in-Write.new.leaders.items; versions = c.write.new.versions.items })) c.self.view_is
    (done_write ns os o c.in_ok-answer-in-Write.answer old c.make_room-in-Write.new.leaders.items c.add-in-Write.new.leaders.items c.tidy.new.versions.items c.write.new.versions.items (sym c.mode_of.ensures ∙ c.in-Write.is)
    c.in_ok-answer-in-Write.ensures.range c.make_room-in-Write.ensures.kept c.tidy.ensures.kept c.tidy.ensures.last
    (c.in_ok-answer-in-Write.ensures.answer
    ∙ met_read (λ (s : State). answer_of s o.op) t.start c.tidy.new.versions.items c.tidy.new.versions.items (filter (is_on o.object) os) _ refl c.sum-sum.ensures) c.in_ok-answer-in-Write.ensures.ok c.add-in-Write.ensures)

pub invariant_of-self-in_err-make_room-in-Add : goal.invariant_of-self-in_err-make_room-in-Add
invariant_of-self-in_err-make_room-in-Add g c =
    c.tidy.ensures.kinds (kind_of c.self.inside.start) c.self.invariant

pub returns-in_err-make_room-in-Add-clause-err : goal.returns-in_err-make_room-in-Add-clause-err
returns-in_err-make_room-in-Add-clause-err g c =
    let ns = c.args.committed.now.names in
    let os = c.args.live.now.ops in
    let t = c.self.inside in let old : LocksView = the_view t in
    any_err c.from_residual-in_err-make_room-in-Add.result (Tidied ns os c.args.self.now (record old { adders = c.make_room-in-Add.new.leaders.items; versions = c.tidy.new.versions.items }))
    (subst (λ (v : LocksView). Tidied ns os v (record old { adders = c.make_room-in-Add.new.leaders.items; versions = c.tidy.new.versions.items })) c.self.view_is
    (not_done ns os old t.readers.items t.writers.items (c.make_room-in-Add.new.leaders.items) c.tidy.new.versions.items c.tidy.new.versions.items c.tidy.ensures.kept (same ns os t.readers.items) (same ns os t.writers.items) c.make_room-in-Add.ensures.kept refl))

pub serve-requires-in-Add-clause-kinds : goal.serve-requires-in-Add-clause-kinds
serve-requires-in-Add-clause-kinds g c =
    subst (AreOfKind (kind_of c.self.inside.start)) (sym c.as_slice-in-Add.ensures.value) (c.tidy.ensures.kinds (kind_of c.self.inside.start) c.self.invariant)

pub invariant_of-self-in_err-answer-in-Add : goal.invariant_of-self-in_err-answer-in-Add
invariant_of-self-in_err-answer-in-Add g c =
    c.tidy.ensures.kinds (kind_of c.self.inside.start) c.self.invariant

pub returns-in_err-answer-in-Add-clause-err : goal.returns-in_err-answer-in-Add-clause-err
returns-in_err-answer-in-Add-clause-err g c =
    let ns = c.args.committed.now.names in
    let os = c.args.live.now.ops in
    let t = c.self.inside in let old : LocksView = the_view t in
    any_err c.from_residual-in_err-answer-in-Add.result (Tidied ns os c.args.self.now (record old { adders = c.make_room-in-Add.new.leaders.items; versions = c.tidy.new.versions.items }))
    (subst (λ (v : LocksView). Tidied ns os v (record old { adders = c.make_room-in-Add.new.leaders.items; versions = c.tidy.new.versions.items })) c.self.view_is
    (not_done ns os old t.readers.items t.writers.items (c.make_room-in-Add.new.leaders.items) c.tidy.new.versions.items c.tidy.new.versions.items c.tidy.ensures.kept (same ns os t.readers.items) (same ns os t.writers.items) c.make_room-in-Add.ensures.kept refl))

pub invariant_of-self-in-Add : goal.invariant_of-self-in-Add
invariant_of-self-in-Add g c =
    c.tidy.ensures.kinds (kind_of c.self.inside.start) c.self.invariant

pub returns-in_ok-answer-in-Add-clause-done : goal.returns-in_ok-answer-in-Add-clause-done
returns-in_ok-answer-in-Add-clause-done g c =
    let ns = c.args.committed.now.names in
    let os = c.args.live.now.ops in
    let o = c.args.operation.now in
    let t = c.self.inside in let old : LocksView = the_view t in
    subst (λ (v : LocksView). IsDone ns os o c.in_ok-answer-in-Add.answer v (record old { adders = c.add-in-Add.new.leaders.items; versions = c.tidy.new.versions.items })) c.self.view_is
    (done_add ns os o c.in_ok-answer-in-Add.answer old c.make_room-in-Add.new.leaders.items c.add-in-Add.new.leaders.items c.tidy.new.versions.items (sym c.mode_of.ensures ∙ c.in-Add.is)
    c.in_ok-answer-in-Add.ensures.range c.make_room-in-Add.ensures.kept c.tidy.ensures.kept c.tidy.ensures.last
    (c.in_ok-answer-in-Add.ensures.answer
    ∙ met_read (λ (s : State). answer_of s o.op) t.start c.tidy.new.versions.items _ (filter (is_on o.object) os) _ c.as_slice-in-Add.ensures.value c.sum-sum.ensures) c.add-in-Add.ensures)

pub returns-in_ok-answer-in-Read-clause-served : goal.returns-in_ok-answer-in-Read-clause-served
returns-in_ok-answer-in-Read-clause-served g c =
    let ns = c.args.committed.now.names in
    let os = c.args.live.now.ops in
    let o = c.args.operation.now in
    let t = c.self.inside in let old : LocksView = the_view t in
    subst (λ (v : LocksView). IsServed ns os o (g.T.DataType.held c.serve.new.server) v) c.self.view_is
    (is_served ns os o (g.T.DataType.held c.serve.new.server) old c.tidy.new.versions.items c.in_ok-answer-in-Read.ensures.range c.tidy.ensures.kept c.tidy.ensures.last
    (c.in_ok-answer-in-Read.ensures.after
    ∙ met_read (λ (s : State). state_after s o.op) t.start c.tidy.new.versions.items _ (filter (is_on o.object) os) _ c.as_slice.ensures.value c.sum-sum.ensures))

pub returns-in_ok-answer-in-Write-clause-served : goal.returns-in_ok-answer-in-Write-clause-served
returns-in_ok-answer-in-Write-clause-served g c =
    let ns = c.args.committed.now.names in
    let os = c.args.live.now.ops in
    let o = c.args.operation.now in
    let t = c.self.inside in let old : LocksView = the_view t in
    subst (λ (v : LocksView). IsServed ns os o (g.T.DataType.held c.write.new.server) v) c.self.view_is
    (is_served ns os o (g.T.DataType.held c.write.new.server) old c.tidy.new.versions.items c.in_ok-answer-in-Write.ensures.range c.tidy.ensures.kept c.tidy.ensures.last
    (c.in_ok-answer-in-Write.ensures.after
    ∙ met_read (λ (s : State). state_after s o.op) t.start c.tidy.new.versions.items c.tidy.new.versions.items (filter (is_on o.object) os) _ refl c.sum-sum.ensures))

pub returns-in_ok-answer-in-Add-clause-served : goal.returns-in_ok-answer-in-Add-clause-served
returns-in_ok-answer-in-Add-clause-served g c =
    let ns = c.args.committed.now.names in
    let os = c.args.live.now.ops in
    let o = c.args.operation.now in
    let t = c.self.inside in let old : LocksView = the_view t in
    subst (λ (v : LocksView). IsServed ns os o (g.T.DataType.held c.serve-in-Add.new.server) v) c.self.view_is
    (is_served ns os o (g.T.DataType.held c.serve-in-Add.new.server) old c.tidy.new.versions.items c.in_ok-answer-in-Add.ensures.range c.tidy.ensures.kept c.tidy.ensures.last
    (c.in_ok-answer-in-Add.ensures.after
    ∙ met_read (λ (s : State). state_after s o.op) t.start c.tidy.new.versions.items _ (filter (is_on o.object) os) _ c.as_slice-in-Add.ensures.value c.sum-sum.ensures))
