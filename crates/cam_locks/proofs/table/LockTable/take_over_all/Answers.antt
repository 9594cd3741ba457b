use Rattle.std.proofs.Common.{◌≡◌, true, sym, subst, arith}
use Rattle.cam_locks.specs.Site.{Site, fits_here}
use Rattle.cam_locks.proofs.Indices.{rise_at}
use Rattle.cam_locks.proofs.Fits.{fit_at}
use Rattle.cam_locks.proofs.table.LockTable.take_over_all.Goals as goal

pub take_over-requires-clause-index : goal.take_over-requires-clause-index
take_over-requires-clause-index c =
    (rise_at c.loop-operation.self.site.next c.args.operations.now c.loop-operation.operation-index c.args.next c.operation-item.result c.loop-operation-test.true c.operation-item.is c.loop-operation.invariant.1).0

pub take_over-requires-clause-range : goal.take_over-requires-clause-range
take_over-requires-clause-range c =
    let r = rise_at c.loop-operation.self.site.next c.args.operations.now c.loop-operation.operation-index c.args.next c.operation-item.result c.loop-operation-test.true c.operation-item.is c.loop-operation.invariant.1 in
    let lt = r.1 in omega (arith, lt, c.requires.range)

pub take_over-requires-clause-fits : goal.take_over-requires-clause-fits
take_over-requires-clause-fits c =
    let o = c.operation-item.result in
    let site = c.args.self.now.site in
    subst (λ (s : Site). fits_here s.objects s.node o.object o.op ≡ true) (sym c.loop-operation.invariant.0)
    (fit_at site.objects site.node c.args.operations.now c.loop-operation.operation-index o c.loop-operation-test.true c.operation-item.is c.requires.fits)
