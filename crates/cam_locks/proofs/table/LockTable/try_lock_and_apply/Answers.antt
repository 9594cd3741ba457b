use Rattle.std.proofs.Common.{◌≡◌, true, subst, sym}
use Rattle.std.specs.Prelude.{IfOk}
use Rattle.cam_locks.specs.Site.{TableView, fits_here}
use Rattle.cam_locks.specs.Calls.{grant}
use Rattle.cam_locks.proofs.GrantedFits.{fits_granted}
use Rattle.cam_locks.proofs.table.LockTable.try_lock_and_apply.Goals as goal

pub returns-clause-grant : goal.returns-clause-grant
returns-clause-grant g c =
    subst (λ (v : TableView). IfOk c.grant.result (λ granted. granted ≡ grant v.site c.args.name.now c.args.object c.args.op.now)) c.self.view_is c.grant.ensures.granted.grant

pub invariant_of-self : goal.invariant_of-self
invariant_of-self g c =
    let t = c.self.inside in
    let n = c.args.name.now in
    let x = c.args.object in
    let op = c.args.op.now in
    let fit : fits_here t.kept.objects t.node x op ≡ true =
    subst (λ (v : TableView). fits_here v.site.objects v.site.node x op ≡ true) (sym c.self.view_is) c.requires.fits in (
      c.grant.ensures.granted.kept,
      fits_granted t.kept t.node (record { index = c.next.result; action = n; object = x; op = op }) c.grant.ensures.granted c.self.invariant.1 fit,
    )
