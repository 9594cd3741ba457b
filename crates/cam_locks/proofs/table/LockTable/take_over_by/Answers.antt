use Rattle.std.proofs.Common.{◌≡◌, true, subst, sym}
use Rattle.cam_locks.specs.Site.{TableView, fits_here}
use Rattle.cam_locks.proofs.GrantedFits.{fit_granted, fits_granted, fits_added}
use Rattle.cam_locks.proofs.table.LockTable.take_over_by.Goals as goal

pub invariant_of-self : goal.invariant_of-self
invariant_of-self g c =
    let t = c.self.inside in
    let o = c.args.operation.now in
    let fit : fits_here t.kept.objects t.node o.object o.op ≡ true =
    subst (λ (v : TableView). fits_here v.site.objects v.site.node o.object o.op ≡ true) (sym c.self.view_is) c.requires.fits in (
      c.append.ensures.kept,
      fits_added t.kept t.node o c.append.ensures c.self.invariant.1 fit,
    )

pub invariant_of-self-in-Done : goal.invariant_of-self-in-Done
invariant_of-self-in-Done g c =
    let t = c.self.inside in
    let o = c.args.operation.now in
    let fit : fits_here t.kept.objects t.node o.object o.op ≡ true =
    subst (λ (v : TableView). fits_here v.site.objects v.site.node o.object o.op ≡ true) (sym c.self.view_is) c.requires.fits in (
      c.grant.ensures.granted.kept,
      fits_granted t.kept t.node o c.grant.ensures.granted c.self.invariant.1 fit,
    )

pub invariant_of-self-in-Conflict : goal.invariant_of-self-in-Conflict
invariant_of-self-in-Conflict g c =
    let t = c.self.inside in
    let o = c.args.operation.now in
    let fit : fits_here t.kept.objects t.node o.object o.op ≡ true =
    subst (λ (v : TableView). fits_here v.site.objects v.site.node o.object o.op ≡ true) (sym c.self.view_is) c.requires.fits in (
      c.append-in-Conflict.ensures.kept,
      fits_added c.grant.new.self t.node o c.append-in-Conflict.ensures
          (fits_granted t.kept t.node o c.grant.ensures.granted c.self.invariant.1 fit)
          (fit_granted t.kept t.node o c.grant.ensures.granted fit),
    )
