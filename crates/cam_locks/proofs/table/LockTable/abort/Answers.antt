use Rattle.std.proofs.Common.{List, not, subst, sym}
use Rattle.cam_type.specs.declared.ObjectDecl.{ObjectDecl}
use Rattle.cam_locks.specs.Site.{AreFit}
use Rattle.cam_locks.specs.Calls.{is_below}
use Rattle.cam_locks.proofs.Fits.{fit_filter}
use Rattle.cam_locks.proofs.table.LockTable.abort.Goals as goal

pub invariant_of-self : goal.invariant_of-self
invariant_of-self c =
    let t = c.self.inside in (
      c.abort.ensures.kept,
      subst (λ (ds : List ObjectDecl). AreFit ds t.node c.abort.new.self.live.ops) (sym c.abort.ensures.objects)
          (subst (AreFit t.kept.objects t.node) (sym c.abort.ensures.ops)
          (fit_filter t.kept.objects t.node (λ o. not (is_below c.args.name.now o)) t.kept.live.ops c.self.invariant.1)),
    )
