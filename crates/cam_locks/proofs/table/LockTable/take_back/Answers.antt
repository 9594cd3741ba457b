use Rattle.std.proofs.Common.{List, subst, sym}
use Rattle.cam_type.specs.declared.ObjectDecl.{ObjectDecl}
use Rattle.cam_locks.specs.Site.{AreFit}
use Rattle.cam_locks.proofs.table.LockTable.take_back.Goals as goal

pub invariant_of-self : goal.invariant_of-self
invariant_of-self c = (
  c.take_back.ensures.kept,
  subst (λ (ds : List ObjectDecl). AreFit ds c.self.inside.node c.take_back.new.self.live.ops) (sym c.take_back.ensures.objects)
      (c.take_back.ensures.fit c.self.inside.node c.self.invariant.1),
)
