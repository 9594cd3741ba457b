use Rattle.std.proofs.Common.{true, if◌then◌else◌, Bool, List, take, ap, sym, ◌∙◌}
use Rattle.cam_names.specs.declared.name.Name.{Name}
use Rattle.cam_names.specs.Names.{name_eq}
use Rattle.cam_locks.specs.Names.{has_name}
use Rattle.cam_locks.proofs.ClimbingLifts.{more_has}
use Rattle.cam_locks.proofs.Lists.{taken}
use Rattle.cam_locks.proofs.names.keys_of.Goals as goal

pub loop-name-preserved : goal.loop-name-preserved
loop-name-preserved c = λ a.
    c.in_ok-insert.ensures.updates.0 a
    ∙ ap (λ (b : Bool). if name_eq c.name-item.result a then true else b) (c.loop-name.invariant a)
    ∙ more_has (take c.loop-name.name-index c.args.names.now) c.name-item.result a
    ∙ ap (λ (ns : List Name). has_name ns a) (sym (taken c.args.names.now c.loop-name.name-index c.name-item.result c.loop-name-test.true c.name-item.is))
