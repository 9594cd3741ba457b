use Rattle.std.proofs.Common.{List, ap, sym, ◌∙◌}
use Rattle.cam_names.specs.declared.name.Name.{Name}
use Rattle.cam_locks.specs.Names.{has_name}
use Rattle.cam_locks.proofs.names.Names.reserve.Goals as goal

pub invariant_of-self-2 : goal.invariant_of-self-2
invariant_of-self-2 c = λ a.
    c.reserve-2.ensures.keys.2 a ∙ c.self.invariant a ∙ ap (λ (ns : List Name). has_name ns a) (sym c.reserve.ensures.items)
