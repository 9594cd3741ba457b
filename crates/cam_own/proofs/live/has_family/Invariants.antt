use Rattle.std.proofs.Common.{◌≡◌, drop}
use Rattle.std.specs.List.{list_any}
use Rattle.cam_names.specs.Names.{name_eq, family}
use Rattle.cam_event.specs.declared.Operation.{Operation}
use Rattle.cam_own.proofs.live.has_family.Given as goal

abbrev pub invariant-loop-operation : goal.invariant-loop-operation
invariant-loop-operation l =
    list_any (λ (o : Operation). name_eq l.family (family o.action)) (drop l.operation-index l.operation-items) ≡ list_any (λ (o : Operation). name_eq l.family (family o.action)) l.operation-items
