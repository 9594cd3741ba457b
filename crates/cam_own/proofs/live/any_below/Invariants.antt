use Rattle.std.proofs.Common.{◌≡◌, drop}
use Rattle.std.specs.List.{list_any}
use Rattle.cam_names.specs.Names.{is_ancestor}
use Rattle.cam_event.specs.declared.Operation.{Operation}
use Rattle.cam_own.proofs.live.any_below.Given as goal

abbrev pub invariant-loop-operation : goal.invariant-loop-operation
invariant-loop-operation l =
    list_any (λ (o : Operation). is_ancestor l.name o.action) (drop l.operation-index l.operation-items)
    ≡ list_any (λ (o : Operation). is_ancestor l.name o.action) l.operation-items
