use Rattle.std.proofs.Common.{◌≡◌, ℕ, eqb, List, drop, filter}
use Rattle.std.specs.Prelude.{find}
use Rattle.cam_type.specs.declared.ObjectDecl.{ObjectDecl}
use Rattle.cam_type.specs.Moss.{conflicts}
use Rattle.cam_event.specs.declared.Deed.{Deed}
use Rattle.cam_event.specs.declared.Operation.{Operation}
use Rattle.cam_event.specs.Live.{lift}
use Rattle.cam_event.specs.Sights.{Entry}
use Rattle.cam_own.specs.Own.{KeepsOwn}
use Rattle.cam_own.proofs.all_nodes.conflict.Given as goal

abbrev pub invariant-loop-operation : goal.invariant-loop-operation
invariant-loop-operation l =
    (objects : List ObjectDecl) (s : ℕ) (L : List Deed) (E : List Entry) → KeepsOwn objects s L E l.own
    → find (λ (o : Operation). conflicts l.action l.op (lift L s o.action) o.op) (filter (λ o. eqb o.object l.object) (drop l.operation-index l.operation-items))
    ≡ find (λ (o : Operation). conflicts l.action l.op (lift L s o.action) o.op) (filter (λ o. eqb o.object l.object) l.operation-items)
