use Rattle.std.proofs.Common.{◌≡◌, take, filter, eqb}
use Rattle.cam_event.specs.Live.{start_of, replay}
use Rattle.cam_live.proofs.values.value_after.Given as goal

abbrev pub invariant-loop-operation : goal.invariant-loop-operation
invariant-loop-operation l = l.state ≡ replay (start_of l.objects l.object) (filter (λ o. eqb o.object l.object) (take l.operation-index l.operation-items))
