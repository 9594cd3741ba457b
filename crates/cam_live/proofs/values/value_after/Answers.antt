use Rattle.std.proofs.Common.{eq-eqb, sym, ap, ◌∙◌}
use Rattle.std.proofs.lemmas.Bool.{ne_eqb}
use Rattle.cam_type.specs.Table.{state_after}
use Rattle.cam_event.specs.Live.{start_of}
use Rattle.cam_live.proofs.Settling.{replay_own, replay_other}
use Rattle.cam_live.proofs.values.value_after.Goals as goal
use Rattle.cam_live.proofs.values.value_after.Goals.{then-operation-object+in_ok-apply, else-operation-object}

pub loop-operation-preserved : goal.loop-operation-preserved
loop-operation-preserved c =
    let x = c.args.object in
    let os = c.as_slice-operation-items.result.now in
    let i = c.loop-operation.operation-index in
    let o = c.operation-item.result in
    let start = start_of c.args.objects.now x in
    elim c.if-operation-object.branch [
      | then-operation-object+in_ok-apply w ↦
          w.state-is ∙ w.in_ok-apply.ensures.after ∙ ap (λ s. state_after s o.op) c.loop-operation.invariant
          ∙ sym (replay_own start x os i o c.loop-operation-test.true c.operation-item.is (eq-eqb o.object x w.if-operation-object.true))
      | else-operation-object w ↦
          w.state-is ∙ c.loop-operation.invariant
          ∙ sym (replay_other start x os i o c.loop-operation-test.true c.operation-item.is (ne_eqb o.object x w.if-operation-object.false))
    ]
