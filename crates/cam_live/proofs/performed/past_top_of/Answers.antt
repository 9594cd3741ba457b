use Rattle.std.proofs.Common.{arith}
use Rattle.std.proofs.lemmas.Grind.{common_steps}
use Rattle.std.proofs.lemmas.List.Elements.{filter-append}
use Rattle.cam_live.proofs.performed.past_top_of.Goals as goal

pub loop-operation-preserved : goal.loop-operation-preserved
loop-operation-preserved c = λ L tells.
    let so_far = c.loop-operation.invariant L tells in
    let test = c.is_past_top.ensures L tells in
    grind (arith, common_steps, filter-append, so_far, test)
