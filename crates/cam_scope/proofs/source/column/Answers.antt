use Rattle.std.proofs.Common.{arith}
use Rattle.std.proofs.lemmas.Grind.{common_steps}
use Rattle.cam_scope.proofs.Starts.{one_more}
use Rattle.cam_scope.proofs.source.column.Goals as goal
use Rattle.cam_scope.proofs.source.column.Goals.{then-was_blank+then-not-is_blank+else-words-place, else-was_blank, else-was_blank-via-then-was_blank+else-not-is_blank, else-was_blank-via-else-was_blank}

pub loop-at-preserved : goal.loop-at-preserved
loop-at-preserved c =
    elim c.if-was_blank.branch [
      | then-was_blank+then-not-is_blank+else-words-place w ↦ record { behind = grind (arith, common_steps); same = grind (arith, common_steps, one_more) }
      | else-was_blank w ↦ elim w.else-was_blank.branch [
        | else-was_blank-via-then-was_blank+else-not-is_blank v ↦ record { behind = grind (arith, common_steps); same = grind (arith, common_steps) }
        | else-was_blank-via-else-was_blank v ↦ record { behind = grind (arith, common_steps); same = grind (arith, common_steps) }
      ]
    ]
