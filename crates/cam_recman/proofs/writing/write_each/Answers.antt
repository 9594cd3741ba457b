use Rattle.std.proofs.Common.{◌<◌, length, arith}
use Rattle.std.proofs.lemmas.List.{get_or_default}
use Rattle.cam_recman.specs.Records.{held_op}
use Rattle.cam_recman.specs.Ranges.{IsHeldOp}
use Rattle.cam_recman.proofs.Steps.{written_more, each_more}
use Rattle.cam_recman.proofs.writing.write_each.Goals as goal

pub loop-op-preserved : goal.loop-op-preserved
loop-op-preserved c =
    let l = c.loop-op in
    let ops = c.args.ops.now in
    let within : l.op-index < length ops = omega (arith, c.loop-op-test.true) in
    record {
      text = written_more held_op c.args.out.items ops l.op-index _ l.out.items c.in_ok-out.out.items within (get_or_default ops l.op-index _ _ within) l.invariant.text c.in_ok-out.ensures.ok;
      range = each_more IsHeldOp ops l.op-index _ within (get_or_default ops l.op-index _ _ within) l.invariant.range c.in_ok-out.ensures.range;
    }
