use Rattle.std.proofs.Common.{arith}
use Rattle.cam_io.proofs.Moved.{written-more}
use Rattle.cam_base.proofs.Told.{if_told_then}
use Rattle.cam_io.proofs.sink.write_all.Goals as goal

pub loop-at-preserved : goal.loop-at-preserved
loop-at-preserved g c = record {
  place = omega (arith, c.in_ok-at.ensures.count);
  count = omega (arith, c.in_ok-at.ensures.cause.later, c.loop-at.invariant.count);
  front =
      if_told_then (g.K.Sink.written c.args.sink.now) (g.K.Sink.written c.loop-at.sink) (g.K.Sink.written c.write.new.self)
      (λ x y z first second. written-more c.args.text.now x y z c.loop-at.at c.in_ok-at.field-0 first second)
      c.loop-at.invariant.front c.in_ok-at.ensures.bytes;
}
