use Rattle.std.proofs.Common.{reverse}
use Rattle.cam_event.specs.Pasts.{in_past}
use Rattle.cam_draw.proofs.Flags.{set_more}
use Rattle.cam_draw.proofs.light.past_of_event.Goals as goal

pub loop-number-preserved : goal.loop-number-preserved
loop-number-preserved c =
    let t = reverse c.args.trace.now in
    let more = set_more c.loop-number.flags.items c.push.new.self.items c.in_past.result c.loop-number.number (λ i. in_past t i c.args.last)
    c.loop-number.invariant.flags c.in_ok-push.ensures.items (c.in_past.ensures.exact t c.in_ok-clocks.ensures.exact) c.loop-number.invariant.past in
    record { flags = more.0; past = more.1 }
