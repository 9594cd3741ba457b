-- Each turn puts one more, and so all are put.
use Rattle.cam_net.proofs.Unput.{put_none, put_then}
use Rattle.cam_net.proofs.outbox.Outbox.put_all.Goals as goal

pub loop-self-init : goal.loop-self-init
loop-self-init c = record { some = put_none c.args.self.now; may = c.requires }

pub loop-self-preserved : goal.loop-self-preserved
loop-self-preserved c = record {
  some =
      put_then c.args.self.now c.loop-self.self c.put_next.new.self c.loop-self.invariant.some
      c.put_next.ensures.some;
  may = c.put_next.ensures.writable;
}

pub returns-in_err-put_next-clause-some : goal.returns-in_err-put_next-clause-some
returns-in_err-put_next-clause-some c =
    put_then c.args.self.now c.loop-self.self c.put_next.new.self c.loop-self.invariant.some
    c.put_next.ensures.some
