use Rattle.cam_plain.proofs.Replying.{holder_put}
use Rattle.cam_plain.proofs.replies.note_holder.Goals as goal

pub returns : goal.returns
returns c = λ L before. holder_put L c.args.action.now c.args.number c.args.holder.now c.args.holders.now c.insert.new.self before c.in_ok-insert.ensures.updates.0
