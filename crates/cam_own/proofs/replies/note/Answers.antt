use Rattle.cam_own.proofs.Replying.{reply_put}
use Rattle.cam_own.proofs.replies.note.Goals as goal

pub returns : goal.returns
returns c = reply_put c.args.action.now c.args.number c.args.reply.now c.args.replies.now c.insert.new.self c.in_ok-insert.ensures.updates.0
