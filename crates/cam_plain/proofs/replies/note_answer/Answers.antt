use Rattle.cam_plain.proofs.Replying.{answer_put}
use Rattle.cam_plain.proofs.replies.note_answer.Goals as goal

pub returns : goal.returns
returns c = λ L before. answer_put L c.args.action.now c.args.number c.args.answer c.args.answers.now c.insert.new.self before c.in_ok-insert.ensures.updates.0
