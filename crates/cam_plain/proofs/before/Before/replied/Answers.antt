use Rattle.std.proofs.Common.{arith}
use Rattle.std.proofs.lemmas.Grind.{common_steps}
use Rattle.cam_plain.specs.Legal.{history}
use Rattle.cam_plain.proofs.Replying.{replied_kept}
use Rattle.cam_plain.proofs.before.Before.replied.Goals as goal

pub returns-then-is_some : goal.returns-then-is_some
returns-then-is_some c =
    let L = history c.args.self.now.deeds.now in
    let kept = replied_kept L c.args.action.now c.args.number in
    let one = c.answer.ensures L c.requires.kept.replies in
    grind (arith, common_steps, kept, one)

pub returns-else-is_some : goal.returns-else-is_some
returns-else-is_some c =
    let L = history c.args.self.now.deeds.now in
    let kept = replied_kept L c.args.action.now c.args.number in
    let one = c.answer.ensures L c.requires.kept.replies in
    let other = c.holder.ensures L c.requires.kept.replies in
    grind (arith, common_steps, kept, one, other)
