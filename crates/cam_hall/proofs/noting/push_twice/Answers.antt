use Rattle.std.proofs.Common.{ap}
use Rattle.cam_hall.proofs.Thinned.{pushed_first, pushed_second, pushed_short}
use Rattle.cam_hall.proofs.noting.push_twice.Goals as goal

pub returns-in_default : goal.returns-in_default
returns-in_default g c =
    pushed_short _ _ _ _ _ (ap (λ n. (c.args.to, n)) c.copy_note.ensures.same) c.push_note.ensures

pub returns-then-first : goal.returns-then-first
returns-then-first g c =
    pushed_first _ _ _ _ _ _ _ _ (ap (λ n. (c.args.to, n)) c.in-Ok.ensures.copy)
    (ap (λ n. (c.args.to, n)) c.copy_note.ensures.same) c.push_note-first.ensures
    c.push_note-second.ensures c.if-first.true

pub returns-else-first : goal.returns-else-first
returns-else-first g c =
    pushed_second _ _ _ _ _ _ _ _ (ap (λ n. (c.args.to, n)) c.in-Ok.ensures.copy)
    (ap (λ n. (c.args.to, n)) c.copy_note.ensures.same) c.push_note-first.ensures
    c.push_note-second.ensures c.if-first.false
