use Rattle.std.proofs.Common.{◌+◌, ◌<◌, length, IsTrue, ◌∙◌, arith}
use Rattle.std.proofs.lemmas.Result.{on_ok_weaker}
use Rattle.cam_log.proofs.Grown.{grows_weaker, grows_then}
use Rattle.cam_ckpt.proofs.Replacing.{Shut}
use Rattle.cam_ckpt.proofs.Replaced.{Ready}
use Rattle.cam_ckpt.proofs.Moves.{close_leaves, close_shut, stage_leaves, stage_ready, open_leaves, open_holds, gate_open}
use Rattle.cam_ckpt.proofs.device.write_list.Goals as goal

-- closing the other gate leaves the old entries
pub returns-in_err-close_other-clause-any_moment : goal.returns-in_err-close_other-clause-any_moment
returns-in_err-close_other-clause-any_moment g c = λ h s entries move.
    let old = g.D.Disk.seen c.args.disk.now in
    grows_weaker (λ image w. close_leaves s entries old c.args.other c.args.is_open c.args.at c.args.text.now c.args.numbers.now move image (g.D.Disk.may_leave c.args.disk.now) (c.requires.only h) w)
    (c.in_err-close_other.ensures.any_moment h)

-- so does writing the new segment and the numbers
pub returns-in_err-force_two-clause-any_moment : goal.returns-in_err-force_two-clause-any_moment
returns-in_err-force_two-clause-any_moment g c = λ h s entries move.
    let old = g.D.Disk.seen c.args.disk.now in
    let mid = g.D.Disk.seen c.close_other.new.disk in
    let still : IsTrue (g.D.Disk.tells c.close_other.new.disk) = c.in_ok-close_other.ensures.tells ∙ h in
    let shut : Shut s mid = close_shut s entries old c.args.other c.args.is_open c.args.at c.args.text.now c.args.numbers.now move mid (c.in_ok-close_other.ensures.written h) in
    grows_then
    (grows_weaker (λ image w. close_leaves s entries old c.args.other c.args.is_open c.args.at c.args.text.now c.args.numbers.now move image (g.D.Disk.may_leave c.args.disk.now) (c.requires.only h) w)
    (c.in_ok-close_other.ensures.any_moment h))
    (grows_weaker (λ image w. stage_leaves s entries old c.args.other c.args.is_open c.args.at c.args.text.now c.args.numbers.now move mid image (g.D.Disk.may_leave c.close_other.new.disk) shut (c.in_ok-close_other.ensures.durable h) w)
    (c.in_err-force_two.ensures.any_moment still))

-- opening the other gate gives the new ones
pub returns-clause-at_rest : goal.returns-clause-at_rest
returns-clause-at_rest g c = λ h.
    let old = g.D.Disk.seen c.args.disk.now in
    let mid = g.D.Disk.seen c.close_other.new.disk in
    let next = g.D.Disk.seen c.force_two.new.disk in
    let new = g.D.Disk.seen c.force.new.disk in
    let still : IsTrue (g.D.Disk.tells c.close_other.new.disk) = c.in_ok-close_other.ensures.tells ∙ h in
    let still2 : IsTrue (g.D.Disk.tells c.force_two.new.disk) = c.in_ok-force_two.ensures.tells ∙ still in
    let small : c.args.at + length c.args.text.now < 18446744073709551616 = omega (arith, c.in_ok-force_two.ensures.limit) in
    on_ok_weaker c.force.result (λ holds s entries move.
    let shut : Shut s mid = close_shut s entries old c.args.other c.args.is_open c.args.at c.args.text.now c.args.numbers.now move mid (c.in_ok-close_other.ensures.written h) in
    let ready : Ready s entries next = stage_ready s entries old c.args.other c.args.is_open c.args.at c.args.text.now c.args.numbers.now move mid next shut (c.in_ok-force_two.ensures.written still) in (
      open_holds s entries old c.args.other c.args.is_open c.args.at c.args.text.now c.args.numbers.now move next new small ready holds,
      gate_open s entries old c.args.other c.args.is_open c.args.at c.args.text.now c.args.numbers.now move next new ready holds,
    ))
    (c.force.ensures.written still2)

-- at no moment is it anything else
pub returns-clause-any_moment : goal.returns-clause-any_moment
returns-clause-any_moment g c = λ h s entries move.
    let old = g.D.Disk.seen c.args.disk.now in
    let mid = g.D.Disk.seen c.close_other.new.disk in
    let next = g.D.Disk.seen c.force_two.new.disk in
    let still : IsTrue (g.D.Disk.tells c.close_other.new.disk) = c.in_ok-close_other.ensures.tells ∙ h in
    let still2 : IsTrue (g.D.Disk.tells c.force_two.new.disk) = c.in_ok-force_two.ensures.tells ∙ still in
    let small : c.args.at + length c.args.text.now < 18446744073709551616 = omega (arith, c.in_ok-force_two.ensures.limit) in
    let shut : Shut s mid = close_shut s entries old c.args.other c.args.is_open c.args.at c.args.text.now c.args.numbers.now move mid (c.in_ok-close_other.ensures.written h) in
    let ready : Ready s entries next = stage_ready s entries old c.args.other c.args.is_open c.args.at c.args.text.now c.args.numbers.now move mid next shut (c.in_ok-force_two.ensures.written still) in
    grows_then
    (grows_then
    (grows_weaker (λ image w. close_leaves s entries old c.args.other c.args.is_open c.args.at c.args.text.now c.args.numbers.now move image (g.D.Disk.may_leave c.args.disk.now) (c.requires.only h) w)
    (c.in_ok-close_other.ensures.any_moment h))
    (grows_weaker (λ image w. stage_leaves s entries old c.args.other c.args.is_open c.args.at c.args.text.now c.args.numbers.now move mid image (g.D.Disk.may_leave c.close_other.new.disk) shut (c.in_ok-close_other.ensures.durable h) w)
    (c.in_ok-force_two.ensures.any_moment still)))
    (grows_weaker (λ image w. open_leaves s entries old c.args.other c.args.is_open c.args.at c.args.text.now c.args.numbers.now move next image (g.D.Disk.may_leave c.force_two.new.disk) small ready (c.in_ok-force_two.ensures.durable still) w)
    (c.force.ensures.any_moment still2))

pub returns-clause-bytes : goal.returns-clause-bytes
returns-clause-bytes g c = λ h.
    let still : IsTrue (g.D.Disk.tells c.close_other.new.disk) = c.in_ok-close_other.ensures.tells ∙ h in
    let still2 : IsTrue (g.D.Disk.tells c.force_two.new.disk) = c.in_ok-force_two.ensures.tells ∙ still in
    let two = c.in_ok-force_two.ensures.written still in
    on_ok_weaker c.force.result (λ holds. record {
      shut = g.D.Disk.seen c.close_other.new.disk;
      put = two.0;
      numbered = g.D.Disk.seen c.force_two.new.disk;
      closes = c.in_ok-close_other.ensures.written h;
      puts = two.1;
      numbers = two.2;
      opens = holds;
    })
    (c.force.ensures.written still2)
