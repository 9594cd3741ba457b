use Rattle.std.proofs.Common.{rules, ◌≡◌, length, take, IsTrue, ◌∙◌, arith}
use Rattle.cam_log.proofs.Grown.{still_nothing, same_twice, front_more}
use Rattle.cam_log.specs.Spent.{none_left}
use Rattle.cam_log.proofs.device.read_whole.Goals as goal

pub loop-bytes-preserved : goal.loop-bytes-preserved
loop-bytes-preserved g c =
    let l = c.loop-bytes in
    let read = c.read.ensures in
    let still : IsTrue (g.D.Disk.tells c.args.disk.now) → IsTrue (g.D.Disk.tells l.disk) = λ h. l.invariant.tells ∙ h in
    let place : c.len.result ≡ length l.bytes.items = search rules in
    record {
      tells = read.tells ∙ l.invariant.tells;
      faults = omega (arith, l.invariant.faults, read.cause.later);
      within = omega (arith, l.invariant.within, read.within.later);
      front = λ h. front_more (g.D.Disk.seen c.args.disk.now) (g.D.Disk.seen l.disk) l.bytes.items (take c.in_ok-count.count c.read.new.into) c.add_piece.new.bytes.items c.len.result (length c.read.new.into) c.in_ok-count.count
          (l.invariant.seen h) place (l.invariant.front h) (c.in_ok-count.ensures.bytes (still h)) c.in_ok-add_piece.ensures;
      seen = λ h. read.seen (still h) ∙ l.invariant.seen h;
      crash = λ h. same_twice (l.invariant.crash h) (read.crash (still h));
      unbounded = λ none. none_left _ _ _ _ _ _ read.stops (l.invariant.unbounded none);
      any_moment = λ h. still_nothing (λ t image le now. g.met.D.Disk.counts_now c.args.disk.now t image h le now) (l.invariant.any_moment h) (l.invariant.crash h) (read.time (still h)) (read.crash (still h));
    }
