use Rattle.std.proofs.Common.{◌≤◌, length, arith}
use Rattle.cam_own.proofs.Living.{aborted_live}
use Rattle.cam_own.proofs.live.note_abort.Goals as goal

pub returns : goal.returns
returns c = λ L keeps.
    let all : length c.args.objects.now ≤ c.loop-place.place =
    omega (arith, c.loop-place-test.false, c.len-place-end.ensures) in
    aborted_live c.args.objects.now L c.args.site c.args.name.now c.loop-place.place c.args.live.now
    c.loop-place.live c.loop-place.invariant all keeps
