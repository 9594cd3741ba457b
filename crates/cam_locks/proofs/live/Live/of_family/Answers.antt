use Rattle.std.proofs.Common.{◌<◌, length, ◌∙◌, arith}
use Rattle.cam_locks.proofs.Families.{no_family}
use Rattle.cam_locks.proofs.live.Live.of_family.Goals as goal

pub returns-then-depth-gt1 : goal.returns-then-depth-gt1
returns-then-depth-gt1 c =
    let deep : 1 < length c.args.family.now = omega (arith, c.depth.ensures.value, c.if-depth-gt1.true) in
    c.new.ensures.items ∙ no_family c.args.family.now c.args.self.now.ops deep
