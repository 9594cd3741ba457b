use Rattle.std.proofs.Common.{◌≡◌, ◌<◌, nat_eq, false, length, sym, ◌∙◌, arith}
use Rattle.cam_locks.proofs.Families.{some_of, none_of}
use Rattle.cam_locks.proofs.live.Live.has_family.Goals as goal

pub returns-then-depth-eq1 : goal.returns-then-depth-eq1
returns-then-depth-eq1 c =
    c.is_some.ensures
    ∙ some_of c.args.family.now c.args.self.now.ops c.one_below.result (sym c.depth.ensures.value ∙ c.if-depth-eq1.true) c.one_below.ensures.found c.one_below.ensures.none

pub returns-else-depth-eq1 : goal.returns-else-depth-eq1
returns-else-depth-eq1 c =
    let deep : 1 < length c.args.family.now = omega (arith, c.depth.ensures.value, c.depth.ensures.from, c.if-depth-eq1.false) in
    let apart : nat_eq c.depth.result 1 ≡ false = grind (arith, c.if-depth-eq1.false) in
    apart ∙ sym (none_of c.args.family.now c.args.self.now.ops deep)
