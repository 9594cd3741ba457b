use Rattle.std.proofs.Common.{◌≤◌, length, ◌≡◌, true, false, ◌∙◌, refl, arith}
use Rattle.cam_know.specs.Known.{knows_commit}
use Rattle.cam_know.proofs.Climbs.{lift_here, lift_above, lift_top}
use Rattle.cam_know.proofs.know.Know.+lift.Goals as goal

pub returns-then-not-is_committed : goal.returns-then-not-is_committed
returns-then-not-is_committed t c =
    let live : knows_commit c.args.self.now c.args.name.now ≡ false = grind arith in
    let named : 1 ≤ length c.args.name.now = omega (arith, c.depth.ensures.from, c.depth.ensures.value) in
    lift_here (knows_commit c.args.self.now) c.args.name.now named live

pub returns-in-Some : goal.returns-in-Some
returns-in-Some t c =
    let done : knows_commit c.args.self.now c.args.name.now ≡ true = grind arith in
    c.lift.ensures ∙ lift_above (knows_commit c.args.self.now) c.args.name.now c.in-Some.parent c.in-Some.ensures.value done

pub returns-in-None : goal.returns-in-None
returns-in-None t c =
    let done : knows_commit c.args.self.now c.args.name.now ≡ true = grind arith in
    lift_top (knows_commit c.args.self.now) c.args.name.now (c.in-None.ensures.top.0 refl) done
