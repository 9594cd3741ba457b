use Rattle.std.proofs.Common.{◌≡◌, ◌+◌, ◌≤◌, true, false, length, refl, sym, ◌∙◌, arith}
use Rattle.cam_know.proofs.Climbs.{lift_here, lift_above, lift_top}
use Rattle.cam_locks.specs.Names.{has_name}
use Rattle.cam_locks.proofs.Lifts.{parent_length}
use Rattle.cam_locks.proofs.names.Names.lift.Goals as goal

pub loop-init : goal.loop-init
loop-init c = (refl, refl)

pub returns-then-not-contains : goal.returns-then-not-contains
returns-then-not-contains c =
    let inv = c.loop.invariant in
    let len : length c.loop.present + c.loop.counter ≡ length c.args.name.now + 1 = inv.1 in
    let some : 1 ≤ length c.loop.present = omega (arith, len, c.loop-test.true, c.depth-end.ensures.value) in
    let open_yet : has_name c.args.self.now.names c.loop.present ≡ false = sym c.contains.ensures ∙ c.if-not-contains.true in
    lift_here (has_name c.args.self.now.names) c.loop.present some open_yet ∙ inv.0

pub returns-in_err-present : goal.returns-in_err-present
returns-in_err-present c =
    let done : has_name c.args.self.now.names c.loop.present ≡ true = grind arith in
    c.from_residual.ensures
    ∙ lift_top (has_name c.args.self.now.names) c.loop.present (c.in_err-present.ensures.top.0 refl) done
    ∙ c.loop.invariant.0

pub loop-preserved : goal.loop-preserved
loop-preserved c =
    let inv = c.loop.invariant in
    let p = c.in_ok-present.present in
    let len : length c.loop.present + c.loop.counter ≡ length c.args.name.now + 1 = inv.1 in
    let less : length p + 1 ≡ length c.loop.present = parent_length c.loop.present p c.in_ok-present.ensures.value in
    let done : has_name c.args.self.now.names c.loop.present ≡ true = grind arith in (
      lift_above (has_name c.args.self.now.names) c.loop.present p c.in_ok-present.ensures.value done ∙ inv.0,
      omega (arith, len, less),
    )

pub returns-then-contains : goal.returns-then-contains
returns-then-contains c =
    let inv = c.loop.invariant in
    let len : length c.loop.present + c.loop.counter ≡ length c.args.name.now + 1 = inv.1 in
    let end = c.loop.auto.counter-end c.depth-end.ensures.from in
    let one : length c.loop.present ≡ 1 = omega (arith, len, end, c.loop-test.false, c.depth-end.ensures.value) in
    let done : has_name c.args.self.now.names c.loop.present ≡ true = sym c.contains-2.ensures ∙ c.if-contains.true in
    lift_top (has_name c.args.self.now.names) c.loop.present one done ∙ inv.0

pub returns : goal.returns
returns c =
    let inv = c.loop.invariant in
    let len : length c.loop.present + c.loop.counter ≡ length c.args.name.now + 1 = inv.1 in
    let end = c.loop.auto.counter-end c.depth-end.ensures.from in
    let some : 1 ≤ length c.loop.present = omega (arith, len, end, c.depth-end.ensures.value) in
    let open_yet : has_name c.args.self.now.names c.loop.present ≡ false = sym c.contains-2.ensures ∙ c.if-contains.false in
    lift_here (has_name c.args.self.now.names) c.loop.present some open_yet ∙ inv.0
