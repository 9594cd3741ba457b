use Rattle.std.proofs.Common.{◌+◌, ◌-◌, ◌/◌, ◌<◌, ◌≤◌, arith, length, subst, sym}
use Rattle.cam_locks.specs.declared.live.Slot.{Slot}
use Rattle.cam_locks.proofs.Slots.{middle_below, middle_above}
use Rattle.cam_locks.proofs.live.place_of.Goals as goal

pub loop-low-preserved-then-slots-middle : goal.loop-low-preserved-then-slots-middle
loop-low-preserved-then-slots-middle c =
    let m = c.loop-low.low + (c.loop-low.high - c.loop-low.low) / 2 in
    let inv = c.loop-low.invariant in
    let high : c.loop-low.high ≤ length c.args.slots.now = inv.1 in
    let below : m < c.loop-low.high = omega arith in
    (omega arith, inv.1, middle_below c.args.slots.now m c.args.index c.index-slots-middle.result c.requires (omega arith) c.index-slots-middle.is (subst (λ (s : Slot). s.operation.index < c.args.index) (sym c.index-slots-middle.is) c.if-slots-middle.true), inv.3)

pub loop-low-preserved : goal.loop-low-preserved
loop-low-preserved c =
    let m = c.loop-low.low + (c.loop-low.high - c.loop-low.low) / 2 in
    let inv = c.loop-low.invariant in
    let high : c.loop-low.high ≤ length c.args.slots.now = inv.1 in
    let below : m < c.loop-low.high = omega arith in
    (omega arith, omega arith, inv.2, middle_above c.args.slots.now m c.args.index c.index-slots-middle.result c.requires (omega arith) c.index-slots-middle.is (subst (λ (s : Slot). c.args.index ≤ s.operation.index) (sym c.index-slots-middle.is) c.if-slots-middle.false))

pub returns : goal.returns
returns c =
    let inv = c.loop-low.invariant in
    let low : c.loop-low.low ≤ c.loop-low.high = inv.0 in
    let high : c.loop-low.high ≤ length c.args.slots.now = inv.1 in
    record { within = omega arith; before = inv.2; behind = λ k s h l. inv.3 k s (omega (arith, c.loop-low-test.false, h)) l }
