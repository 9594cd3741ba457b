-- A call is in range where it is one of a register of the storm.
use Rattle.std.proofs.Common.{◌≡◌, ◌<◌, ◌≤◌, sym, ◌∙◌, subst, arith}
use Rattle.std.specs.Prelude.{◌↔◌, IsTrue, false, length, nat_lt}
use Rattle.std.proofs.lemmas.Bool.{true≢false}
use Rattle.cam_event.specs.declared.Want.{Want}
use Rattle.cam_event.specs.Runs.{IsWant}
use Rattle.cam_gen.specs.Storms.{objects_of}
use Rattle.cam_storm_node.proofs.Answered.{not_below}
use Rattle.cam_storm_node.proofs.Wanted.{call_fits, fit_calls, undeclared}
use Rattle.cam_storm_node.proofs.wants.has_want.Goals as goal

pub returns-then-from-registers : goal.returns-then-from-registers
returns-then-from-registers c =
    let words = c.args.storm.now in
    let fits = c.fits.ensures in
    let low = c.if-from-registers.true in
    let from = c.from.ensures in
    let count = c.registers.ensures in
    let less : c.in-Call.object < length (objects_of words) = omega (arith, low, from, count) in
    subst (λ (w : Want). IsTrue c.fits.result ↔ IsWant (objects_of words) w) (sym c.in-Call.is) (
      λ yes. call_fits words c.in-Call.object c.in-Call.op less (sym fits ∙ yes),
      λ want. fits ∙ fit_calls words c.in-Call.object c.in-Call.op want.0 less,
    )

pub returns-else-from-registers : goal.returns-else-from-registers
returns-else-from-registers c =
    let words = c.args.storm.now in
    let high = c.if-from-registers.false in
    let from = c.from.ensures in
    let count = c.registers.ensures in
    let beyond : length (objects_of words) ≤ c.in-Call.object = omega (arith, high, from, count) in
    let none : nat_lt c.from.result c.registers.result ≡ false =
    not_below c.from.result c.registers.result (omega (arith, high)) in
    subst
    (λ (w : Want). IsTrue (nat_lt c.from.result c.registers.result) ↔ IsWant (objects_of words) w)
    (sym c.in-Call.is) (
      λ yes. absurd (true≢false (sym yes ∙ none)),
      λ want. absurd (undeclared words c.in-Call.object c.in-Call.op want.0 beyond),
    )
