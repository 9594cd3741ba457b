-- One event after another.
use Rattle.std.proofs.Common.{◌≡◌, ◌<◌, ◌+◌, ℕ, length, ◌∙◌, arith}
use Rattle.cam_workers.specs.Rest.{AreHandedOver, stood}
use Rattle.cam_workers.proofs.HandedOver.{all_events, one_more, seat_history}
use Rattle.cam_workers.proofs.Passing.{and_then, so}
use Rattle.cam_workers.proofs.settling.hand_over_history.Goals as goal

pub loop-index-preserved : goal.loop-index-preserved
loop-index-preserved g c =
    let core = g.C.Core in
    let next = c.in_ok-hand_over_all.ensures in
    record {
      journal = next.journal ∙ c.loop-index.invariant.journal;
      passed =
          and_then
          (λ now. (index : ℕ) → index < c.loop-index.index
          → AreHandedOver core.sends core.goes_to core.is_idle now c.args.at index)
          (λ now.
          AreHandedOver core.sends core.goes_to core.is_idle now c.args.at c.loop-index.index)
          (λ now. (index : ℕ) → index < c.loop-index.index + 1
          → AreHandedOver core.sends core.goes_to core.is_idle now c.args.at index)
          (stood c.args.ended.now) (stood c.loop-index.ended) (stood c.hand_over_all.new.ended)
          (λ now below here.
          one_more
          (λ index. AreHandedOver core.sends core.goes_to core.is_idle now c.args.at index)
          c.loop-index.index below here)
          c.loop-index.invariant.passed next.passed;
    }

pub returns : goal.returns
returns g c =
    let core = g.C.Core in
    let left = c.args.ended.now in
    let four = c.requires.nodes in
    let at_four = c.requires.at in
    let many = c.seats.ensures.left.seats in
    let within : c.args.at < length left.seats = omega (arith, four, at_four, many) in
    let stands =
    seat_history left c.seats.result.now c.args.at c.index-seats-at.result c.seats.ensures.value
    c.index-seats-at.is within in
    let end = c.loop-index-test.false in
    record {
      journal = c.loop-index.invariant.journal;
      passed =
          so
          (λ now. (index : ℕ) → index < c.loop-index.index
          → AreHandedOver core.sends core.goes_to core.is_idle now c.args.at index)
          (λ now. (index : ℕ) → AreHandedOver core.sends core.goes_to core.is_idle now c.args.at index)
          (stood left) (stood c.loop-index.ended)
          (λ each.
          all_events core.sends core.goes_to core.is_idle (stood left) c.args.at
          c.len-index-end.result c.index-seats-at.result.history stands c.len-index-end.ensures.len
          (λ index less. each index (omega (arith, less, end))))
          c.loop-index.invariant.passed;
    }
