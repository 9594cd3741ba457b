-- One letter after another.
use Rattle.std.proofs.Common.{◌≡◌, ◌<◌, ◌+◌, ℕ, length, ◌∙◌, arith}
use Rattle.cam_workers.specs.Rest.{AreHandedOver, IsHandedOver, stood}
use Rattle.cam_workers.proofs.HandedOver.{all_places, one_more, seat_history}
use Rattle.cam_workers.proofs.Passing.{and_then, so}
use Rattle.cam_workers.proofs.settling.hand_over_all.Goals as goal

pub loop-place-preserved : goal.loop-place-preserved
loop-place-preserved g c =
    let core = g.C.Core in
    let next = c.in_ok-hand_over.ensures in
    record {
      journal = next.journal ∙ c.loop-place.invariant.journal;
      passed =
          and_then
          (λ now. (place : ℕ) → place < c.loop-place.place
          → IsHandedOver core.sends core.goes_to core.is_idle now c.args.at c.args.index place)
          (λ now.
          IsHandedOver core.sends core.goes_to core.is_idle now c.args.at c.args.index
          c.loop-place.place)
          (λ now. (place : ℕ) → place < c.loop-place.place + 1
          → IsHandedOver core.sends core.goes_to core.is_idle now c.args.at c.args.index place)
          (stood c.args.ended.now) (stood c.loop-place.ended) (stood c.hand_over.new.ended)
          (λ now below here.
          one_more
          (λ place.
          IsHandedOver core.sends core.goes_to core.is_idle now c.args.at c.args.index place)
          c.loop-place.place below here)
          c.loop-place.invariant.passed next.passed;
    }

pub returns : goal.returns
returns g c =
    let core = g.C.Core in
    let left = c.args.ended.now in
    let four = c.requires.nodes in
    let at_four = c.requires.at in
    let many = c.seats.ensures.left.seats in
    let within : c.args.at < length left.seats = omega (arith, four, at_four, many) in
    let stands =
    seat_history left c.seats.result.now c.args.at c.index-seats-at.result c.seats.ensures.value
    c.index-seats-at.is within in
    let end = c.loop-place-test.false in
    record {
      journal = c.loop-place.invariant.journal;
      passed =
          so
          (λ now. (place : ℕ) → place < c.loop-place.place
          → IsHandedOver core.sends core.goes_to core.is_idle now c.args.at c.args.index place)
          (λ now.
          AreHandedOver core.sends core.goes_to core.is_idle now c.args.at c.args.index)
          (stood left) (stood c.loop-place.ended)
          (λ each.
          all_places core.sends core.goes_to core.is_idle (stood left) c.args.at c.args.index
          c.letters_of-place-end.result c.index-seats-at.result.history stands
          c.letters_of-place-end.ensures
          (λ place less. each place (omega (arith, less, end))))
          c.loop-place.invariant.passed;
    }
