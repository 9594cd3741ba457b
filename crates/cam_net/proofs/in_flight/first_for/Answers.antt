-- The place goes on over letters that do not wait for the node, and stops at the first that does.
use Rattle.std.proofs.Common.{ap, sym, ◌∙◌, arith}
use Rattle.cam_net.specs.Waiting.{waits_for}
use Rattle.cam_net.proofs.Places.{first_behind, first_here, first_within}
use Rattle.cam_net.proofs.in_flight.first_for.Goals as goal

pub loop-place-preserved : goal.loop-place-preserved
loop-place-preserved c =
    record {
      before = first_behind (waits_for c.args.node) c.args.letters.now c.loop-place.place c.index-letters-place.result c.loop-place.invariant.before
          c.loop-place-test.true (ap (waits_for c.args.node) (sym c.index-letters-place.is) ∙ sym c.waits_for.ensures ∙ c.if-not-waits_for.true);
    }

pub returns-else-not-waits_for : goal.returns-else-not-waits_for
returns-else-not-waits_for c =
    first_here (waits_for c.args.node) c.args.letters.now c.loop-place.place c.index-letters-place.result c.loop-place.invariant.before
    (ap (waits_for c.args.node) (sym c.index-letters-place.is) ∙ sym c.waits_for.ensures ∙ c.if-not-waits_for.false) c.loop-place-test.true

pub returns-after-loop-place : goal.returns-after-loop-place
returns-after-loop-place c = omega (arith, c.loop-place.invariant.before, first_within (waits_for c.args.node) c.args.letters.now, c.loop-place-test.false)
