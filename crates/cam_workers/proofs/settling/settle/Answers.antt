-- The last pass made no event.
use Rattle.std.proofs.Common.{◌≡◌, sym, subst, arith}
use Rattle.cam_workers.specs.Rest.{IsAtRest, events, stood}
use Rattle.cam_workers.proofs.settling.settle.Goals as goal

pub returns : goal.returns
returns g c =
    let core = g.C.Core in
    let inv = c.loop-before.invariant in
    let count = inv.count in
    let later = inv.passed.later in
    let end = c.loop-before-test.false in
    let now = c.events.ensures.count in
    let none : events (stood c.loop-before.ended) ≡ events inv.start =
    omega (arith, count, later, end, now) in
    record {
      journal = inv.journal;
      rest =
          subst (IsAtRest core.sends core.goes_to core.is_idle) (sym (inv.passed.same none))
          (inv.passed.done none);
    }
