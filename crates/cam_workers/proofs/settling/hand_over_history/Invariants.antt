-- The letters of the events so far are handed over.
use Rattle.std.proofs.Common.{◌≡◌, ◌<◌, ℕ}
use Rattle.cam_workers.specs.Rest.{AreHandedOver, HasPassed, stood}
use Rattle.cam_workers.proofs.settling.hand_over_history.Given as goal

abbrev pub invariant-loop-index : goal.invariant-loop-index
invariant-loop-index g l = record {
  journal : l.ended.journal ≡ l.fn.ended.journal;
  passed :
      HasPassed
      (λ now. (index : ℕ) → index < l.index
      → AreHandedOver g.C.Core.sends g.C.Core.goes_to g.C.Core.is_idle now l.at index)
      (stood l.fn.ended) (stood l.ended);
}
