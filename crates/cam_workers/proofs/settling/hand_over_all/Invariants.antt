-- The letters so far are handed over.
use Rattle.std.proofs.Common.{◌≡◌, ◌<◌, ℕ}
use Rattle.cam_workers.specs.Rest.{HasPassed, IsHandedOver, stood}
use Rattle.cam_workers.proofs.settling.hand_over_all.Given as goal

abbrev pub invariant-loop-place : goal.invariant-loop-place
invariant-loop-place g l = record {
  journal : l.ended.journal ≡ l.fn.ended.journal;
  passed :
      HasPassed
      (λ now. (place : ℕ) → place < l.place
      → IsHandedOver g.C.Core.sends g.C.Core.goes_to g.C.Core.is_idle now l.at l.index place)
      (stood l.fn.ended) (stood l.ended);
}
