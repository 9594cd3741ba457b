-- The nodes so far have had their turns.
use Rattle.std.proofs.Common.{◌≡◌, ◌<◌, ℕ}
use Rattle.cam_workers.specs.Rest.{HasPassed, IsNodeAtRest, stood}
use Rattle.cam_workers.proofs.settling.pass.Given as goal

abbrev pub invariant-loop-at : goal.invariant-loop-at
invariant-loop-at g l = record {
  journal : l.ended.journal ≡ l.fn.ended.journal;
  passed :
      HasPassed
      (λ now. (at : ℕ) → at < l.at
      → IsNodeAtRest g.C.Core.sends g.C.Core.goes_to g.C.Core.is_idle now at)
      (stood l.fn.ended) (stood l.ended);
}
