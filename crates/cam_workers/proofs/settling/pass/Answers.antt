-- One node after another.
use Rattle.std.proofs.Common.{◌≡◌, ◌<◌, ◌+◌, ℕ, ◌∙◌}
use Rattle.cam_workers.specs.Rest.{IsNodeAtRest, stood}
use Rattle.cam_workers.proofs.HandedOver.{one_more}
use Rattle.cam_workers.proofs.Passing.{and_then}
use Rattle.cam_workers.proofs.settling.pass.Goals as goal

pub loop-at-preserved : goal.loop-at-preserved
loop-at-preserved g c =
    let core = g.C.Core in
    let next = c.in_ok-pass_node.ensures in
    record {
      journal = next.journal ∙ c.loop-at.invariant.journal;
      passed =
          and_then
          (λ now. (at : ℕ) → at < c.loop-at.at
          → IsNodeAtRest core.sends core.goes_to core.is_idle now at)
          (λ now. IsNodeAtRest core.sends core.goes_to core.is_idle now c.loop-at.at)
          (λ now. (at : ℕ) → at < c.loop-at.at + 1
          → IsNodeAtRest core.sends core.goes_to core.is_idle now at)
          _ (stood c.loop-at.ended) (stood c.pass_node.new.ended)
          (λ now below here.
          one_more (λ at. IsNodeAtRest core.sends core.goes_to core.is_idle now at) c.loop-at.at
          below here)
          c.loop-at.invariant.passed next.passed;
    }
