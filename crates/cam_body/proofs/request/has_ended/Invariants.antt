use Rattle.std.proofs.Common.{◌≡◌, drop}
use Rattle.cam_body.specs.Work.{has_ended}
use Rattle.cam_body.proofs.request.has_ended.Given as goal

abbrev pub invariant-loop-step : goal.invariant-loop-step
invariant-loop-step l = has_ended (drop l.step-index l.step-items) ≡ has_ended l.step-items
