use Rattle.std.proofs.Common.{◌≡◌, drop}
use Rattle.cam_explain.specs.Marks.{act_in}
use Rattle.cam_explain.proofs.marks.act_in.Given as goal

abbrev pub invariant-loop-step : goal.invariant-loop-step
invariant-loop-step l =
    act_in (drop l.step-index l.steps) l.line ≡ act_in l.steps l.line
