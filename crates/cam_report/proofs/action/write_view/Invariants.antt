use Rattle.std.proofs.Common.{◌≡◌, ◌++◌, take, string_bytes}
use Rattle.std.specs.List.{flat_map}
use Rattle.cam_report.specs.Words.{inner_line}
use Rattle.cam_report.specs.Report.{step_words}
use Rattle.cam_report.proofs.action.write_view.Given as goal

abbrev pub invariant-loop-step : goal.invariant-loop-step
invariant-loop-step l = string_bytes l.out ≡ string_bytes l.fn.out ++ flat_map (λ step. inner_line (step_words l.labels step)) (take l.step-index l.view)
