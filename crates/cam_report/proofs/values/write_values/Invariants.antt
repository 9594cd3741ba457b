use Rattle.std.proofs.Common.{◌≡◌, ◌++◌, take, [], string_bytes}
use Rattle.cam_event.specs.History.{after}
use Rattle.cam_report.specs.Report.{values_from}
use Rattle.cam_report.proofs.values.write_values.Given as goal

abbrev pub invariant-loop-object : goal.invariant-loop-object
invariant-loop-object l = string_bytes l.out ≡ string_bytes l.fn.out ++ values_from l.script.objects (after [] l.deeds) 0 (take l.object l.label-items)
