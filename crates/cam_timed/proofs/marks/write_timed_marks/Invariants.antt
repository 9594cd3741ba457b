use Rattle.std.proofs.Common.{◌≡◌, ◌++◌, take, string_bytes}
use Rattle.std.specs.List.{flat_map}
use Rattle.cam_timed.specs.TimedReport.{timed_mark_text}
use Rattle.cam_timed.proofs.marks.write_timed_marks.Given as goal

abbrev pub invariant-loop-mark : goal.invariant-loop-mark
invariant-loop-mark l = string_bytes l.out ≡ string_bytes l.fn.out ++ flat_map timed_mark_text (take l.mark-index l.mark-items)
