use Rattle.std.proofs.Common.{◌≡◌, ◌++◌, take, string_bytes}
use Rattle.std.specs.List.{flat_map}
use Rattle.cam_report.specs.Words.{inner_line}
use Rattle.cam_report.specs.DeedWords.{deed_words}
use Rattle.cam_report.proofs.trace.write_deeds.Given as goal

abbrev pub invariant-loop-deed : goal.invariant-loop-deed
invariant-loop-deed l = string_bytes l.out ≡ string_bytes l.fn.out ++ flat_map (λ d. inner_line (deed_words l.labels d)) (take l.deed-index l.deeds)
