use Rattle.std.proofs.Common.{◌≡◌, take, string_bytes}
use Rattle.std.specs.List.{flat_map}
use Rattle.cam_report.specs.Words.{line}
use Rattle.cam_report.specs.DeedWords.{deed_words}
use Rattle.cam_report.proofs.witness.history_text.Given as goal

abbrev pub invariant-loop-deed : goal.invariant-loop-deed
invariant-loop-deed l = string_bytes l.text ≡ flat_map (λ d. line (deed_words l.labels d)) (take l.deed-index l.deed-items)
