use Rattle.std.proofs.Common.{◌≡◌, None, drop, string_bytes}
use Rattle.cam_draw.specs.Words.{with_deeds}
use Rattle.cam_draw.proofs.words.add_deeds.Given as goal

abbrev pub invariant-loop-deed : goal.invariant-loop-deed
invariant-loop-deed l =
    with_deeds l.scope.names l.labels (string_bytes l.words) l.last (drop l.deed-index l.deed-items)
    ≡ with_deeds l.scope.names l.labels (string_bytes l.fn.words) None l.deeds
