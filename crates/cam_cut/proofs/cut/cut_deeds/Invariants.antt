use Rattle.std.proofs.Common.{◌≡◌, reverse, take}
use Rattle.cam_event.specs.Pasts.{plain}
use Rattle.cam_plain.specs.Legal.{history}
use Rattle.cam_cut.specs.Kept.{is_kept}
use Rattle.cam_cut.proofs.cut.cut_deeds.Given as goal

abbrev pub invariant-loop-number : goal.invariant-loop-number
invariant-loop-number l = history l.deeds ≡ plain (reverse (take l.number l.trace)) (is_kept l.keep)
