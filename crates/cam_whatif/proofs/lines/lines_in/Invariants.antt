-- The lines so far, and those of the rest.
use Rattle.std.proofs.Common.{◌≡◌, ◌++◌, length, map}
use Rattle.cam_words.specs.Lines.{lines_of}
use Rattle.cam_whatif.proofs.lines.lines_in.Given as goal

abbrev pub invariant-loop-rest : goal.invariant-loop-rest
invariant-loop-rest l = map (λ line. line.now) l.lines.items ++ lines_of l.rest ≡ lines_of l.text

abbrev pub decreases-loop-rest : goal.decreases-loop-rest
decreases-loop-rest l = length l.rest
