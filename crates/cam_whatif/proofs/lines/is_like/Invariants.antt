-- What is left is like the rest exactly if all is like the line.
use Rattle.std.proofs.Common.{◌≡◌, length}
use Rattle.cam_whatif.specs.Texts.{is_like}
use Rattle.cam_whatif.proofs.lines.is_like.Given as goal

abbrev pub invariant-loop-first : goal.invariant-loop-first
invariant-loop-first l = is_like l.left l.rest ≡ is_like l.wanted l.line

abbrev pub decreases-loop-first : goal.decreases-loop-first
decreases-loop-first l = length l.left
