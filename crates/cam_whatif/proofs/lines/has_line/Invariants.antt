-- None of the lines before the rest is the line.
use Rattle.std.proofs.Common.{◌≡◌, length}
use Rattle.std.specs.List.{list_any}
use Rattle.cam_words.specs.Lines.{lines_of}
use Rattle.cam_whatif.specs.Texts.{has_line, is_like}
use Rattle.cam_whatif.proofs.lines.has_line.Given as goal

abbrev pub invariant-loop-rest : goal.invariant-loop-rest
invariant-loop-rest l = list_any (is_like l.wanted) (lines_of l.rest) ≡ has_line l.wanted l.text

abbrev pub decreases-loop-rest : goal.decreases-loop-rest
decreases-loop-rest l = length l.rest
