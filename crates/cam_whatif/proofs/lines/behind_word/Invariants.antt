-- The rest leads where the line leads.
use Rattle.std.proofs.Common.{◌≡◌, length}
use Rattle.cam_whatif.specs.Texts.{behind_word}
use Rattle.cam_whatif.proofs.lines.behind_word.Given as goal

abbrev pub invariant-loop-first : goal.invariant-loop-first
invariant-loop-first l = behind_word l.rest ≡ behind_word l.line

abbrev pub decreases-loop-first : goal.decreases-loop-first
decreases-loop-first l = length l.rest
