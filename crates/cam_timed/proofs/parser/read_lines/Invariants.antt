use Rattle.std.proofs.Common.{◌≡◌, ◌≤◌, ◌+◌, length}
use Rattle.cam_words.specs.Lines.{lines_of}
use Rattle.cam_timed.specs.TimedGrammar.{timed_nothing, read_timed_lines}
use Rattle.cam_timed.proofs.TimedStands.{TimedStands}
use Rattle.cam_timed.proofs.parser.read_lines.Given as goal

abbrev pub invariant-loop-rest : goal.invariant-loop-rest
invariant-loop-rest l = record {
  from_one : 1 ≤ l.number;
  count : l.number + length l.rest ≤ length l.bytes + 1;
  stands : TimedStands l.so_far;
  value : read_timed_lines l.so_far l.number (lines_of l.rest) ≡ read_timed_lines timed_nothing 1 (lines_of l.bytes);
}

abbrev pub decreases-loop-rest : goal.decreases-loop-rest
decreases-loop-rest l = length l.rest
