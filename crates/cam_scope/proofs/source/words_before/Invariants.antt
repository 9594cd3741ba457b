use Rattle.std.proofs.Common.{◌≡◌, true, ◌+◌, ◌≤◌, drop, length}
use Rattle.cam_scope.specs.Source.{starts}
use Rattle.cam_scope.proofs.source.words_before.Given as goal

abbrev pub invariant-loop-byte : goal.invariant-loop-byte
invariant-loop-byte l = record {
  within : l.words ≤ l.byte-index;
  same : l.words + length (starts l.was_blank (l.byte-index + 1) (drop l.byte-index l.front)) ≡ length (starts true 1 l.front);
}
