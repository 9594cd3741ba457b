use Rattle.std.proofs.Common.{◌≡◌, suc, ◌+◌, ◌-◌, ◌≤◌, drop, get_or, length}
use Rattle.cam_scope.specs.Source.{column_of, starts}
use Rattle.cam_scope.proofs.source.column.Given as goal

abbrev pub invariant-loop-at : goal.invariant-loop-at
invariant-loop-at l = record {
  behind : l.words ≤ l.place;
  same : get_or (starts l.was_blank (l.at + 1) (drop l.at l.line)) (l.place - l.words) (suc (length l.line)) ≡ column_of l.line l.place;
}
