use Rattle.std.proofs.Common.{◌≡◌, ◌+◌, ℕ, List, [], length, Some}
use Rattle.std.specs.Prelude.{slice_get}
use Rattle.cam_type.specs.declared.ObjectDecl.{ObjectDecl}
use Rattle.cam_timed.specs.declared.machine.Node.{Node}
use Rattle.cam_timed.specs.Machine.{KeepsNode}
use Rattle.cam_timed.proofs.machine.Machine.new.Given as goal

-- so many nodes, each of which has done nothing
abbrev pub invariant-loop-place : goal.invariant-loop-place
invariant-loop-place l = record {
  many : length l.nodes.items ≡ l.place;
  each : (objects : List ObjectDecl) (p : ℕ) (node : Node) → slice_get l.nodes.items p ≡ Some node → KeepsNode objects [] (p + 1) node;
}
