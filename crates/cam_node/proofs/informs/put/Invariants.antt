use Rattle.std.proofs.Common.{◌≡◌, ◌≤◌, ◌++◌, length, take, drop, reverse}
use Rattle.cam_event.specs.Rules.{put_name}
use Rattle.cam_node.proofs.informs.put.Given as goal

-- what stands behind the place is below the name
abbrev pub invariant-loop-place : goal.invariant-loop-place
invariant-loop-place l = record {
  same : l.names.items ≡ l.initial.names.items;
  within : l.place ≤ length l.names.items;
  rest : put_name l.name (reverse l.names.items) ≡ reverse (drop l.place l.names.items) ++ put_name l.name (reverse (take l.place l.names.items));
}

abbrev pub decreases-loop-place : goal.decreases-loop-place
decreases-loop-place l = l.place
