use Rattle.std.proofs.Common.{◌≡◌, false, take}
use Rattle.std.specs.List.{list_any}
use Rattle.cam_node.specs.Knowing.{is_outcome_of}
use Rattle.cam_node.proofs.knowing.tell_of.Given as goal

-- None of the outcomes so far is of the action.
abbrev pub invariant-loop-outcome : goal.invariant-loop-outcome
invariant-loop-outcome l = list_any (is_outcome_of l.name) (take l.outcome-index l.outcomes) ≡ false
