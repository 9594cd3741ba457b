use Rattle.std.proofs.Common.{◌≡◌, ◌++◌, map, take}
use Rattle.cam_recman.specs.Snapshot.{outcome_record}
use Rattle.cam_node.proofs.news.add_outcomes.Given as goal

-- the records of the outcomes so far
abbrev pub invariant-loop-outcome : goal.invariant-loop-outcome
invariant-loop-outcome l = l.records ≡ l.initial.records ++ map outcome_record (take l.outcome-index l.outcome-items)
