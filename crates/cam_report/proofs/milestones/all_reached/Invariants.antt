use Rattle.std.proofs.Common.{◌≡◌, take, reverse}
use Rattle.std.specs.List.{flat_map}
use Rattle.cam_event.specs.Rules.{sorted_names}
use Rattle.cam_report.specs.Gathered.{reached}
use Rattle.cam_report.proofs.milestones.all_reached.Given as goal

abbrev pub invariant-loop-deed : goal.invariant-loop-deed
invariant-loop-deed l = l.names.keys ≡ sorted_names (flat_map (reached l.milestone) (reverse (take l.deed-index l.deeds)))
