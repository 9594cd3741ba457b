-- The outcomes that are left say whether all depend on what is known.
use Rattle.std.proofs.Common.{◌≡◌, [], drop}
use Rattle.std.specs.List.{list_all}
use Rattle.cam_node.specs.Lawful.{is_known_outcome}
use Rattle.cam_node.proofs.restartable.all_known.Given as goal

abbrev pub invariant-loop-outcome : goal.invariant-loop-outcome
invariant-loop-outcome l =
    list_all (is_known_outcome (record { outcomes = []; counts = l.known }))
    (drop l.outcome-index l.outcomes)
    ≡ list_all (is_known_outcome (record { outcomes = []; counts = l.known })) l.outcomes
