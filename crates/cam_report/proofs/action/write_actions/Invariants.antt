use Rattle.std.proofs.Common.{◌≡◌, ◌++◌, reverse, string_bytes}
use Rattle.std.specs.List.{flat_map}
use Rattle.cam_report.specs.Report.{action_text, actions}
use Rattle.cam_report.proofs.action.write_actions.Given as goal

abbrev pub invariant-loop-action : goal.invariant-loop-action
invariant-loop-action l =
    string_bytes l.out ++ flat_map (action_text l.labels (reverse l.deeds)) l.action-iterator
    ≡ string_bytes l.fn.out ++ flat_map (action_text l.labels (reverse l.deeds)) (actions (reverse l.deeds))
