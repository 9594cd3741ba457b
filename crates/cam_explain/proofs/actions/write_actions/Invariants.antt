use Rattle.std.proofs.Common.{◌≡◌, ◌++◌, reverse, string_bytes}
use Rattle.std.specs.List.{flat_map}
use Rattle.cam_explain.specs.Moments.{told_in}
use Rattle.cam_explain.specs.Stories.{action_text, actions_text}
use Rattle.cam_explain.proofs.actions.write_actions.Given as goal

abbrev pub invariant-loop-action : goal.invariant-loop-action
invariant-loop-action l =
    string_bytes l.out ++ flat_map (action_text l.script l.scope (told_in l.course) (reverse l.deeds)) l.action-iterator
    ≡ string_bytes l.fn.out ++ actions_text l.script l.scope (told_in l.course) (reverse l.deeds)
