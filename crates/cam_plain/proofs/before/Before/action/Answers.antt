use Rattle.std.proofs.Common.{◌≤◌, length, ◌∙◌, arith}
use Rattle.cam_plain.proofs.before.Before.action.Goals as goal

pub returns : goal.returns
returns c =
    let named : 1 ≤ length c.args.name.now = omega (arith, c.depth.ensures.from, c.depth.ensures.value) in
    c.action_in.ensures ∙ c.requires.kept.actions c.args.name.now named
