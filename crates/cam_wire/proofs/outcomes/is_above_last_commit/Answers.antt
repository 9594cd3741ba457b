use Rattle.std.proofs.Common.{sym, ◌∙◌}
use Rattle.cam_wire.proofs.Steps.{above_last_commit}
use Rattle.cam_wire.proofs.outcomes.is_above_last_commit.Goals as goal

pub returns-in-Some : goal.returns-in-Some
returns-in-Some c = c.lt.ensures ∙ sym (above_last_commit c.args.commits.now c.in-Some.field-0.now c.args.name.now (sym c.in-Some.ensures.value))
