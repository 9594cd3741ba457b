use Rattle.std.proofs.Common.{sym, ◌∙◌}
use Rattle.cam_wire.proofs.Steps.{above_last}
use Rattle.cam_wire.proofs.outcomes.is_above_last.Goals as goal

pub returns-in-Some : goal.returns-in-Some
returns-in-Some c = c.lt.ensures ∙ sym (above_last c.args.names.now c.in-Some.last.now c.args.name.now (sym c.in-Some.ensures.value))
