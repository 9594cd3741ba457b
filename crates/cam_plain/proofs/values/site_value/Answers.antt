use Rattle.std.proofs.Common.{◌∙◌}
use Rattle.cam_live.proofs.Settling.{settled_state}
use Rattle.cam_plain.specs.Legal.{history}
use Rattle.cam_plain.proofs.values.site_value.Goals as goal

pub returns : goal.returns
returns c = c.in_ok-state.ensures ∙ settled_state c.args.objects.now (history c.args.deeds.now) c.args.object c.in_ok-operations.operations c.in_ok-operations.ensures
