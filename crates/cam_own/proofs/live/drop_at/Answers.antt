use Rattle.std.proofs.Common.{sym, ◌∙◌}
use Rattle.cam_own.proofs.NoneBelow.{none_put}
use Rattle.cam_own.proofs.live.drop_at.Goals as goal

pub returns-then-not-has_below : goal.returns-then-not-has_below
returns-then-not-has_below c =
    none_put c.args.name.now c.args.object c.args.live.now
    (sym c.has_below.ensures ∙ c.if-not-has_below.true)
