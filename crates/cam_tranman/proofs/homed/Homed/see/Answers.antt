use Rattle.std.proofs.Common.{refl}
use Rattle.cam_tranman.specs.Tables.{answers}
use Rattle.cam_tranman.proofs.Changing.{got_is}
use Rattle.cam_tranman.proofs.homed.Homed.see.Goals as goal

pub returns : goal.returns
returns c =
    got_is c.args.action.now c.args.seen.now c.args.call.now (answers c.args.self.now) _ c.requires
    (record { node = refl; count = refl; tops = refl; action = c.see_in.ensures; call = c.close_call.ensures; children = λ b. refl })
