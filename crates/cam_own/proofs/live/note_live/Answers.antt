use Rattle.cam_own.proofs.Living.{other_live}
use Rattle.cam_own.proofs.live.note_live.Goals as goal

pub returns-in_default : goal.returns-in_default
returns-in_default c = λ L keeps live.
    other_live c.args.objects.now L c.args.deed.now c.args.live.now c.requires
    c.in_default.not-Perform c.in_default.not-Inform live
