use Rattle.cam_timed.proofs.here.HereSighted.lift.Goals as goal

pub returns : goal.returns
returns c = c.lift.ensures _ _ _ _ c.requires.keeps_own
