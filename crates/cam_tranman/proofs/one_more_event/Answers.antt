use Rattle.cam_tranman.proofs.Keeping.{quiet_keeps, deed_keeps}
use Rattle.cam_tranman.proofs.one_more_event.Goals as goal

pub returns-clause-none : goal.returns-clause-none
returns-clause-none c = quiet_keeps

pub returns-clause-one : goal.returns-clause-one
returns-clause-one c = deed_keeps
