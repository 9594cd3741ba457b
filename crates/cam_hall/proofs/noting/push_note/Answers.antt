use Rattle.cam_hall.proofs.Thinned.{pushed_once, pushed_none}
use Rattle.cam_hall.proofs.noting.push_note.Goals as goal

pub returns-in-Ok : goal.returns-in-Ok
returns-in-Ok g c = pushed_once _ _ _ c.in-Ok.ensures.ok

pub returns-in-Err : goal.returns-in-Err
returns-in-Err g c = pushed_none _ _ _ c.in-Err.ensures.err
