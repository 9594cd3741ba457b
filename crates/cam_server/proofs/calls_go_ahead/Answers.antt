use Rattle.cam_server.proofs.GoingAhead.{calls_go_ahead}
use Rattle.cam_server.proofs.calls_go_ahead.Goals as goal

pub returns : goal.returns
returns c = calls_go_ahead
