use Rattle.cam_commit.proofs.Events.{keeps_over_event}
use Rattle.cam_commit.proofs.laws.one_more_event.Goals as goal

pub returns : goal.returns
returns c = keeps_over_event
