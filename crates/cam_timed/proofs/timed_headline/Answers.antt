-- The headline of runs by time.
use Rattle.cam_timed.proofs.TimedWhole.{timed_headline_holds}
use Rattle.cam_timed.proofs.timed_headline.Goals as goal

pub returns : goal.returns
returns c = timed_headline_holds
