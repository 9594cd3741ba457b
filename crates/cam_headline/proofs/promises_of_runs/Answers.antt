-- What each run promises.
use Rattle.cam_headline.proofs.Whole.{runs_keep_promises, halted_runs_keep_promises}
use Rattle.cam_headline.proofs.promises_of_runs.Goals as goal

pub returns-clause-runs : goal.returns-clause-runs
returns-clause-runs c = runs_keep_promises

pub returns-clause-halted : goal.returns-clause-halted
returns-clause-halted c = halted_runs_keep_promises
