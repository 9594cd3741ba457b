-- What holds of runs with taken events at some positions.
use Rattle.cam_delta.proofs.OwnPast.{ran_known}
use Rattle.cam_delta.proofs.PastLoads.{ran_loads}
use Rattle.cam_delta.proofs.SpelledLoads.{ran_spellings}
use Rattle.cam_delta.proofs.SameSteps.{ran_events}
use Rattle.cam_delta.proofs.SameReadings.{ran_refusals, ran_queries}
use Rattle.cam_delta.proofs.halted_runs_agree.Goals as goal

pub returns-clause-known : goal.returns-clause-known
returns-clause-known c = λ objects taken t s run. ran_known objects t s (taken, run)

pub returns-clause-loads : goal.returns-clause-loads
returns-clause-loads c = λ objects taken t letter run. ran_loads objects t letter (taken, run)

pub returns-clause-spellings : goal.returns-clause-spellings
returns-clause-spellings c = λ objects taken t letter run. ran_spellings objects t letter (taken, run)

pub returns-clause-events : goal.returns-clause-events
returns-clause-events c = λ objects taken t input run. ran_events objects t input (taken, run)

pub returns-clause-refusals : goal.returns-clause-refusals
returns-clause-refusals c = λ objects taken t s a want run. ran_refusals objects t s a want (taken, run)

pub returns-clause-queries : goal.returns-clause-queries
returns-clause-queries c = λ objects taken t s f run. ran_queries objects t s f (taken, run)
