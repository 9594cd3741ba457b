-- What holds of runs with taken events at some positions.
use Rattle.cam_event.proofs.OwnSteps.{refusals_same}
use Rattle.cam_agree.proofs.Ran.{ran_knows, ran_sent}
use Rattle.cam_agree.proofs.DepsLaw.{ran_dependencies}
use Rattle.cam_agree.proofs.DepsAgreed.{ran_letters}
use Rattle.cam_agree.proofs.OrphanTests.{ran_orphans}
use Rattle.cam_agree.proofs.LiveSight.{ran_live}
use Rattle.cam_agree.proofs.LiveServed.{ran_values, ran_served}
use Rattle.cam_agree.proofs.DepsEvents.{ran_events, ran_queries}
use Rattle.cam_agree.proofs.halted_runs_agree.Goals as goal

pub returns-clause-knowledge : goal.returns-clause-knowledge
returns-clause-knowledge c = λ objects taken t s got run. ran_knows objects t s got (taken, run)

pub returns-clause-letters : goal.returns-clause-letters
returns-clause-letters c = λ objects taken t letter run. ran_letters objects t letter (taken, run)

pub returns-clause-own : goal.returns-clause-own
returns-clause-own c = λ objects taken t s got a run. ran_dependencies objects t s got a (taken, run)

pub returns-clause-orphans : goal.returns-clause-orphans
returns-clause-orphans c = λ objects taken t input run. ran_orphans objects t input (taken, run)

pub returns-clause-live : goal.returns-clause-live
returns-clause-live c = λ objects taken t s got run. ran_live objects t s got (taken, run)

pub returns-clause-values : goal.returns-clause-values
returns-clause-values c = λ objects taken t s got x run. ran_values objects t s got x (taken, run)

pub returns-clause-served : goal.returns-clause-served
returns-clause-served c = λ objects taken t s got a n x op run. ran_served objects t s got a n x op (taken, run)

pub returns-clause-events : goal.returns-clause-events
returns-clause-events c = λ objects taken t input run. ran_events objects t input (taken, run)

pub returns-clause-refusals : goal.returns-clause-refusals
returns-clause-refusals c = λ objects taken t s a want run. refusals_same objects t s a want (ran_sent objects t (taken, run))

pub returns-clause-queries : goal.returns-clause-queries
returns-clause-queries c = λ objects taken t s f run. ran_queries objects t s f (taken, run)
