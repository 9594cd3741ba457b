use Rattle.cam_locks.proofs.SecuredRuns.{along}
use Rattle.cam_locks.proofs.LaterMoments.{grant_later, outcome_later, later_on}
use Rattle.cam_locks.proofs.laws.secured_along_a_run.Goals as goal

pub returns-clause-grants : goal.returns-clause-grants
returns-clause-grants c = grant_later

pub returns-clause-outcomes : goal.returns-clause-outcomes
returns-clause-outcomes c = outcome_later

pub returns-clause-later : goal.returns-clause-later
returns-clause-later c = later_on

pub returns-clause-restorable : goal.returns-clause-restorable
returns-clause-restorable c = along
