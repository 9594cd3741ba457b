-- The laws of images.
use Rattle.cam_log.specs.Again.{logs_are_read, written_is_read, closed_is_not_there, opened_is_there}
use Rattle.cam_log.proofs.Exactly.{read_is_log}
use Rattle.cam_log.proofs.laws.images.Goals as goal

pub returns-clause-logs : goal.returns-clause-logs
returns-clause-logs c = logs_are_read

pub returns-clause-written : goal.returns-clause-written
returns-clause-written c = written_is_read

pub returns-clause-closed : goal.returns-clause-closed
returns-clause-closed c = closed_is_not_there

pub returns-clause-opened : goal.returns-clause-opened
returns-clause-opened c = opened_is_there

pub returns-clause-exactly : goal.returns-clause-exactly
returns-clause-exactly c = read_is_log
