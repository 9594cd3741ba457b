use Rattle.cam_tranman.proofs.StepDeeds.{rules_make_them}
use Rattle.cam_tranman.proofs.ComesOne.{deeds_may_come}
use Rattle.cam_tranman.proofs.Restarting.{restart_keeps}
use Rattle.cam_tranman.proofs.StepKeeping.{step_keeps}
use Rattle.cam_tranman.proofs.one_more_step.Goals as goal

pub returns-clause-deeds : goal.returns-clause-deeds
returns-clause-deeds c = rules_make_them

pub returns-clause-may : goal.returns-clause-may
returns-clause-may c = deeds_may_come

pub returns-clause-restart : goal.returns-clause-restart
returns-clause-restart c = restart_keeps

pub returns-clause-step : goal.returns-clause-step
returns-clause-step c = step_keeps
