-- The parts of a run in which an event is found to be taken.
use Rattle.cam_histories.proofs.FoundRestart.{histories_have_the_event, logs_have_the_event}
use Rattle.cam_histories.proofs.FoundRestart.{views_stay, stops_stay, restarts_find_the_event}
use Rattle.cam_histories.proofs.FoundWhole.{wholes_stand}
use Rattle.cam_histories.proofs.found.wholes_found.Goals as goal

pub returns-clause-stand : goal.returns-clause-stand
returns-clause-stand c = wholes_stand

pub returns-clause-own : goal.returns-clause-own
returns-clause-own c = histories_have_the_event

pub returns-clause-history : goal.returns-clause-history
returns-clause-history c = logs_have_the_event

pub returns-clause-views : goal.returns-clause-views
returns-clause-views c = views_stay

pub returns-clause-stops : goal.returns-clause-stops
returns-clause-stops c = stops_stay

pub returns-clause-restart : goal.returns-clause-restart
returns-clause-restart c = restarts_find_the_event
