-- What undecided halts add to histories.
use Rattle.cam_histories.proofs.NewHalts.{new_halts_are_undecided, new_halts_keep_logs}
use Rattle.cam_histories.proofs.NewHalts.{undecided_are_halts}
use Rattle.cam_histories.proofs.UndecidedEvents.{undecided_stay, found_events_have_their_place}
use Rattle.cam_histories.proofs.UndecidedEvents.{found_events_are_undecided}
use Rattle.cam_histories.proofs.UndecidedEvents.{found_halts_are_decided, others_stay_undecided}
use Rattle.cam_histories.proofs.found.undecided_halts.Goals as goal

pub returns-clause-new : goal.returns-clause-new
returns-clause-new c = new_halts_are_undecided

pub returns-clause-logs : goal.returns-clause-logs
returns-clause-logs c = new_halts_keep_logs

pub returns-clause-halts : goal.returns-clause-halts
returns-clause-halts c = undecided_are_halts

pub returns-clause-stay : goal.returns-clause-stay
returns-clause-stay c = undecided_stay

pub returns-clause-place : goal.returns-clause-place
returns-clause-place c = found_events_have_their_place

pub returns-clause-history : goal.returns-clause-history
returns-clause-history c = found_events_are_undecided

pub returns-clause-decided : goal.returns-clause-decided
returns-clause-decided c = found_halts_are_decided

pub returns-clause-others : goal.returns-clause-others
returns-clause-others c = others_stay_undecided
