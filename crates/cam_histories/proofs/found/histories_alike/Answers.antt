-- Histories that differ in the numbers of their letters alone.
use Rattle.cam_histories.proofs.Alike.{nodes_stand_alike, logs_keep_alike, taken_events_are_alike}
use Rattle.cam_histories.proofs.Alike.{other_histories_stay}
use Rattle.cam_histories.proofs.HaltsAlike.{histories_go_through_alike, halts_stand_alike}
use Rattle.cam_histories.proofs.HaltsAlike.{halted_logs_keep_alike}
use Rattle.cam_histories.proofs.found.histories_alike.Goals as goal

pub returns-clause-nodes : goal.returns-clause-nodes
returns-clause-nodes c = nodes_stand_alike

pub returns-clause-logs : goal.returns-clause-logs
returns-clause-logs c = logs_keep_alike

pub returns-clause-taken : goal.returns-clause-taken
returns-clause-taken c = taken_events_are_alike

pub returns-clause-through : goal.returns-clause-through
returns-clause-through c = histories_go_through_alike

pub returns-clause-halts : goal.returns-clause-halts
returns-clause-halts c = halts_stand_alike

pub returns-clause-halted_logs : goal.returns-clause-halted_logs
returns-clause-halted_logs c = halted_logs_keep_alike

pub returns-clause-others : goal.returns-clause-others
returns-clause-others c = other_histories_stay
