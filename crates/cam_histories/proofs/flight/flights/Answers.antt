-- A network of a run.
use Rattle.cam_histories.proofs.Carried.{new_network_stands, event_sends}
use Rattle.cam_histories.proofs.Changing.{lose_stands, delivered_stands, halts_stand}
use Rattle.cam_histories.proofs.Handing.{handed_out_are_sent}
use Rattle.cam_histories.proofs.PutNext.{put_stands}
use Rattle.cam_histories.proofs.flight.flights.Goals as goal

pub returns-clause-new : goal.returns-clause-new
returns-clause-new c = new_network_stands

pub returns-clause-handed : goal.returns-clause-handed
returns-clause-handed c = handed_out_are_sent

pub returns-clause-event : goal.returns-clause-event
returns-clause-event c = event_sends

pub returns-clause-put : goal.returns-clause-put
returns-clause-put c = put_stands

pub returns-clause-lost : goal.returns-clause-lost
returns-clause-lost c = lose_stands

pub returns-clause-delivered : goal.returns-clause-delivered
returns-clause-delivered c = delivered_stands

pub returns-clause-halts : goal.returns-clause-halts
returns-clause-halts c = halts_stand
