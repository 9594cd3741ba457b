-- An event that is put into a trace.
use Rattle.cam_histories.proofs.PutIn.{letters_are_moved, loads_are_moved, histories_are_moved}
use Rattle.cam_histories.proofs.PutIn.{refusals_stay, query_refusals_stay, events_are_moved}
use Rattle.cam_histories.proofs.found.events_put_in.Goals as goal

pub returns-clause-letters : goal.returns-clause-letters
returns-clause-letters c = letters_are_moved

pub returns-clause-loads : goal.returns-clause-loads
returns-clause-loads c = loads_are_moved

pub returns-clause-histories : goal.returns-clause-histories
returns-clause-histories c = histories_are_moved

pub returns-clause-refusals : goal.returns-clause-refusals
returns-clause-refusals c = refusals_stay

pub returns-clause-queries : goal.returns-clause-queries
returns-clause-queries c = query_refusals_stay

pub returns-clause-events : goal.returns-clause-events
returns-clause-events c = events_are_moved
