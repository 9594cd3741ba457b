-- Which events of a run have a log entry, and what it adds.
use Rattle.cam_histories.proofs.LogEntries.{entries_add, entries_are_appended}
use Rattle.cam_histories.proofs.AddsAlike.{adds_alike}
use Rattle.cam_histories.proofs.steps.log_entries.Goals as goal

pub returns-clause-appended : goal.returns-clause-appended
returns-clause-appended c = entries_are_appended

pub returns-clause-add : goal.returns-clause-add
returns-clause-add c = entries_add

pub returns-clause-alike : goal.returns-clause-alike
returns-clause-alike c = adds_alike
