-- The run of a script is a run.
use Rattle.cam_runs.proofs.Range.{script_in_range}
use Rattle.cam_runs.proofs.LeadOn.{start_is_under_way, lines_lead_on}
use Rattle.cam_runs.proofs.Beginnings.{beginnings_are_runs, runs_are_runs}
use Rattle.cam_runs.proofs.runs.Goals as goal

pub returns-clause-accepted : goal.returns-clause-accepted
returns-clause-accepted c = script_in_range

pub returns-clause-start : goal.returns-clause-start
returns-clause-start c = start_is_under_way

pub returns-clause-lines : goal.returns-clause-lines
returns-clause-lines c = lines_lead_on

pub returns-clause-beginnings : goal.returns-clause-beginnings
returns-clause-beginnings c = beginnings_are_runs

pub returns-clause-whole : goal.returns-clause-whole
returns-clause-whole c = runs_are_runs
