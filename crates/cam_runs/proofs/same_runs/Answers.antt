-- Both readings give the same run.
use Rattle.cam_runs.proofs.SameLines.{lines_agree}
use Rattle.cam_runs.proofs.Beginnings.{beginnings_agree, readings_agree}
use Rattle.cam_runs.proofs.same_runs.Goals as goal

pub returns-clause-lines : goal.returns-clause-lines
returns-clause-lines c = lines_agree

pub returns-clause-beginnings : goal.returns-clause-beginnings
returns-clause-beginnings c = beginnings_agree

pub returns-clause-whole : goal.returns-clause-whole
returns-clause-whole c = readings_agree
