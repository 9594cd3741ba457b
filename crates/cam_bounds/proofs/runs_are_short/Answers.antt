-- The runs of accepted scripts are short.
use Rattle.cam_bounds.proofs.Moments.{inputs_only_grow}
use Rattle.cam_bounds.proofs.Short.{beginnings_are_short, halted_runs_are_short, runs_are_short}
use Rattle.cam_bounds.proofs.runs_are_short.Goals as goal

pub returns-clause-beginnings : goal.returns-clause-beginnings
returns-clause-beginnings c = beginnings_are_short

pub returns-clause-moments : goal.returns-clause-moments
returns-clause-moments c = inputs_only_grow

pub returns-clause-halted : goal.returns-clause-halted
returns-clause-halted c = halted_runs_are_short

pub returns-clause-whole : goal.returns-clause-whole
returns-clause-whole c = runs_are_short
