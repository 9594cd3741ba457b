-- The nodes in the run of a script.
use Rattle.cam_histories.proofs.ScriptNodes.{beginnings_hold, standings_hold, halted_scripts_hold}
use Rattle.cam_histories.proofs.scripts.Goals as goal

pub returns-clause-beginnings : goal.returns-clause-beginnings
returns-clause-beginnings c = beginnings_hold

pub returns-clause-standings : goal.returns-clause-standings
returns-clause-standings c = standings_hold

pub returns-clause-halted : goal.returns-clause-halted
returns-clause-halted c = halted_scripts_hold
