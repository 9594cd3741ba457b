-- Halts that agree with the stop lines.
use Rattle.cam_runs.proofs.HaltsEnded.{lost_halts_agree, found_halts_agree}
use Rattle.cam_runs.proofs.LinesTell.{lines_tell, told_halts_are_taken}
use Rattle.cam_runs.proofs.StopsAgree.{puts_agree, later_halts_agree}
use Rattle.cam_runs.proofs.StopsEnd.{agreeing_runs_are_by_stops}
use Rattle.cam_runs.proofs.agreeing_halts.Goals as goal

pub returns-clause-puts : goal.returns-clause-puts
returns-clause-puts c = puts_agree

pub returns-clause-lost : goal.returns-clause-lost
returns-clause-lost c = lost_halts_agree

pub returns-clause-found : goal.returns-clause-found
returns-clause-found c = found_halts_agree

pub returns-clause-later : goal.returns-clause-later
returns-clause-later c = later_halts_agree

pub returns-clause-tell : goal.returns-clause-tell
returns-clause-tell c = lines_tell

pub returns-clause-taken : goal.returns-clause-taken
returns-clause-taken c = told_halts_are_taken

pub returns-clause-end : goal.returns-clause-end
returns-clause-end c = agreeing_runs_are_by_stops
