use Rattle.cam_commit.proofs.Stepping.{vote_step_keeps}
use Rattle.cam_commit.proofs.PrepareSteps.{prepare_step_keeps, finish_step_keeps}
use Rattle.cam_commit.proofs.OtherSteps.{other_step_keeps}
use Rattle.cam_commit.proofs.laws.one_more_step.Goals as goal

pub returns-clause-finish : goal.returns-clause-finish
returns-clause-finish c = finish_step_keeps

pub returns-clause-prepare : goal.returns-clause-prepare
returns-clause-prepare c = prepare_step_keeps

pub returns-clause-vote : goal.returns-clause-vote
returns-clause-vote c = vote_step_keeps

pub returns-clause-other : goal.returns-clause-other
returns-clause-other c = other_step_keeps
