use Rattle.cam_commit.proofs.Calling.{quiet_keeps, prepare_keeps, vote_keeps, secure_keeps}
use Rattle.cam_commit.proofs.laws.one_more_call.Goals as goal

pub returns-clause-none : goal.returns-clause-none
returns-clause-none c = quiet_keeps

pub returns-clause-prepare : goal.returns-clause-prepare
returns-clause-prepare c = prepare_keeps

pub returns-clause-vote : goal.returns-clause-vote
returns-clause-vote c = vote_keeps

pub returns-clause-secured : goal.returns-clause-secured
returns-clause-secured c = secure_keeps
