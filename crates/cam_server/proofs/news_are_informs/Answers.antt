use Rattle.cam_server.proofs.NewsInforms.{news_inform, decision_informs, nothing_informs, informs_join}
use Rattle.cam_server.proofs.news_are_informs.Goals as goal

pub returns-clause-news : goal.returns-clause-news
returns-clause-news c = news_inform

pub returns-clause-decision : goal.returns-clause-decision
returns-clause-decision c = decision_informs

pub returns-clause-nothing : goal.returns-clause-nothing
returns-clause-nothing c = nothing_informs

pub returns-clause-joined : goal.returns-clause-joined
returns-clause-joined c = informs_join
