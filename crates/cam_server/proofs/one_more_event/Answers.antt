use Rattle.cam_server.proofs.Performing.{perform_keeps}
use Rattle.cam_server.proofs.Serving.{same_serves, informs_keep}
use Rattle.cam_server.proofs.one_more_event.Goals as goal

pub returns-clause-same : goal.returns-clause-same
returns-clause-same c = same_serves

pub returns-clause-informs : goal.returns-clause-informs
returns-clause-informs c = informs_keep

pub returns-clause-perform : goal.returns-clause-perform
returns-clause-perform c = perform_keeps
