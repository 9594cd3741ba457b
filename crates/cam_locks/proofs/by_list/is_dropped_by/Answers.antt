use Rattle.std.proofs.Common.{is_some, ap, ◌∙◌}
use Rattle.cam_names.specs.Names.{ancestors}
use Rattle.cam_know.specs.Known.{knows_abort}
use Rattle.cam_locks.proofs.Bools.{some_found}
use Rattle.cam_locks.proofs.by_list.is_dropped_by.Goals as goal

pub returns : goal.returns
returns c = c.is_some.ensures ∙ ap is_some c.aborted_by.ensures ∙ some_found (knows_abort c.args.news.now) (ancestors c.args.operation.now.action)
