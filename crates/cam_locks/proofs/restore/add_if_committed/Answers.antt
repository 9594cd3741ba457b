use Rattle.std.proofs.Common.{List, ◌++◌, ap, sym, ◌∙◌}
use Rattle.std.proofs.lemmas.Result.{on_ok_weaker}
use Rattle.cam_names.specs.declared.name.Name.{Name}
use Rattle.cam_know.specs.declared.Outcome.{Outcome}
use Rattle.cam_know.specs.Known.{committed_name}
use Rattle.cam_locks.specs.Names.{with_name, once}
use Rattle.cam_locks.proofs.RestoredLists.{once_more}
use Rattle.cam_locks.proofs.restore.add_if_committed.Goals as goal

pub returns-in-Committed : goal.returns-in-Committed
returns-in-Committed c =
    on_ok_weaker c.add.result
    (λ h before is.
    h ∙ ap (λ (ns : List Name). with_name ns c.in-Committed.name) is ∙ once_more before c.in-Committed.name
    ∙ ap (λ (o : Outcome). once (before ++ committed_name o)) (sym c.in-Committed.is)) c.add.ensures.ok
