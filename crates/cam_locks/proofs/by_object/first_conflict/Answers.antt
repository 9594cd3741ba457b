use Rattle.std.proofs.Common.{refl, arith}
use Rattle.cam_locks.specs.Changes.{TidiedTo}
use Rattle.cam_locks.proofs.EachObject.{each_set}
use Rattle.cam_locks.proofs.by_object.first_conflict.Goals as goal

pub returns-clause-tidied : goal.returns-clause-tidied
returns-clause-tidied c =
    each_set (TidiedTo c.args.committed.now.names c.args.live.now.ops) c.args.locks.now.items c.args.asked.now.object c.index_mut.result.now c.first_conflict.new.self
    (omega (arith, c.requires, c.args.locks.now.ok)) c.index_mut.ensures.value c.first_conflict.ensures.tidied (λ x l apart. record { stale = refl; kept = λ y start next h. h })
