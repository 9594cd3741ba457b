-- A line is refused, or memory runs out.
use Rattle.std.proofs.Common.{refl}
use Rattle.cam_cluster.proofs.lines.Lines.refused.Goals as goal

pub returns-in-Ok-clause-disks : goal.returns-in-Ok-clause-disks
returns-in-Ok-clause-disks g c =
    c.refuse.ensures.disks

pub returns-in-Ok-clause-refused : goal.returns-in-Ok-clause-refused
returns-in-Ok-clause-refused g c =
    (refl, c.in-Ok.ensures.refused)

pub returns-in-Err-clause-disks : goal.returns-in-Err-clause-disks
returns-in-Err-clause-disks g c =
    c.refuse.ensures.disks

pub returns-in-Err-clause-refused : goal.returns-in-Err-clause-refused
returns-in-Err-clause-refused g c =
    c.in-Err.ensures.as_before
