-- The last disk, behind those before it.
use Rattle.cam_storm_run.proofs.Founded.{awake, out_last}
use Rattle.cam_storm_run.proofs.founding.+take_out.Goals as goal

pub returns-in-Some-clause-out : goal.returns-in-Some-clause-out
returns-in-Some-clause-out g t c =
    out_last _ g.D.Disk.faults g.D.Disk.moment g.D.Disk.left_since c.pop.new.self.items
    c.args.cores.now.items c.take_out.new.disks.items c.push_owned.new.list.items c.in-Some.core
    c.into_disk.result c.in-Some.ensures.items c.push_owned.ensures.items c.take_out.ensures.out
    (record {
      faults = c.into_disk.ensures.faults;
      rest = λ on image left. c.into_disk.ensures.rest (awake _ _ on) image left;
    })
