use Rattle.std.proofs.Common.{arith}
use Rattle.cam_log.specs.Rest.{opens}
use Rattle.cam_log.proofs.log.Log.into_disk.Goals as goal

pub returns-clause-opens : goal.returns-clause-opens
returns-clause-opens g c = λ h whole. opens c.args.self.entries c.args.self.gate (g.D.Disk.seen c.args.self.disk) (omega (arith, c.args.self.within)) (c.args.self.at_rest h whole)
