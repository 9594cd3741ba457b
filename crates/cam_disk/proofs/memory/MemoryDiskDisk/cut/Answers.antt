use Rattle.cam_disk.specs.Images.{Elapses-call_at}
use Rattle.cam_disk.proofs.memory.MemoryDiskDisk.cut.Goals as goal

pub returns-clause-time : goal.returns-clause-time
returns-clause-time c = Elapses-call_at c.args.self.now.calls.items c.note.new.calls.items _ c.in_ok-note.ensures.ok
