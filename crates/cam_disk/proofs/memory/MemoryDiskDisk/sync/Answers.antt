use Rattle.std.proofs.Common.{◌∙◌, ap, subst, reverse}
use Rattle.cam_disk.specs.declared.call.Call.TheVariants.{Sync}
use Rattle.cam_disk.specs.Images.{held_after, IsImage, IsImage-held, Elapses-call_at, reverse-call}
use Rattle.cam_disk.proofs.memory.MemoryDiskDisk.sync.Goals as goal

pub returns-clause-time : goal.returns-clause-time
returns-clause-time c = Elapses-call_at c.args.self.now.calls.items c.note.new.calls.items _ c.in_ok-note.ensures.ok

pub returns-clause-crash : goal.returns-clause-crash
returns-clause-crash c =
    let old = c.args.self.now.calls.items in
    λ image now.
    (held_after (reverse old), IsImage-held (reverse old) c.args.self.now.placed, subst (λ calls. IsImage calls image) (ap reverse c.in_ok-note.ensures.ok ∙ reverse-call old Sync) now)
