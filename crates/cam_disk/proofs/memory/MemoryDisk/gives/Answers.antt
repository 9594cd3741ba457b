use Rattle.std.specs.Prelude.{min, length, IsTrue, ◌↔◌}
use Rattle.std.proofs.Common.{◌∙◌, ap, sym, subst}
use Rattle.cam_disk.specs.Disk.{Reads}
use Rattle.cam_disk.proofs.Giving.{from_place, compared}
use Rattle.cam_disk.proofs.memory.MemoryDisk.gives.Goals as goal

pub returns : goal.returns
returns c =
    let bytes = c.args.bytes.now in
    let held = c.deref.result.now in
    let begins = c.min.ensures ∙ ap (min c.args.at) (c.len.ensures ∙ sym c.deref.ensures.len) in
    let there = from_place held c.args.at c.min.result begins in
    subst (λ h. IsTrue c.eq.result ↔ Reads h c.args.at c.args.room (length bytes) bytes)
    c.deref.ensures.value
    (compared held bytes _ c.args.at c.args.room _ _ there c.min-2.ensures c.eq.ensures)
