use Rattle.std.proofs.Common.{◌≡◌, List, ℕ, Some, subst}
use Rattle.cam_ckpt.specs.Reading.{generation_of}
use Rattle.cam_ckpt.specs.Opening.{standing_of}
use Rattle.cam_ckpt.specs.Again.{generation_found, rests_of}
use Rattle.cam_ckpt.proofs.ckpt.Ckpt.open.Goals as goal

pub returns-in-Ok-clause-generation : goal.returns-in-Ok-clause-generation
returns-in-Ok-clause-generation g c = λ h.
    let s = standing_of c.in-Ok.state in
    let seen = g.D.Disk.seen c.read_in.new.disk in
    subst (λ (bytes : List ℕ). generation_of bytes ≡ Some s.generation) (c.read_in.ensures.seen h) (generation_found s seen (rests_of s seen (c.in-Ok.ensures.opened h).rests))
