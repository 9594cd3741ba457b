use Rattle.std.proofs.Common.{◌≡◌, ◌∙◌, ◌≤◌, List, ℕ, Some, arith, sym, subst}
use Rattle.std.proofs.lemmas.Option.{same_Some}
use Rattle.cam_ckpt.specs.Again.{generation_found, rests_of}
use Rattle.cam_ckpt.specs.Opening.{standing_of}
use Rattle.cam_ckpt.specs.Reading.{generation_of}
use Rattle.cam_ckpt.proofs.ckpt.CkptCheckpointLog.reopen.Goals as goal

-- what was read is one of the things that a crash now leaves
pub returns-clause-read : goal.returns-clause-read
returns-clause-read g c = λ h.
    let disk = c.args.self.now.disk in
    let seen = g.D.Disk.seen disk in
    let now : g.D.Disk.moment disk ≤ g.D.Disk.moment disk = omega arith in
    (seen, g.met.D.Disk.counts_now disk (g.D.Disk.moment disk) seen h now (g.met.D.Disk.kept disk h), c.in_ok-self.ensures.read h)

-- the present slot has the number
pub returns-clause-disk_generation : goal.returns-clause-disk_generation
returns-clause-disk_generation g c = λ h.
    let s = standing_of c.in_ok-self.field-0 in
    let seen = g.D.Disk.seen c.read_in.new.disk in
    subst (λ (bytes : List ℕ). generation_of bytes ≡ Some s.generation) (c.read_in.ensures.seen h)
    (generation_found s seen (rests_of s seen (c.in_ok-self.ensures.opened h).rests))

pub returns-clause-generation : goal.returns-clause-generation
returns-clause-generation g c = λ h whole.
    let was = standing_of c.args.self.now.state in
    let seen = g.D.Disk.seen c.args.self.now.disk in
    same_Some _ _
    (sym (returns-clause-disk_generation g c h)
    ∙ generation_found was seen (rests_of was seen (c.args.self.now.opened h whole).rests))
