use Rattle.std.proofs.Common.{rules, ◌+◌, ◌<◌, ℕ, List, length, IsTrue, inl, inr, ⊎_elim, ◌∙◌, ap, arith}
use Rattle.std.proofs.lemmas.Result.{on_ok_weaker}
use Rattle.cam_log.specs.Image.{appended}
use Rattle.cam_log.proofs.CutOff.{rose_later, cut_sooner, cut_later}
use Rattle.cam_log.proofs.Grown.{grows_weaker, grows_then}
use Rattle.cam_ckpt.proofs.Appending.{Staged}
use Rattle.cam_ckpt.proofs.Devices.{first_leaves, staged_by, second_leaves, second_holds, gate_stays, first_cut, second_cut}
use Rattle.cam_ckpt.proofs.device.write_entry.Goals as goal

-- the first write leaves the entries as they were
pub returns-in_err-force-clause-any_moment : goal.returns-in_err-force-clause-any_moment
returns-in_err-force-clause-any_moment g c = λ h s entry is place rests.
    let old = g.D.Disk.seen c.args.disk.now in
    grows_weaker (λ image written. first_leaves s c.args.gate (length c.args.behind.now) entry old image (g.D.Disk.may_leave c.args.disk.now) place rests (c.requires.only h) written) (c.in_err-force.ensures.any_moment h)

pub returns-clause-at_rest : goal.returns-clause-at_rest
returns-clause-at_rest g c = λ h.
    let old = g.D.Disk.seen c.args.disk.now in
    let mid = g.D.Disk.seen c.force.new.disk in
    let new = g.D.Disk.seen c.force-2.new.disk in
    let still : IsTrue (g.D.Disk.tells c.force.new.disk) = c.in_ok-force.ensures.tells ∙ h in
    on_ok_weaker c.force-2.result (λ holds s entry is place rests.
    let small : c.args.gate + length (appended entry) < 18446744073709551616 = omega (arith, c.in_ok-force.ensures.limit, ap (λ (text : List ℕ). length text) is) in
    let staged : Staged s entry mid = staged_by s c.args.gate entry c.args.behind.now old mid is place rests (c.in_ok-force.ensures.written h) in
    (second_holds s c.args.gate entry mid new place small staged holds, gate_stays s c.args.gate entry c.args.behind.now old mid new place rests staged (c.in_ok-force.ensures.written h) holds))
    (c.force-2.ensures.written still)

-- the second leaves them with the new entry or without
pub returns-clause-any_moment : goal.returns-clause-any_moment
returns-clause-any_moment g c = λ h s entry is place rests.
    let old = g.D.Disk.seen c.args.disk.now in
    let mid = g.D.Disk.seen c.force.new.disk in
    let still : IsTrue (g.D.Disk.tells c.force.new.disk) = c.in_ok-force.ensures.tells ∙ h in
    let small : c.args.gate + length (appended entry) < 18446744073709551616 = omega (arith, c.in_ok-force.ensures.limit, ap (λ (text : List ℕ). length text) is) in
    let staged : Staged s entry mid = staged_by s c.args.gate entry c.args.behind.now old mid is place rests (c.in_ok-force.ensures.written h) in
    grows_then
    (grows_weaker (λ image written. first_leaves s c.args.gate (length c.args.behind.now) entry old image (g.D.Disk.may_leave c.args.disk.now) place rests (c.requires.only h) written) (c.in_ok-force.ensures.any_moment h))
    (grows_weaker (λ image written. second_leaves s c.args.gate entry mid image (g.D.Disk.may_leave c.force.new.disk) place small staged (c.in_ok-force.ensures.durable h) written) (c.force-2.ensures.any_moment still))

pub returns-clause-bytes : goal.returns-clause-bytes
returns-clause-bytes g c = λ h.
    let still : IsTrue (g.D.Disk.tells c.force.new.disk) = c.in_ok-force.ensures.tells ∙ h in
    on_ok_weaker c.force-2.result (λ holds. (g.D.Disk.seen c.force.new.disk, c.in_ok-force.ensures.written h, holds)) (c.force-2.ensures.written still)

-- where it was cut off before the entry was forced, the entries are those before
pub returns-in_err-force-clause-cut_off : goal.returns-in_err-force-clause-cut_off
returns-in_err-force-clause-cut_off g c = λ failed.
    let old = g.D.Disk.seen c.args.disk.now in
    let new = g.D.Disk.seen c.force.new.disk in
    ⊎_elim (λ rose. inl rose) (λ cut. inr (cut_sooner 2 4 _ _ _ _ (omega arith)
    (λ calls fewer did h s entry is place rests.
    first_cut calls s c.args.gate entry c.args.behind.now old new fewer is place rests (did h)) cut))
    (c.in_err-force.ensures.cut_off (search rules))

-- else they have the new one where the gate was opened
pub returns-clause-cut_off : goal.returns-clause-cut_off
returns-clause-cut_off g c = λ failed.
    let old = g.D.Disk.seen c.args.disk.now in
    let mid = g.D.Disk.seen c.force.new.disk in
    let new = g.D.Disk.seen c.force-2.new.disk in
    ⊎_elim (λ rose. inl (rose_later (g.D.Disk.faults_within c.args.disk.now) (g.D.Disk.faults_within c.force.new.disk) (g.D.Disk.faults_within c.force-2.new.disk) c.in_ok-force.ensures.faults_within rose))
    (λ cut. inr (cut_later 2 2 (g.D.Disk.passes c.args.disk.now) (g.D.Disk.passes c.force.new.disk) (g.D.Disk.passes c.force-2.new.disk) _ _ c.in_ok-force.ensures.spent
    (λ calls fewer did h s entry is place rests.
    let still : IsTrue (g.D.Disk.tells c.force.new.disk) = c.in_ok-force.ensures.tells ∙ h in
    let staged : Staged s entry mid = staged_by s c.args.gate entry c.args.behind.now old mid is place rests (c.in_ok-force.ensures.written h) in
    second_cut calls s c.args.gate entry mid new fewer place (omega (arith, c.in_ok-force.ensures.limit, ap (λ (text : List ℕ). length text) is)) staged (did still)) cut))
    (c.force-2.ensures.cut_off failed)
