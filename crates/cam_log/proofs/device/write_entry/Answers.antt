use Rattle.std.proofs.Common.{rules, ◌+◌, ◌∷◌, ◌++◌, [], ℕ, List, length, IsTrue, inl, inr, ⊎_elim, sym, ◌∙◌, ap, subst, arith}
use Rattle.std.proofs.lemmas.Result.{on_ok_weaker}
use Rattle.cam_log.specs.Image.{appended}
use Rattle.cam_log.specs.Moments.{IsAtRest}
use Rattle.cam_log.proofs.CutOff.{rose_later, cut_sooner, cut_later, first_cut, second_cut}
use Rattle.cam_log.proofs.Grown.{grows_weaker, grows_then}
use Rattle.cam_log.proofs.Stages.{Staged, written_behind, written_gate, first_write, second_write, appended_bytes}
use Rattle.cam_disk.specs.Disk.{Holds}
use Rattle.cam_log.proofs.device.write_entry.Goals as goal

-- the first write leaves the entries as they were
pub returns-in_err-force-clause-any_moment : goal.returns-in_err-force-clause-any_moment
returns-in_err-force-clause-any_moment g c = λ h entries entry is rests.
    let old = g.D.Disk.seen c.args.disk.now in
    grows_weaker (λ image written. first_write entries c.args.gate (length c.args.behind.now) entry old image (g.D.Disk.may_leave c.args.disk.now) (omega (arith, c.requires.within)) rests (c.requires.only h) written)
    (c.in_err-force.ensures.any_moment h)

pub returns-clause-at_rest : goal.returns-clause-at_rest
returns-clause-at_rest g c = λ h.
    let old = g.D.Disk.seen c.args.disk.now in
    let mid = g.D.Disk.seen c.force.new.disk in
    let new = g.D.Disk.seen c.force-2.new.disk in
    let still : IsTrue (g.D.Disk.tells c.force.new.disk) = c.in_ok-force.ensures.tells ∙ h in
    on_ok_weaker c.force-2.result (λ holds entries entry is rests.
    let staged : Staged entries c.args.gate (appended entry) mid = subst (λ (text : List ℕ). Staged entries c.args.gate text mid) is (written_behind entries c.args.gate c.args.behind.now old mid rests (c.in_ok-force.ensures.written h)) in
    subst (λ (n : ℕ). IsAtRest (entries ++ entry ∷ []) (c.args.gate + n) new) (sym (ap (λ (text : List ℕ). length text) is)) (written_gate entries c.args.gate entry mid new staged holds))
    (c.force-2.ensures.written still)

-- the second leaves them with the new entry or without
pub returns-clause-any_moment : goal.returns-clause-any_moment
returns-clause-any_moment g c = λ h entries entry is rests.
    let old = g.D.Disk.seen c.args.disk.now in
    let mid = g.D.Disk.seen c.force.new.disk in
    let still : IsTrue (g.D.Disk.tells c.force.new.disk) = c.in_ok-force.ensures.tells ∙ h in
    let staged : Staged entries c.args.gate (appended entry) mid = subst (λ (text : List ℕ). Staged entries c.args.gate text mid) is (written_behind entries c.args.gate c.args.behind.now old mid rests (c.in_ok-force.ensures.written h)) in
    grows_then
    (grows_weaker (λ image written. first_write entries c.args.gate (length c.args.behind.now) entry old image (g.D.Disk.may_leave c.args.disk.now) (omega (arith, c.requires.within)) rests (c.requires.only h) written) (c.in_ok-force.ensures.any_moment h))
    (grows_weaker (λ image written. second_write entries c.args.gate entry mid image (g.D.Disk.may_leave c.force.new.disk) (omega (arith, c.in_ok-force.ensures.limit, ap (λ (text : List ℕ). length text) is)) staged (c.in_ok-force.ensures.durable h) written) (c.force-2.ensures.any_moment still))

pub returns-clause-bytes : goal.returns-clause-bytes
returns-clause-bytes g c = λ h.
    let old = g.D.Disk.seen c.args.disk.now in
    let mid = g.D.Disk.seen c.force.new.disk in
    let new = g.D.Disk.seen c.force-2.new.disk in
    let still : IsTrue (g.D.Disk.tells c.force.new.disk) = c.in_ok-force.ensures.tells ∙ h in
    on_ok_weaker c.force-2.result (λ holds entries entry is rests.
    let first : Holds old (c.args.gate + 1) (appended entry) mid = subst (λ (text : List ℕ). Holds old (c.args.gate + 1) text mid) is (c.in_ok-force.ensures.written h) in
    appended_bytes entries c.args.gate entry old mid new rests first holds)
    (c.force-2.ensures.written still)

-- where it was cut off before the entry was forced, the entries are those before
pub returns-in_err-force-clause-cut_off : goal.returns-in_err-force-clause-cut_off
returns-in_err-force-clause-cut_off g c = λ failed.
    let old = g.D.Disk.seen c.args.disk.now in
    let new = g.D.Disk.seen c.force.new.disk in
    ⊎_elim (λ rose. inl rose) (λ cut. inr (cut_sooner 2 4 _ _ _ _ (omega arith)
    (λ calls fewer did h entries entry is rests.
    first_cut calls c.args.gate entries entry c.args.behind.now old new fewer (omega (arith, c.requires.within)) rests (did h)) cut))
    (c.in_err-force.ensures.cut_off (search rules))

-- else they have the new one where the gate was opened
pub returns-clause-cut_off : goal.returns-clause-cut_off
returns-clause-cut_off g c = λ failed.
    let old = g.D.Disk.seen c.args.disk.now in
    let mid = g.D.Disk.seen c.force.new.disk in
    let new = g.D.Disk.seen c.force-2.new.disk in
    ⊎_elim (λ rose. inl (rose_later (g.D.Disk.faults_within c.args.disk.now) (g.D.Disk.faults_within c.force.new.disk) (g.D.Disk.faults_within c.force-2.new.disk) c.in_ok-force.ensures.faults_within rose))
    (λ cut. inr (cut_later 2 2 (g.D.Disk.passes c.args.disk.now) (g.D.Disk.passes c.force.new.disk) (g.D.Disk.passes c.force-2.new.disk) _ _ c.in_ok-force.ensures.spent
    (λ calls fewer did h entries entry is rests.
    let still : IsTrue (g.D.Disk.tells c.force.new.disk) = c.in_ok-force.ensures.tells ∙ h in
    let staged : Staged entries c.args.gate (appended entry) mid = subst (λ (text : List ℕ). Staged entries c.args.gate text mid) is (written_behind entries c.args.gate c.args.behind.now old mid rests (c.in_ok-force.ensures.written h)) in
    second_cut calls c.args.gate entries entry mid new fewer (omega (arith, c.in_ok-force.ensures.limit, ap (λ (text : List ℕ). length text) is)) staged (did still)) cut))
    (c.force-2.ensures.cut_off failed)
