use Rattle.std.proofs.Common.{◌≡◌, ◌+◌, refl, subst}
use Rattle.std.specs.Prelude.{IfNone}
use Rattle.cam_locks.specs.declared.LiveOp.{LiveOp}
use Rattle.cam_locks.specs.Members.{In}
use Rattle.cam_locks.proofs.TakenBack.{taken_back, none_taken}
use Rattle.cam_locks.proofs.kept.Kept.take_back.Goals as goal

pub returns-in_default : goal.returns-in_default
returns-in_default c =
    let old = c.args.self.now in
    none_taken old c.requires
    (subst (λ r. IfNone r ((o : LiveOp) → In o old.live.ops → old.live.next ≡ o.index + 1 → ⊥)) c.in_default.is c.newest.ensures.none)

pub returns : goal.returns
returns c =
    let old = c.args.self.now in
    taken_back old (record { objects = old.objects; committed = old.committed; live = c.take_back.new.self; locks = c.spoil_at.new.locks })
    c.in-Some.operation c.requires c.in-Some.ensures.found.0 c.in-Some.ensures.found.1 refl refl c.take_back.ensures.ops c.take_back.ensures.next
    c.spoil_at.ensures
