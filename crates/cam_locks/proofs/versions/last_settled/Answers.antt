use Rattle.std.proofs.Common.{◌≡◌, ◌-◌, ℕ, drop, suc, true, None, sym, subst, ◌∙◌, arith}
use Rattle.cam_locks.specs.Changes.{is_current, last_current}
use Rattle.cam_locks.proofs.LastVersions.{current_found}
use Rattle.cam_locks.proofs.versions.last_settled.Goals as goal

pub returns-then-is_settled : goal.returns-then-is_settled
returns-then-is_settled c =
    let test = is_current c.args.committed.now.names c.args.live.now.ops true in
    let vs = c.args.versions.now in
    let p = c.loop-place.place in
    let inv = c.loop-place.invariant in
    let at : p ≡ suc (p - 1) = omega (arith, c.loop-place-test.true) in
    let within = inv.1 in
    current_found test vs (p - 1) c.index-versions-place.result (omega (arith, within, c.loop-place-test.true)) c.index-versions-place.is (sym c.is_settled.ensures ∙ c.if-is_settled.true)
    (subst (λ (k : ℕ). last_current test (drop k vs) ≡ None) at inv.0)
