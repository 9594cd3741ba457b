use Rattle.std.proofs.Common.{ℕ, List, ◌≤◌, length, subst, arith}
use Rattle.cam_plain.specs.Depending.{AddsPairs}
use Rattle.cam_plain.proofs.Dependent.{commit_step}
use Rattle.cam_plain.proofs.dependencies.take_commit.Goals as goal

pub returns-in_ok-depend-in-Some : goal.returns-in_ok-depend-in-Some
returns-in_ok-depend-in-Some c =
    let named : 1 ≤ length c.args.action.now = omega (arith, c.depth.ensures.from, c.depth.ensures.value) in
    commit_step c.args.dependencies.now c.depend.new.dependencies c.args.action.now c.in-Some.parent named c.in-Some.ensures.value
    (subst (λ (ps : List (ℕ × ℕ)). AddsPairs c.args.dependencies.now c.in-Some.parent ps c.depend.new.dependencies) c.in_ok-pairs-in-Some.ensures c.in_ok-depend-in-Some.ensures)
