use Rattle.std.proofs.Common.{◌≡◌, true, sym, subst, rules}
use mir.Syntax.{w64}
use mir.Val.{to_z, of_z}
use Rattle.cam_body.specs.Work.{child_result}
use Rattle.cam_body.specs.Work.Try.{Worked}
use Rattle.cam_body.specs.Progress.{IsAt, closed}
use Rattle.cam_body.proofs.Kept.{closed_worked}
use Rattle.cam_body.proofs.progress.Progress.closed.Goals as goal

pub returns-in-Some-clause-at : goal.returns-in-Some-clause-at
returns-in-Some-clause-at c =
    let is_open : c.args.self.is_open ≡ true = search rules in
    let whole : to_z w64 (of_z w64 c.in-Some.value) ≡ c.in-Some.value = search rules in
    λ body place h.
    subst (λ o. IsAt (closed place (child_result o)) body c.args.wanted c.worked.result) (sym c.in-Some.is)
    (subst (λ v. IsAt (closed place (Worked v)) body c.args.wanted c.worked.result) whole
    (subst (IsAt (closed place (Worked (to_z w64 (of_z w64 c.in-Some.value)))) body c.args.wanted) (sym c.worked.ensures) (closed_worked place body c.args.wanted c.args.self (to_z w64 (of_z w64 c.in-Some.value)) is_open h)))
