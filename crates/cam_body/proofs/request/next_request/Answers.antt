use Rattle.std.proofs.Common.{◌≡◌, ◌≤◌, ◌<◌, false, ap, sym, ◌∙◌, rules, arith}
use Rattle.std.specs.Option.{option_copied}
use Rattle.cam_body.specs.Work.{has_ended, tries_of}
use Rattle.cam_body.specs.declared.Next.TheVariants as nexts
use Rattle.cam_body.proofs.Kept.{over, aborts, asks}
use Rattle.cam_body.proofs.request.next_request.Goals as goal

pub returns-in-None : goal.returns-in-None
returns-in-None c =
    let going : has_ended c.args.view.now ≡ false = search rules in
    let closed : c.progress_of-at.result.is_open ≡ false = search rules in
    over c.args.body.now c.args.view.now 0 c.progress_of-at.result going closed (c.progress_of-at.ensures c.args.body.now) (ap option_copied (sym c.in-None.is) ∙ c.get.ensures)

pub returns-then-at-tries_of : goal.returns-then-at-tries_of
returns-then-at-tries_of c =
    let going : has_ended c.args.view.now ≡ false = search rules in
    let closed : c.progress_of-at.result.is_open ≡ false = search rules in
    let tried : tries_of c.in-Some.statement.now ≤ c.progress_of-at.result.failed = omega (arith, c.tries_of.ensures, c.if-at-tries_of.true) in
    aborts c.args.body.now c.args.view.now 0 c.progress_of-at.result c.in-Some.statement.now going closed (c.progress_of-at.ensures c.args.body.now) (ap option_copied (sym c.in-Some.is) ∙ c.get.ensures) tried

pub returns-else-at-tries_of : goal.returns-else-at-tries_of
returns-else-at-tries_of c =
    let going : has_ended c.args.view.now ≡ false = search rules in
    let closed : c.progress_of-at.result.is_open ≡ false = search rules in
    let untried : c.progress_of-at.result.failed < tries_of c.in-Some.statement.now = omega (arith, c.tries_of.ensures, c.if-at-tries_of.false) in
    ap nexts.Request (c.want_of.ensures c.args.body.now)
    ∙ asks c.args.body.now c.args.view.now 0 c.progress_of-at.result c.in-Some.statement.now going closed (c.progress_of-at.ensures c.args.body.now) (ap option_copied (sym c.in-Some.is) ∙ c.get.ensures) untried
