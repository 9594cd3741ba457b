use Rattle.std.proofs.Common.{◌≡◌, ◌≤◌, Bool, true, ◌&&◌, length, sym, ap, ◌∙◌, arith}
use Rattle.std.specs.List.{list_all}
use Rattle.cam_event.specs.History.{secured}
use Rattle.cam_event.specs.Gained.{deps}
use Rattle.cam_plain.specs.Depending.{pairs_in}
use Rattle.cam_plain.specs.Legal.{history}
use Rattle.cam_plain.specs.Tests.{is_at_home, may_commit_test}
use Rattle.cam_plain.proofs.Handing.{same_pairs}
use Rattle.cam_plain.proofs.securing.is_let_commit.Goals as goal

pub returns-then-at_home : goal.returns-then-at_home
returns-then-at_home c =
    let L = history c.args.before.now.deeds.now in
    let objects = c.args.before.now.objects.now in
    let a = c.args.action.now in
    let named : 1 ≤ length a = omega (arith, c.depth.ensures.from, c.depth.ensures.value) in
    let at_home : is_at_home L a ≡ true = sym c.is_at_home-at_home.ensures ∙ c.if-at_home.true in
    c.is_secured-secured.ensures
    ∙ same_pairs (λ s t. secured L a s t) (pairs_in c.args.before.now.tables.now.dependencies a) (deps objects L a) (λ s t. c.requires.kept.dependencies a s t named)
    ∙ ap (λ (b : Bool). b && list_all (λ p. secured L a p.0 p.1) (deps objects L a)) (sym at_home)
    ∙ ap (may_commit_test objects L a) c.in-None.ensures.value
