-- The request of an action, by what it works at and has seen.
use Rattle.std.proofs.Common.{◌≡◌, Option, refl, sym, ap, ◌∙◌, subst, arith}
use Rattle.std.proofs.lemmas.Bool.{true≢false}
use Rattle.cam_names.specs.Names.{home_node}
use Rattle.cam_event.specs.declared.Request.{Request}
use Rattle.cam_event.specs.Runs.{IsWant}
use Rattle.cam_gen.specs.Storms.{Words, objects_of}
use Rattle.cam_storm_node.specs.Following.{IsRequestOf}
use Rattle.cam_storm_node.proofs.Requested.{elsewhere, has_it, no_work, none_wanted, out_of_range, stands_against, stopped_here}
use Rattle.cam_storm_node.proofs.storm_node.StormNode.request_of.Goals.{then-contains-via-then-contains, then-contains-via-else-contains+then-home-number, else-has_want-via-then-has_want+else-is_free, else-has_want-via-else-has_want}
use Rattle.cam_storm_node.proofs.storm_node.StormNode.request_of.Goals as goal

pub returns-in_err-work : goal.returns-in_err-work
returns-in_err-work g c words s own knows =
    subst (λ (o : Option Request). IsRequestOf words s own c.args.name.now o)
    (sym c.from_residual.ensures)
    (no_work words s own c.args.name.now _ knows (sym c.in_err-work.ensures.value))

pub returns-in_err-want : goal.returns-in_err-want
returns-in_err-want g c words s own knows =
    subst (λ (o : Option Request). IsRequestOf words s own c.args.name.now o)
    (sym c.from_residual-in_err-want.ensures)
    (none_wanted words s own c.args.name.now c.in_ok-work.work.now _ knows (sym c.in_ok-work.ensures.value)
    c.in_err-want.ensures)

pub returns-then-contains : goal.returns-then-contains
returns-then-contains g c words s own knows =
    elim c.then-contains.branch [
      | then-contains-via-then-contains w ↦
          stopped_here words s own c.args.name.now c.in_ok-work.work.now _ knows (sym c.in_ok-work.ensures.value)
          (sym c.contains.ensures ∙ w.if-contains.true)
      | then-contains-via-else-contains+then-home-number w ↦
          elsewhere words s own c.args.name.now c.in_ok-work.work.now _ knows (sym c.in_ok-work.ensures.value)
          (λ here.
          let home = ap (λ p. p.0) w.home.ensures in
          let other = w.if-home-number.true in
          let value = w.number.ensures.value in
          let number = knows.number in
          absurd (omega (arith, home, other, value, number, here)))
    ]

pub returns-then-is_free : goal.returns-then-is_free
returns-then-is_free g c words s own knows =
    let a = c.args.name.now in
    let home = ap (λ p. p.0) c.home.ensures in
    let same = c.if-home-number.false in
    let value = c.number.ensures.value in
    let number = knows.number in
    let here : home_node a ≡ s = omega (arith, home, same, value, number) in
    let want = c.in_ok-want.field-0 in (
      refl,
      has_it words s own a c.in_ok-work.work.now _ knows (sym c.in_ok-work.ensures.value) want c.in_ok-want.ensures here
          (sym c.contains.ensures ∙ c.if-contains.false)
          (subst (λ (ws : Words). IsWant (objects_of ws) want) knows.words_are
          (c.has_want.ensures.0 c.if-has_want.true))
          ((c.is_free.ensures words s own knows here).0 c.if-is_free.true),
    )

pub returns-else-has_want : goal.returns-else-has_want
returns-else-has_want g c words s own knows =
    let a = c.args.name.now in
    let home = ap (λ p. p.0) c.home.ensures in
    let same = c.if-home-number.false in
    let value = c.number.ensures.value in
    let number = knows.number in
    let here : home_node a ≡ s = omega (arith, home, same, value, number) in
    let want = c.in_ok-want.field-0 in
    elim c.else-has_want.branch [
      | else-has_want-via-then-has_want+else-is_free w ↦
          stands_against words s own a c.in_ok-work.work.now _ knows (sym c.in_ok-work.ensures.value) want
          c.in_ok-want.ensures
          (λ free.
          absurd (true≢false (sym ((w.is_free.ensures words s own knows here).1 free)
          ∙ w.if-is_free.false)))
      | else-has_want-via-else-has_want w ↦
          out_of_range words s own a c.in_ok-work.work.now _ knows (sym c.in_ok-work.ensures.value) want
          c.in_ok-want.ensures
          (λ fits.
          absurd (true≢false (sym (c.has_want.ensures.1
          (subst (λ (ws : Words). IsWant (objects_of ws) want) (sym knows.words_are) fits))
          ∙ w.if-has_want.false)))
    ]
