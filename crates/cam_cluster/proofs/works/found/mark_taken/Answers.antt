-- The last halt's mark.
use Rattle.std.proofs.Common.{◌≡◌, rules, ◌-◌, suc, drop, set, sym, ap, ◌∙◌, arith}
use Rattle.std.proofs.lemmas.Grind.{common_steps}
use Rattle.std.specs.List.{list_any}
use Rattle.cam_histories.specs.Found.{is_halt_of, with_mark_taken}
use Rattle.cam_cluster.proofs.MarksFound.{last_taken, none_taken}
use Rattle.cam_cluster.proofs.works.found.mark_taken.Goals as goal

pub returns-then-is_halt_of : goal.returns-then-is_halt_of
returns-then-is_halt_of c =
    let k = c.loop-at.at - 1 in
    let some = c.loop-at-test.true in
    let low = c.loop-at.invariant.within in
    let is : c.loop-at.at ≡ suc k = omega (arith, some) in
    ap (λ m. set c.loop-at.marks k m) c.as_taken.ensures ∙ last_taken _ _ _ _ (omega (
      arith,
      some,
      low,
    )) (sym c.is_halt_of.ensures ∙ c.if-is_halt_of.true) (sym (ap (λ n. list_any
    (is_halt_of c.args.node) (drop n c.loop-at.marks)) is) ∙ c.loop-at.invariant.none) ∙ ap
    (with_mark_taken c.args.node) c.loop-at.invariant.same

pub returns : goal.returns
returns c =
    let over = c.loop-at-test.false in
    let is : c.loop-at.at ≡ 0 = first_of (search rules, grind (arith, common_steps, over)) in
    none_taken _ _ (sym (ap (λ n. list_any (is_halt_of c.args.node) (drop n c.loop-at.marks)) is)
    ∙ c.loop-at.invariant.none) ∙ ap (with_mark_taken c.args.node) c.loop-at.invariant.same
