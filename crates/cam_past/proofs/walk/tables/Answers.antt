use Rattle.std.proofs.Common.{◌∙◌, ◌+◌, ◌∷◌, [], ap, length, reverse, subst, sym, length-append}
use Rattle.cam_past.specs.Tables.{AreTables}
use Rattle.cam_past.proofs.Tables.{tables_more}
use Rattle.cam_past.proofs.walk.tables.Goals as goal

pub loop-number-preserved : goal.loop-number-preserved
loop-number-preserved c =
    let t = reverse c.args.trace.now in
    let number = c.loop-number.number in
    let made = c.in_ok-walk.field-0.clocks in (
      ap length c.in_ok-push-2.ensures.ok ∙ length-append c.loop-number.tables (made ∷ []) ∙ ap (λ n. n + 1) c.loop-number.invariant.0,
      subst (AreTables t (number + 1)) (sym c.in_ok-push-2.ensures.ok)
          (tables_more t number c.loop-number.tables made c.loop-number.invariant.0 c.loop-number.invariant.1 c.in_ok-walk.ensures.clocks),
    )
