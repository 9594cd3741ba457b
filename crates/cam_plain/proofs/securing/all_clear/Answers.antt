use Rattle.std.proofs.Common.{◌≡◌, true, false, sym, ap, ◌∙◌, arith}
use Rattle.std.specs.List.{list_all}
use Rattle.cam_plain.specs.Legal.{history}
use Rattle.cam_plain.specs.Marks.{is_clear}
use Rattle.cam_plain.proofs.Marking.{mark_failed, mark_passed}
use Rattle.cam_plain.proofs.securing.all_clear.Goals as goal

pub returns-then-not-is_clear : goal.returns-then-not-is_clear
returns-then-not-is_clear c =
    let test = is_clear (history c.args.before.now.deeds.now) c.args.site c.args.family.now in
    let found : c.is_clear.result ≡ false = grind arith in
    mark_failed test c.as_slice-mark-items.result.now c.loop-mark.mark-index c.mark-item.result c.loop-mark-test.true c.mark-item.is c.loop-mark.invariant (sym c.is_clear.ensures ∙ found)
    ∙ ap (list_all test) c.as_slice-mark-items.ensures

pub loop-mark-preserved : goal.loop-mark-preserved
loop-mark-preserved c =
    let test = is_clear (history c.args.before.now.deeds.now) c.args.site c.args.family.now in
    let found : c.is_clear.result ≡ true = grind arith in
    mark_passed test c.as_slice-mark-items.result.now c.loop-mark.mark-index c.mark-item.result c.loop-mark-test.true c.mark-item.is c.loop-mark.invariant (sym c.is_clear.ensures ∙ found)
