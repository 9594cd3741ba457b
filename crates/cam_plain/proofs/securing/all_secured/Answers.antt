use Rattle.std.proofs.Common.{◌≡◌, true, false, sym, ap, ◌∙◌, arith}
use Rattle.std.specs.List.{list_all}
use Rattle.cam_event.specs.History.{secured}
use Rattle.cam_plain.specs.Legal.{history}
use Rattle.cam_plain.proofs.Handing.{pair_failed, pair_passed}
use Rattle.cam_plain.proofs.securing.all_secured.Goals as goal

pub returns-then-not-is_secured : goal.returns-then-not-is_secured
returns-then-not-is_secured c =
    let found : c.is_secured.result ≡ false = grind arith in
    pair_failed (λ s t. secured (history c.args.before.now.deeds.now) c.args.family.now s t) c.as_slice-pair-items.result.now c.loop-pair.pair-index (0, 0)
    c.loop-pair-test.true c.loop-pair.invariant (sym c.is_secured.ensures ∙ found)
    ∙ ap (list_all (λ p. secured (history c.args.before.now.deeds.now) c.args.family.now p.0 p.1)) c.as_slice-pair-items.ensures

pub loop-pair-preserved : goal.loop-pair-preserved
loop-pair-preserved c =
    let found : c.is_secured.result ≡ true = grind arith in
    pair_passed (λ s t. secured (history c.args.before.now.deeds.now) c.args.family.now s t) c.as_slice-pair-items.result.now c.loop-pair.pair-index (0, 0)
    c.loop-pair-test.true c.loop-pair.invariant (sym c.is_secured.ensures ∙ found)
