use Rattle.std.proofs.Common.{◌≡◌, false, List, if◌then◌else◌, ◌++◌, reverse, take, sym, ap, ◌∙◌, subst}
use Rattle.std.proofs.lemmas.List.{take_all}
use Rattle.std.proofs.lemmas.Option.{unwrap_or-slice_get}
use Rattle.cam_event.specs.declared.Event.{Event}
use Rattle.cam_event.specs.Pasts.{plain}
use Rattle.cam_plain.specs.Legal.{Legal, history}
use Rattle.cam_cut.specs.Kept.{is_kept}
use Rattle.cam_cut.proofs.Cutting.{stands, cut_more}
use Rattle.cam_cut.proofs.Laws.{closed_sets_are_legal, halted_sets_are_legal}
use Rattle.cam_cut.proofs.cut.cut_deeds.Goals.{then-keep-number+in_ok-extend_from_slice, else-keep-number}
use Rattle.cam_cut.proofs.cut.cut_deeds.Goals as goal

pub loop-number-preserved : goal.loop-number-preserved
loop-number-preserved c =
    let i = c.loop-number.number in
    let e = c.event-item.result in
    let keep = c.args.keep.now in
    let old = c.loop-number.deeds in
    let flag = unwrap_or-slice_get keep i false in
    cut_more c.args.trace.now i e (is_kept keep) old c.if-keep-number.deeds
    (stands c.args.trace.now c.as_slice-event-items.result.now i e c.as_slice-event-items.ensures c.loop-number-test.true c.event-item.is)
    c.loop-number.invariant
    (elim c.if-keep-number.branch [
      | then-keep-number+in_ok-extend_from_slice w ↦
          w.deeds-is ∙ w.in_ok-extend_from_slice.ensures.ok ∙ ap (λ ds. old ++ ds) w.as_slice.ensures ∙ sym (ap (λ b. if b then old ++ e.deeds else old) (flag ∙ w.if-keep-number.true))
      | else-keep-number w ↦ w.deeds-is ∙ sym (ap (λ b. if b then old ++ e.deeds else old) (flag ∙ w.if-keep-number.false))
    ])

pub returns : goal.returns
returns c =
    let t = reverse c.args.trace.now in
    let S = is_kept c.args.keep.now in
    let all : take c.loop-number.number c.args.trace.now ≡ c.args.trace.now =
    subst (λ (es : List Event). take c.loop-number.number es ≡ es) c.as_slice-event-items.ensures
    (take_all c.loop-number.number c.as_slice-event-items.result.now c.loop-number-test.false) in
    let exact : history c.loop-number.deeds ≡ plain t S = c.loop-number.invariant ∙ ap (λ (es : List Event). plain (reverse es) S) all in
    record {
      exact = exact;
      legal = λ objects run closed. subst (Legal objects) (sym exact) (closed_sets_are_legal objects t S run closed);
      halted_legal = λ objects taken run closed. subst (Legal objects) (sym exact) (halted_sets_are_legal objects taken t S run closed);
    }
