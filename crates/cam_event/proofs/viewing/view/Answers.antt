use Rattle.std.proofs.Common.{◌≡◌, ◌+◌, List, [], ◌∷◌, ◌++◌, take, reverse, sym, ap, ◌∙◌, subst}
use Rattle.std.proofs.lemmas.List.{take_more, take_all}
use Rattle.cam_event.specs.declared.Deed.{Deed}
use Rattle.cam_event.specs.declared.Event.{Event}
use Rattle.cam_event.specs.Pasts.{plain_all}
use Rattle.cam_event.specs.Views.{view}
use Rattle.cam_event.specs.Values.{HasValues}
use Rattle.cam_event.proofs.Viewed.{plain_more}
use Rattle.cam_event.proofs.viewing.view.Goals as goal

pub loop-event-preserved : goal.loop-event-preserved
loop-event-preserved c =
    let es = c.as_slice-event-items.result.now in
    let i = c.loop-event.event-index in
    let e = c.event-item.result in
    let split : take (i + 1) es ≡ take i es ++ e ∷ [] = take_more es i e c.loop-event-test.true ∙ ap (λ (x : Event). take i es ++ x ∷ []) (sym c.event-item.is) in
    let more = sym (plain_more es i e split) in
    let went = c.in_ok-add_event.ensures (plain_all (reverse (take i es))) c.loop-event.invariant.values c.loop-event.invariant.steps in
    record {
      values = subst (λ (L : List Deed). HasValues L c.add_event.new.values) more went.0;
      steps = subst (λ (L : List Deed). c.add_event.new.steps ≡ view L c.args.name.now) more went.1;
    }

pub returns : goal.returns
returns c =
    let es = c.as_slice-event-items.result.now in
    let all : take c.loop-event.event-index es ≡ c.args.trace.now = take_all c.loop-event.event-index es c.loop-event-test.false ∙ c.as_slice-event-items.ensures in
    record { exact = subst (λ (t : List Event). c.loop-event.steps ≡ view (plain_all (reverse t)) c.args.name.now) all c.loop-event.invariant.steps }
