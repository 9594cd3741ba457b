use Rattle.std.proofs.Common.{◌≡◌, true, false, List, reverse, take, Some, if◌then◌else◌, sym, ap, ◌∙◌, subst}
use Rattle.std.proofs.lemmas.List.{take_all}
use Rattle.cam_event.specs.declared.Event.{Event}
use Rattle.cam_event.specs.History.{created}
use Rattle.cam_event.specs.Pasts.{plain_all}
use Rattle.std.specs.Prelude.{MatchOption}
use Rattle.cam_cut.specs.Watched.{Watches}
use Rattle.cam_cut.specs.Witness.{last_step}
use Rattle.cam_cut.proofs.Cutting.{stands, last_more, last_found}
use Rattle.cam_cut.proofs.witnesses.last_step.Goals.{then-branch, else-branch}
use Rattle.cam_cut.proofs.witnesses.last_step.Goals as goal

pub loop-number-preserved : goal.loop-number-preserved
loop-number-preserved c =
    let events = c.args.trace.now in
    let a = c.args.name.now in
    let i = c.loop-number.number in
    let e = c.event-item.result in
    let here = stands events c.as_slice-event-items.result.now i e c.as_slice-event-items.ensures c.loop-number-test.true c.event-item.is in
    let went = c.in_ok-go_over.ensures (plain_all (reverse (take i events))) a c.loop-number.invariant.watched in
    record {
      watched = subst (λ (t : List Event). Watches (plain_all t) a c.go_over.new.self) (sym here.whole) went.1;
      last = last_more events i e a c.in_ok-go_over.field-0 c.loop-number.last c.if-branch.last here went.0 c.loop-number.invariant.last
          (elim c.if-branch.branch [
            | then-branch w ↦ w.last-is ∙ sym (ap (λ b. if b then Some i else c.loop-number.last) w.if-branch.true)
            | else-branch w ↦ w.last-is ∙ sym (ap (λ b. if b then Some i else c.loop-number.last) w.if-branch.false)
          ]);
    }

pub returns-then-watch : goal.returns-then-watch
returns-then-watch c =
    let a = c.args.name.now in
    let watched = c.loop-number.invariant.watched in
    let all : take c.loop-number.number c.args.trace.now ≡ c.args.trace.now =
    subst (λ (es : List Event). take c.loop-number.number es ≡ es) c.as_slice-event-items.ensures
    (take_all c.loop-number.number c.as_slice-event-items.result.now c.loop-number-test.false) in
    subst (λ (es : List Event). MatchOption c.loop-number.last (created (plain_all (reverse es)) a ≡ false) (λ n. (created (plain_all (reverse es)) a ≡ true) × (last_step (reverse es) a ≡ Some n))) all
    (last_found (reverse (take c.loop-number.number c.args.trace.now)) a c.loop-number.last (sym watched.created ∙ c.if-watch.true) c.loop-number.invariant.last)
