use Rattle.std.proofs.Common.{◌≡◌, ◌-◌, ◌<◌, ◌^◌, ◌+◌, ◌++◌, ◌∷◌, [], ℕ, List, length, reverse, take, subst, sym, ◌∙◌, arith, rules}
use Rattle.std.proofs.lemmas.List.{length-reverse, length-take-le}
use Rattle.cam_base.proofs.Newest.{taken_back}
use Rattle.cam_event.specs.declared.Event.{Event}
use Rattle.cam_report.proofs.Counting.{IsCounted, counted_more}
use Rattle.cam_report.proofs.numbering.numbering_of.Goals as goal

pub loop-event-preserved : goal.loop-event-preserved
loop-event-preserved c =
    let events = c.as_slice-events.result.now in
    let k = c.loop-event.event-index in
    let t = reverse (take k events) in
    let more = c.loop-event.sent + c.len.result in
    let count : c.len.result ≡ length c.event-item.result.sent = search rules in
    let short : length c.event-item.result.sent < 2 ^ 64 = search rules in
    let long : length t ≡ k = length-reverse (take k events) ∙ length-take-le k events (omega (arith, c.loop-event-test.true)) in
    let room : length t < 2 ^ 63 - 1 = search rules in
    let pushed : c.push-in-loop-event.new.self.items ≡ c.loop-event.before.items ++ more ∷ [] = search rules in
    subst (λ (r : List Event). IsCounted r c.push-in-loop-event.new.self.items more) (sym (taken_back events k c.event-item.result c.loop-event-test.true c.event-item.is))
    (subst (λ (counts : List ℕ). IsCounted (c.event-item.result ∷ t) counts more) (sym pushed)
    (subst (λ (n : ℕ). IsCounted (c.event-item.result ∷ t) (c.loop-event.before.items ++ (c.loop-event.sent + n) ∷ []) (c.loop-event.sent + n)) (sym count)
    (counted_more t c.event-item.result c.loop-event.before.items c.loop-event.sent c.loop-event.invariant short room)))
