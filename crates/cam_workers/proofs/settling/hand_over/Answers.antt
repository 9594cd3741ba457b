-- A letter that is handed over, or need not be.
use Rattle.std.proofs.Common.{Some, inl, inr, ◌≡◌, ◌<◌, length, ◌∙◌, refl, subst, arith}
use Rattle.cam_workers.specs.Rest.{IsFound, IsHandedOver, stood}
use Rattle.cam_workers.proofs.HandedOver.{not_due, seat_history, turned}
use Rattle.cam_workers.proofs.Passing.{stays}
use Rattle.cam_workers.proofs.Turned.{turn_passes}
use Rattle.cam_workers.proofs.settling.hand_over.Goals as goal

pub returns-in_ok-turn-clause-passed : goal.returns-in_ok-turn-clause-passed
returns-in_ok-turn-clause-passed g c =
    let core = g.C.Core in
    let left = c.args.ended.now in
    let four = c.requires.nodes in
    let at_four = c.requires.at in
    let many = c.seats.ensures.left.seats in
    let within : c.args.at < length left.seats = omega (arith, four, at_four, many) in
    let stands =
    seat_history left c.seats.result.now c.args.at c.index-seats-at.result c.seats.ensures.value
    c.index-seats-at.is within in
    elim c.in_ok-turn.ensures.turn [
      | inl taken ↦
          turn_passes core.is_replay core.faults core.names core.sends core.goes_to core.lawful
          core.answers core.is_idle
          (λ now.
          IsHandedOver core.sends core.goes_to core.is_idle now c.args.at c.args.index c.args.place)
          c.to-to.result left c.turn.new.self (Some (c.in-Some.sent.number, c.args.place))
          c.in_ok-turn.field-0 c.in_ok-turn.ensures.left.0 c.in_ok-turn.ensures.left.1 taken
          (turned core.sends core.goes_to core.is_idle left left.journal.id c.args.at c.args.index
          c.args.place c.to-to.result c.index-seats-at.result.history c.in-Some.sent stands
          (subst (IsFound core.sends c.index-seats-at.result.history c.args.index c.args.place)
          c.in-Some.is c.in-Ok.ensures)
          c.to-to.ensures)
      | inr none ↦ absurd none
    ]

pub returns-else-is_due-clause-passed : goal.returns-else-is_due-clause-passed
returns-else-is_due-clause-passed g c =
    let core = g.C.Core in
    let left = c.args.ended.now in
    let four = c.requires.nodes in
    let at_four = c.requires.at in
    let many = c.seats.ensures.left.seats in
    let within : c.args.at < length left.seats = omega (arith, four, at_four, many) in
    let stands =
    seat_history left c.seats.result.now c.args.at c.index-seats-at.result c.seats.ensures.value
    c.index-seats-at.is within in
    stays
    (λ now. IsHandedOver core.sends core.goes_to core.is_idle now c.args.at c.args.index c.args.place)
    (stood left)
    (not_due core.sends core.goes_to core.is_idle (stood left) c.args.at c.args.index c.args.place
    c.index-seats-at.result.history c.in-Some.sent stands
    (subst (IsFound core.sends c.index-seats-at.result.history c.args.index c.args.place)
    c.in-Some.is c.in-Ok.ensures)
    (λ to goes low. c.if-is_due.ensures.done refl to (c.to-to.ensures ∙ goes) low))
