use Rattle.std.proofs.Common.{ℕ, ◌≡◌, ◌+◌, ◌-◌, List, inl, sym, subst, arith}
use Rattle.std.specs.Prelude.{Result}
use Rattle.cam_journal.specs.Seats.{Sitting, Mention}
use Rattle.cam_hall.specs.declared.turned.TurnedOf.{TurnedOf}
use Rattle.cam_hall.specs.declared.turned.HallFault.{HallFault}
use Rattle.cam_hall.specs.Ending.{Left, IsLeft, IsStepAt, IsTaken}
use Rattle.cam_hall.proofs.Leaving.{own_seats}
use Rattle.cam_hall.proofs.EndTurns.{taken}
use Rattle.cam_hall.proofs.ended.Ended.turn.Goals as goal

pub item_of-requires-clause-own : goal.item_of-requires-clause-own
item_of-requires-clause-own g c =
    own_seats g.C.Core.is_replay (record {
      journal = c.self.inside.journal;
      cores = c.self.inside.cores.items;
      seats = c.self.inside.seats.items;
    }) c.self.invariant

pub returns-clause-turn : goal.returns-clause-turn
returns-clause-turn g c =
    let core = g.C.Core in
    let E : Type 0 = g.row.C-Event.Denot in
    let L : Type 0 = g.row.C-Letter.Denot in
    let node = c.args.node in
    let letter = c.args.letter in
    let at : ℕ = c.from-at.result - 1 in
    let inside = c.self.inside in
    let answer = c.step_at-answer.result in
    let old : Left g.row.C.Denot E L = record {
      journal = inside.journal;
      cores = inside.cores.items;
      seats = inside.seats.items;
    } in
    let new : Left g.row.C.Denot E L = record {
      journal = inside.journal;
      cores = c.step_at-answer.new.cores.items;
      seats = c.step_at-answer.new.seats.items;
    } in
    let step =
    subst
    (λ (seats : List (Sitting E L)).
    IsStepAt core.faults core.names core.sends core.lawful core.answers core.is_idle at
    (record { journal = inside.journal; cores = inside.cores.items; seats = seats }) new
    c.in-Ok.item answer)
    c.in-Ok.ensures.same c.step_at-answer.ensures.step in
    let is = c.requires.node.0 in
    let from = c.from-at.ensures in
    let place : at + 1 ≡ node = omega (arith, is, from) in
    let done =
    taken core.names core.sends core.goes_to core.lawful core.answers core.is_replay core.faults
    core.is_idle node at old new letter c.in-Ok.item answer place c.self.invariant
    c.in-Ok.ensures.item step in
    inl
    (subst
    (λ (o : Left g.row.C.Denot E L).
    IsTaken core.faults core.names core.sends core.goes_to core.lawful core.answers
    core.is_idle node o new letter c.without_notes.result)
    c.self.view_is
    (subst
    (λ (a : Result (TurnedOf (Mention L)) HallFault).
    IsTaken core.faults core.names core.sends core.goes_to core.lawful core.answers
    core.is_idle node old new letter a)
    (sym c.without_notes.ensures) done))

pub returns-clause-left : goal.returns-clause-left
returns-clause-left g c = (
  subst (IsLeft g.C.Core.is_replay) c.self.view_is c.self.invariant,
  c.step_at-answer.ensures.left,
)
