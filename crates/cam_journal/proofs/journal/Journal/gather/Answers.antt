use Rattle.std.proofs.Common.{◌≡◌, [], ◌∷◌, map, length, refl, sym, ap, ◌∙◌, arith}
use Rattle.std.proofs.lemmas.List.{map-append}
use Rattle.std.proofs.lemmas.List.Elements.{All-rest, All-head, All-same}
use Rattle.atomic_table.specs.Table.{keeps}
use Rattle.cam_journal.specs.declared.view.SeatView.TheVariants.{Gatherer}
use Rattle.cam_journal.specs.Seats.{Sitting}
use Rattle.cam_journal.proofs.Joining.{starts, gathers, learns}
use Rattle.cam_journal.proofs.Gathering.{held_of, gathered_in, gathering_none, gathering_is, gathering_more, gathering_end, nothing_left}
use Rattle.cam_journal.proofs.journal.Journal.gather.Goals as goal

pub load_new_seat-token-requires : goal.load_new_seat-token-requires
load_new_seat-token-requires g c =
    let core = g.C.Core in
    let one = c.self.invariant.0 in
    (omega arith, λ s kept homes fits. (Gatherer c.self.inside.table.shared.key [], starts core.names core.sends core.lawful c.self.inside.table.shared.key s kept, refl))

pub loop-seat-init : goal.loop-seat-init
loop-seat-init g c =
    let new = c.load_new_seat-token.ensures in
    let key : c.self.inside.table.shared.key ≡ c.args.self.nodes = ap (λ j. j.nodes) c.self.view_is in
    let lists = c.self.invariant.1 in
    let rest = c.into_iter-seat-iterator.ensures.into_iter_gives.0 in
    let empty = ap length lists in
    let full = ap length rest in
    let long = c.self.inside.lists.ok.0 in
    let room = c.self.invariant.2 in
    let count = c.requires.count in (
      new.0,
      new.1,
      gathering_none c.self.inside.table.shared.key c.args.self.nodes c.args.seats.items c.into_iter-seat-iterator.result.rest.items _ _ new.2 key rest (ap (map (λ list. list.items)) lists),
      All-same (λ (s : Sitting g.row.C-Event.Denot g.row.C-Letter.Denot). s.journal ≡ c.args.self.id) _ _ rest c.requires.own,
      omega (arith, key, room),
      omega (arith, empty, full, long, count),
    )

pub join_seat-requires : goal.join_seat-requires
join_seat-requires g c =
    let core = g.C.Core in
    let one = c.self.invariant.0 in
    let key : c.self.inside.table.shared.key ≡ c.args.self.nodes = ap (λ j. j.nodes) c.self.view_is in
    let kept = c.loop-seat.invariant in
    let Own : Sitting g.row.C-Event.Denot g.row.C-Letter.Denot → Type 0 = λ s. s.journal ≡ c.args.self.id in
    let own = All-head Own c.in-Some.seat c.next.new.self.rest.items (All-same Own _ _ (sym c.in-Some.ensures.steps.0) kept.3) in
    let token = c.loop-seat.token in
    let seat = c.seat.inside in (
      kept.0,
      ap (λ s. s.journal) c.seat.view_is ∙ own ∙ sym (ap (λ j. j.id) c.self.view_is),
      c.seat.invariant.0,
      omega arith,
      gathers core.names core.sends core.lawful c.self.inside.table.shared.key c.args.self.nodes token.id seat.token.id (gathered_in token.me.0) token.me.0 seat.token.me.0 seat.entries.items (gathering_is _ _ _ _ token.me.0 kept.2) key c.seat.invariant.1,
    )

pub loop-seat-preserved : goal.loop-seat-preserved
loop-seat-preserved g c =
    let kept = c.loop-seat.invariant in
    let Own : Sitting g.row.C-Event.Denot g.row.C-Letter.Denot → Type 0 = λ s. s.journal ≡ c.args.self.id in
    let steps = c.in-Some.ensures.steps.0 in
    let join = c.join_seat.ensures in
    let pushed = c.in-Ok.ensures in
    let less = ap length steps in
    let room = kept.4 in
    let count = kept.5 in
    let longer = pushed.len in
    let wider = pushed.capacity in (
      join.0 ∙ kept.0,
      ap (λ me. me.1) join.2 ∙ kept.1,
      gathering_more g.C.Core.lawful c.args.self.nodes _ _ _ _ _ c.seat.inside.entries.items c.loop-seat.token.me.0 c.join_seat.new.seat.me.0 c.seat.inside.token.me.0 (held_of c.in-Some.seat)
          kept.2
          (ap (map held_of) steps)
          c.seat.invariant.1
          (sym (ap (λ s. s.node) c.seat.view_is))
          (sym (ap (λ s. s.history) c.seat.view_is))
          (ap (map (λ list. list.items)) pushed.items ∙ map-append (λ list. list.items) c.loop-seat.lists.items (c.seat.inside.entries ∷ []))
          (ap (λ me. me.0) join.2),
      All-rest Own c.in-Some.seat _ _ steps kept.3,
      omega (arith, room, wider),
      omega (arith, count, less, longer),
    )

pub unreachable-requires : goal.unreachable-requires
unreachable-requires g c =
    let kept = c.loop-seat.invariant in
    let less = ap length c.in-Some.ensures.steps.0 in
    let room = kept.4 in
    let count = kept.5 in
    let full = c.in_default.ensures.full in
    omega (arith, room, count, less, full)

pub load-requires : goal.load-requires
load-requires g c =
    let core = g.C.Core in
    let one = c.self.invariant.0 in
    let key : c.self.inside.table.shared.key ≡ c.args.self.nodes = ap (λ j. j.nodes) c.self.view_is in
    let kept = c.loop-seat.invariant in
    let token = c.loop-seat.token in (
      kept.0,
      omega arith,
      λ s holds homes at fits.
          let step = learns core.names core.sends core.lawful c.self.inside.table.shared.key c.args.self.nodes token.id (gathered_in token.me.0) token.me.0 s s.homes (gathering_is _ _ _ _ token.me.0 kept.2) key holds at in
          (step.0, keeps, tt, step.1, step.2),
    )

pub invariant_of-result : goal.invariant_of-result
invariant_of-result g c =
    let core = g.C.Core in
    let none = c.in-None.ensures.steps in
    (gathering_end core.names core.sends core.lawful c.args.self c.args.seats.items c.loop-seat.seat-iterator.rest.items _ c.loop-seat.token.me.0 c.load.new.seat.me.0 c.load.result c.requires c.load.type_inv (nothing_left _ (sym c.loop-seat.seat-iterator.rest.ok.0 ∙ none.0)) c.loop-seat.invariant.2 c.load.ensures.2).0

pub returns : goal.returns
returns g c =
    let core = g.C.Core in
    let none = c.in-None.ensures.steps in
    (gathering_end core.names core.sends core.lawful c.args.self c.args.seats.items c.loop-seat.seat-iterator.rest.items (map (λ list. list.items) c.loop-seat.lists.items) c.loop-seat.token.me.0 c.load.new.seat.me.0 c.load.result c.requires c.load.type_inv (nothing_left _ (sym c.loop-seat.seat-iterator.rest.ok.0 ∙ none.0)) c.loop-seat.invariant.2 c.load.ensures.2).1
