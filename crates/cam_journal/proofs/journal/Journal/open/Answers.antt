use Rattle.std.proofs.Common.{◌≡◌, ◌+◌, List, ℕ, sym, ap, ◌∙◌, subst, arith}
use Rattle.cam_journal.specs.Rule.{without_next, next_node}
use Rattle.cam_journal.specs.Seats.{Sitting, AreNew, node_in, history_in, taken_in}
use Rattle.cam_journal.proofs.Openings.{IsKept-opening, opens_as}
use Rattle.cam_journal.proofs.Seating.{AreNew-none, AreNew-push, IsSeat-new}
use Rattle.cam_journal.proofs.journal.Journal.open.Goals as goal

pub of_words-requires : goal.of_words-requires
of_words-requires g c = let core = g.C.Core in IsKept-opening core.names core.sends core.lawful c.args.nodes c.requires.1

pub loop-node-init : goal.loop-node-init
loop-node-init g c =
    let table = c.in_ok-table.ensures in
    let journal = c.in_ok-table.table.shared.table_id in (
      table.2,
      table.4,
      subst (λ (seats : List (Sitting g.row.C-Event.Denot g.row.C-Letter.Denot)). AreNew journal 0 seats) (sym c.in_ok-seats.ensures.items) (AreNew-none journal),
    )

pub split_seat-token-requires : goal.split_seat-token-requires
split_seat-token-requires g c =
    let core = g.C.Core in
    let table = c.in_ok-table.ensures in
    let kept = c.loop-node.invariant in
    let more = c.loop-node-test.true in
    let one = table.0 in (
      kept.0,
      omega arith,
      opens_as core.names core.sends core.lawful c.in_ok-table.table.shared.key c.args.nodes c.loop-node.maker.id (c.loop-node._node + 1) c.loop-node.maker.me.0 (ap (λ me. me.0) kept.1) table.5 (omega arith) (omega arith),
    )

pub invariant_of-push : goal.invariant_of-push
invariant_of-push g c =
    let me = c.split_seat-token.ensures.4 in
    let kept = c.loop-node.invariant in (
      ap (λ m. m.1) me,
      IsSeat-new g.C.Core.lawful c.new.result.items c.split_seat-token.result.me.0 (c.loop-node._node + 1) (ap (λ m. m.0) me ∙ ap (λ m. next_node m.0) kept.1) c.new.ensures.items,
    )

pub loop-node-preserved : goal.loop-node-preserved
loop-node-preserved g c =
    let kept = c.loop-node.invariant in
    let split = c.split_seat-token.ensures in
    let view = ap (λ m. m.0) split.4 ∙ ap (λ m. next_node m.0) kept.1 in
    let journal = c.in_ok-table.table.shared.table_id in (
      split.0 ∙ kept.0,
      split.2 ∙ ap (λ m. (without_next m.0, m.1)) kept.1,
      subst (λ (seats : List (Sitting g.row.C-Event.Denot g.row.C-Letter.Denot)). AreNew journal (c.loop-node._node + 1) seats) (sym c.in_ok-push.ensures.items)
          (AreNew-push journal c.loop-node._node c.loop-node.seats.items _ kept.2 (split.3 ∙ kept.0) (ap node_in view) (ap history_in view) (ap taken_in view)),
    )

pub returns : goal.returns
returns g c =
    let kept = c.loop-node.invariant in
    let done : c.loop-node._node ≡ c.args.nodes = omega (arith, c.loop-node-test.false, c.loop-node.auto._node-end) in
    let journal = c.in_ok-table.table.shared.table_id in
    (c.in_ok-table.ensures.5, subst (λ (n : ℕ). AreNew journal n c.loop-node.seats.items) done kept.2)
