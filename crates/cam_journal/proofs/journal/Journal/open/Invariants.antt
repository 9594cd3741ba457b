use Rattle.std.proofs.Common.{◌≡◌, ◌+◌, []}
use Rattle.cam_journal.specs.declared.view.SeatView.TheVariants.{Maker}
use Rattle.cam_journal.specs.Seats.{AreNew}
use Rattle.cam_journal.proofs.journal.Journal.open.Given as goal

abbrev pub invariant-loop-node : goal.invariant-loop-node
invariant-loop-node g l =
    (l.maker.table_id ≡ l.table.shared.table_id)
    × (l.maker.me ≡ (Maker l.fn.nodes (l._node + 1), []))
    × AreNew l.table.shared.table_id l._node l.seats.items
