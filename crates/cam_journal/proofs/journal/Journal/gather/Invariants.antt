use Rattle.std.proofs.Common.{◌≡◌, ◌+◌, ◌≤◌, [], map, length}
use Rattle.std.specs.Prelude.{All, vec_len}
use Rattle.std.specs.Vec.{vec_capacity}
use Rattle.cam_journal.proofs.Gathering.{held_of, IsGathering}
use Rattle.cam_journal.proofs.journal.Journal.gather.Given as goal

abbrev pub invariant-loop-seat : goal.invariant-loop-seat
invariant-loop-seat g l =
    (l.token.table_id ≡ l.table.shared.table_id)
    × (l.token.me.1 ≡ [])
    × IsGathering l.fn.self.nodes (map held_of l.fn.seats.items) (map held_of l.seat-iterator.rest.items) (map (λ list. list.items) l.lists.items) l.token.me.0
    × All (λ seat. seat.journal ≡ l.fn.self.id) l.seat-iterator.rest.items
    × (l.fn.self.nodes ≤ vec_capacity l.lists)
    × (vec_len l.lists + length l.seat-iterator.rest.items ≡ l.fn.self.nodes)
