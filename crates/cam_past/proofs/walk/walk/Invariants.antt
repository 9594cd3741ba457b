use Rattle.std.proofs.Common.{◌≡◌, ℕ, ◌<◌, reverse, take, length, get_or, None}
use Rattle.cam_event.specs.Pasts.{last_of}
use Rattle.cam_past.specs.Tables.{AreNodes, IsTable}
use Rattle.cam_past.proofs.walk.walk.Given as goal

abbrev pub invariant-loop-event : goal.invariant-loop-event
invariant-loop-event l =
    AreNodes (reverse (take l.event-index l.event-items)) l.nodes.items
    × IsTable (reverse (take l.event-index l.event-items)) l.table l.clocks.items
    × (length l.last ≡ 256)
    × ((s : ℕ) → s < 256 → get_or l.last s None ≡ last_of (reverse (take l.event-index l.event-items)) s)
