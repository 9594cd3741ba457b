-- The cores and the seats of the first nodes of a journal.
use Rattle.std.specs.Prelude.{ℕ, List}
use Rattle.atomic_table.specs.Seated.{TableId}
use Rattle.cam_journal.specs.declared.entry.NumberedEvent.{NumberedEvent}
use Rattle.cam_journal.specs.Seats.{Sitting}
use Rattle.cam_hall.specs.Ending.{IsLeft}

-- There is a core and a seat for each of so many nodes, in order, and each core is the replay of
-- its seat's history.
abbrev pub AreStanding : {S E L : Type 0} → (S → ℕ → List (NumberedEvent E L) → Type 0) → TableId
    → ℕ → List S → List (Sitting E L) → Type 0
AreStanding is_replay journal nodes cores seats =
    IsLeft is_replay (record {
      journal = record { id = journal; nodes = nodes };
      cores = cores;
      seats = seats;
    })
