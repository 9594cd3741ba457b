-- What clocks tell, over a trace with the newest event first.
use Rattle.std.specs.Prelude.{◌≡◌, ℕ, List}
use Rattle.cam_event.specs.declared.Event.{Event}
use Rattle.cam_event.specs.Pasts.{in_past}
use Rattle.cam_past.specs.declared.relation.Clocks.{Clocks}
use Rattle.cam_past.specs.Tables.{is_told}

-- The clocks are those of the trace: they tell of each two events whether one is in the past of the other.
abbrev pub AreClocksOf : List Event → Clocks → Type 0
AreClocksOf t clocks = (i j : ℕ) → is_told clocks.nodes.items clocks.tables i j ≡ in_past t i j
