-- Which rows the columns of a run have.
use Rattle.std.specs.Prelude.{ℕ, suc, List, [], ◌∷◌}
use Rattle.cam_event.specs.declared.Event.{Event}
use Rattle.cam_columns.specs.declared.rows.Row.{Row}

-- where a row stands: the number of its event, and the lane
abbrev pub place : Row → ℕ × ℕ
place row = (row.event, row.node)

-- where the events of a trace are to stand: each once, in order, in the lane of its node
abbrev pub places : ℕ → List Event → List (ℕ × ℕ)
places number [] = []
places number (e ∷ es) = (number, e.node) ∷ places (suc number) es
