use Rattle.std.proofs.Common.{◌*◌, ◌+◌, ◌≤◌, List, ◌++◌, length, take}
use Rattle.cam_know.specs.declared.Outcome.{Outcome}
use Rattle.cam_know.specs.Index.{index_room, IsIndexOf}
use Rattle.cam_know.proofs.index.Index.note_all.Given as goal

abbrev pub invariant-loop-outcome : goal.invariant-loop-outcome
invariant-loop-outcome l =
    ((os : List Outcome) → IsIndexOf os l.initial.self → IsIndexOf (os ++ take l.outcome-index l.outcomes) l.self)
    × (2 * length l.outcomes ≤ index_room l.self + 2 * l.outcome-index)
