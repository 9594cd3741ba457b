-- One step of the reading of a log.
use Rattle.std.specs.Prelude.{◌≡◌, ℕ, suc, ◌+◌, ◌≤◌, List, [], ◌∷◌, ◌++◌, length, take, drop, Option, Some, None, Ok}
use Rattle.cam_log.specs.Reading.{entries_from}

-- With no entry taken, the gate is closed and these are all. Otherwise reading goes on after the entry that was taken.
abbrev pub Takes : List ℕ → ℕ → List (List ℕ) → List (List ℕ) → Option ℕ → Type 0
Takes bytes at entries now None =
    ((room : ℕ) → entries_from (suc room) entries at bytes ≡ Ok entries) × (now ≡ entries)
Takes bytes at entries now (Some next) =
    ((room : ℕ) → entries_from (suc room) entries at bytes ≡ entries_from room now next bytes)
    × ((size : ℕ) × (next ≡ at + 9 + size) × (next ≤ length bytes)
    × (now ≡ entries ++ take size (drop (at + 9) bytes) ∷ []))
