-- The lines that stop a node's disk, by what the disks went through: at which input of the node
-- such a stop ends, and how many calls of the append there it lets pass.
use Rattle.std.specs.Prelude.{◌≡◌, ℕ, eqb, nat_lt, Bool, true, false, not, ◌&&◌, ◌||◌}
use Rattle.std.specs.Prelude.{if◌then◌else◌, List, [], ◌∷◌, Option, Some, None, is_some}
use Rattle.cam_runs.specs.Running.{has_number}
use Rattle.cam_runs.specs.Halts.{Turn, Input, Stop, Restart, calls_left}

-- An append makes four calls. Where fewer are left a stop ends at it, and lets these pass.
abbrev pub too_few : Option ℕ → Option ℕ
too_few None = None
too_few (Some left) = if nat_lt left 4 then Some left else None

-- so at an input of a node, by whether its event appends
abbrev pub ends_by : List Turn → ℕ → Bool → Option ℕ
ends_by before s appends = if appends then too_few (calls_left before s) else None

-- No stop ends at an input of the node since its last restart.
abbrev pub runs_on : List Turn → ℕ → Bool
runs_on [] s = true
runs_on (Input m line appends restarted ∷ before) s =
    if eqb m s then not (is_some (ends_by before s appends)) && runs_on before s
    else runs_on before s
runs_on (Stop m calls ∷ before) s = runs_on before s
runs_on (Restart m ∷ before) s = eqb m s || runs_on before s

-- A stop ends at the node's last input, and at none between its last restart and that: how many
-- calls it lets pass there.
abbrev pub stopped_at : List Turn → ℕ → Option ℕ
stopped_at [] s = None
stopped_at (Input m line appends restarted ∷ before) s =
    if eqb m s then (if runs_on before s then ends_by before s appends else None)
    else stopped_at before s
stopped_at (Stop m calls ∷ before) s = stopped_at before s
stopped_at (Restart m ∷ before) s = if eqb m s then None else stopped_at before s

-- whether a later line restarts the node, as its last input tells
abbrev pub told_last : List Turn → ℕ → Bool
told_last [] s = false
told_last (Input m line appends restarted ∷ before) s =
    if eqb m s then restarted else told_last before s
told_last (Stop m calls ∷ before) s = told_last before s
told_last (Restart m ∷ before) s = told_last before s

-- The nodes that are halted are those at whose last input a stop ends.
abbrev pub IsAsStopped : Bool → List Turn → ℕ → Type 0
IsAsStopped false turns s = runs_on turns s ≡ true
IsAsStopped true turns s = is_some (stopped_at turns s) ≡ true

abbrev pub AreAsStopped : List ℕ → List Turn → Type 0
AreAsStopped halted turns = (s : ℕ) → IsAsStopped (has_number halted s) turns s
