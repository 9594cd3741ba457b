-- How many requests the bodies of a run's actions may still make: a body's cost bounds them, and each
-- that is made lowers what is left.
use Rattle.std.specs.Prelude.{ℕ, ◌+◌, ◌-◌, ◌*◌, if◌then◌else◌, List, [], ◌∷◌, slice_get}
use Rattle.std.specs.List.{list_any}
use Rattle.std.specs.Option.{option_map_or}
use Rattle.cam_names.specs.declared.name.Name.{Name}
use Rattle.cam_names.specs.Names.{home_node}
use Rattle.cam_event.specs.declared.Event.{Event}
use Rattle.cam_event.specs.declared.ViewStep.{ViewStep}
use Rattle.cam_event.specs.Pasts.{plain_all}
use Rattle.cam_event.specs.Views.{view}
use Rattle.cam_script.specs.declared.Statement.{Statement}
use Rattle.cam_script.specs.declared.Statement.TheVariants as statements
use Rattle.cam_script.specs.SoFar.{Size, cost_at, cost_of}
use Rattle.cam_body.specs.Work.{Place, has_ended, place_of}
use Rattle.cam_runs.specs.Playing.{is_stop_of}
use Rattle.cam_runs.specs.Running.{has_number}

-- from a statement of a body on, of which so many tries failed
abbrev pub left_from : List Size → List Statement → ℕ → ℕ
left_from sizes [] failed = 1
left_from sizes (statements.Call tries object op ∷ ss) failed = (tries - failed) + cost_of sizes ss
left_from sizes (statements.Child tries node body ∷ ss) failed =
    (tries - failed) * (1 + cost_at sizes body) + cost_of sizes ss
left_from sizes (statements.Commit e ∷ ss) failed = cost_of sizes ss
left_from sizes (statements.Abort ∷ ss) failed = cost_of sizes ss

-- at a place of a body; a try that is open was made
abbrev pub failed_at : Place → ℕ
failed_at place = if place.is_open then place.failed + 1 else place.failed

abbrev pub left_at : List Size → Place → ℕ
left_at sizes place = left_from sizes place.rest (failed_at place)

-- of an action with this body and this view
abbrev pub left_by : List Size → List Statement → List ViewStep → ℕ
left_by sizes body view = if has_ended view then 0 else left_at sizes (place_of body view)

-- of an action in a trace: none if it was stopped at its home
abbrev pub left_of : List Size → List (List Statement) → List Event → Name → ℕ → ℕ
left_of sizes bodies t a n =
    if list_any (is_stop_of a) t then 0
    else option_map_or (λ body. left_by sizes body (view (plain_all t) a)) (slice_get bodies n) 0

-- Of all actions with a body, but for those at these nodes.
abbrev pub left_away : List Size → List (List Statement) → List ℕ → List Event → Name → ℕ → ℕ
left_away sizes bodies nodes t a n =
    if has_number nodes (home_node a) then 0 else left_of sizes bodies t a n

abbrev pub sum_in : (Name → ℕ → ℕ) → List (Name × ℕ) → ℕ
sum_in f [] = 0
sum_in f (p ∷ ps) = f p.0 p.1 + sum_in f ps
