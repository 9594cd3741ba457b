-- The value of an object that is handed up past the top: what reports show, and what stays whatever runs on.
use Rattle.std.specs.Prelude.{ℕ, Bool, true, false, List, filter, Option, Some, None}
use Rattle.cam_names.specs.declared.name.Name.{Name}
use Rattle.cam_type.specs.declared.ObjectDecl.{ObjectDecl}
use Rattle.cam_type.specs.declared.State.{State}
use Rattle.cam_event.specs.declared.Deed.{Deed}
use Rattle.cam_event.specs.Live.{live_on, lift, replay, start_of, site_of}

abbrev pub is_past_top : Option Name → Bool
is_past_top None = true
is_past_top (Some u) = false

-- the live operations on the object whose lift is past the top, applied in order from its start state
abbrev pub settled : List ObjectDecl → List Deed → ℕ → State
settled objects L x =
    replay (start_of objects x)
    (filter (λ o. is_past_top (lift L (site_of objects o.object) o.action))
    (live_on objects L x))
