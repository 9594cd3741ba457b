-- The live operations that are handed up past the top.
use Rattle.std.specs.Prelude.{Bool, List, filter}
use Rattle.cam_type.specs.declared.ObjectDecl.{ObjectDecl}
use Rattle.cam_event.specs.declared.Deed.{Deed}
use Rattle.cam_event.specs.declared.Operation.{Operation}
use Rattle.cam_event.specs.Live.{site_of, live, lift}
use Rattle.cam_event.specs.Settled.{is_past_top}

-- the lift of the operation is past the top
abbrev pub is_handed_up : List ObjectDecl → List Deed → Operation → Bool
is_handed_up objects L o = is_past_top (lift L (site_of objects o.object) o.action)

abbrev pub past_top_of : List ObjectDecl → List Deed → List Operation → List Operation
past_top_of objects L os = filter (is_handed_up objects L) os

abbrev pub settled_operations : List ObjectDecl → List Deed → List Operation
settled_operations objects L = past_top_of objects L (live objects L)
