-- The node's own inputs whose events have no entry: no letter comes, and no child is given up.
use Rattle.std.specs.Prelude.{Bool, true, false, not}
use Rattle.cam_event.specs.declared.Want.{Want}
use Rattle.cam_event.specs.declared.Want.TheVariants as wants
use Rattle.cam_event.specs.Inputs.{Input, Begins, Requests, Receives, Tells, Queries, Restarts}

abbrev pub gives_up : Want → Bool
gives_up (wants.GiveUp b) = true
gives_up _ = false

abbrev pub is_unlogged : Input → Bool
is_unlogged (Begins m) = true
is_unlogged (Requests r) = not (gives_up r.want)
is_unlogged (Receives letter) = false
is_unlogged (Tells m to) = true
is_unlogged (Queries m f) = true
is_unlogged (Restarts m) = false
