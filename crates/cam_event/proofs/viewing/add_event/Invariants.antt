use Rattle.std.proofs.Common.{◌≡◌, List, take}
use Rattle.cam_event.specs.declared.Deed.{Deed}
use Rattle.cam_event.specs.History.{after}
use Rattle.cam_event.specs.Views.{view}
use Rattle.cam_event.specs.Values.{HasValues}
use Rattle.cam_event.proofs.viewing.add_event.Given as goal

abbrev pub invariant-loop-deed : goal.invariant-loop-deed
invariant-loop-deed l =
    (L : List Deed) → HasValues L l.fn.values → l.fn.steps ≡ view L l.name
    → HasValues (after L (take l.deed-index l.deed-items)) l.values × (l.steps ≡ view (after L (take l.deed-index l.deed-items)) l.name)
