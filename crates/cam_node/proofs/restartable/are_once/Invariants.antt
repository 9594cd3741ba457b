-- The families so far are noted, and none stands twice.
use Rattle.std.proofs.Common.{◌≡◌, map, take}
use Rattle.std.specs.List.{list_any}
use Rattle.std.specs.HashSet.{contains}
use Rattle.cam_names.specs.declared.name.Name.{Name}
use Rattle.cam_names.specs.Names.{name_eq}
use Rattle.cam_node.specs.Restartable.{AreOnce}
use Rattle.cam_node.proofs.restartable.are_once.Given as goal

abbrev pub invariant-loop-one : goal.invariant-loop-one
invariant-loop-one l =
    AreOnce (take l.one-index l.held)
    × ((f : Name) → contains name_eq l.families f
    ≡ list_any (name_eq f) (map (λ h. h.family) (take l.one-index l.held)))
