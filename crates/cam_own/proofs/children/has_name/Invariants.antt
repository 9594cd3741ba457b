use Rattle.std.proofs.Common.{◌≡◌, drop}
use Rattle.std.specs.List.{list_any}
use Rattle.cam_names.specs.Names.{name_eq}
use Rattle.cam_own.proofs.children.has_name.Given as goal

abbrev pub invariant-loop-other : goal.invariant-loop-other
invariant-loop-other l =
    list_any (name_eq l.name) (drop l.other-index l.other-items) ≡ list_any (name_eq l.name) l.other-items
