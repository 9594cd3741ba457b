-- Those that are left say whether the family is held.
use Rattle.std.proofs.Common.{◌≡◌, drop}
use Rattle.std.specs.List.{list_any}
use Rattle.cam_names.specs.Names.{name_eq}
use Rattle.cam_type.specs.declared.Held.{Held}
use Rattle.cam_node.proofs.found.holds.Given as goal

abbrev pub invariant-loop-one : goal.invariant-loop-one
invariant-loop-one l =
    list_any (λ (h : Held). name_eq l.family h.family) (drop l.one-index l.held)
    ≡ list_any (λ (h : Held). name_eq l.family h.family) l.held
