use Rattle.std.proofs.Common.{◌≡◌, ◌++◌, take}
use Rattle.std.specs.List.{flat_map}
use Rattle.cam_diagram.specs.Labels.{arrow_label}
use Rattle.cam_diagram.proofs.labels.write_arrow_labels.Given as goal

abbrev pub invariant-loop-arrow : goal.invariant-loop-arrow
invariant-loop-arrow l = l.xml ≡ l.fn.xml ++ flat_map (arrow_label l.captions) (take l.arrow-index l.arrow-items)
