use Rattle.std.proofs.Common.{◌≡◌, ◌++◌, take}
use Rattle.std.specs.List.{flat_map}
use Rattle.cam_diagram.specs.Marks.{arrow_text}
use Rattle.cam_diagram.proofs.svg_arrow.write_arrows.Given as goal

abbrev pub invariant-loop-arrow : goal.invariant-loop-arrow
invariant-loop-arrow l = l.xml ≡ l.fn.xml ++ flat_map (arrow_text l.captions) (take l.arrow-index l.arrow-items)
