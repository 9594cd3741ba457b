use Rattle.std.proofs.Common.{◌≡◌, ◌∷◌, ◌++◌, length, take, flat_map}
use Rattle.std.specs.List.{AllByRecursion}
use Rattle.cam_bytes.specs.Fields.{part}
use Rattle.cam_bytes.specs.Ranges.{IsPartInRange}
use Rattle.cam_bytes.proofs.names.write_name.Given as goal

abbrev pub invariant-loop-part : goal.invariant-loop-part
invariant-loop-part l = record {
  text : l.out.items ≡ l.fn.out.items ++ length l.name ∷ flat_map part (take l.part-index l.part-items);
  range : AllByRecursion IsPartInRange (take l.part-index l.part-items);
}
