use Rattle.std.proofs.Common.{◌≡◌, ◌++◌, flat_map}
use Rattle.std.specs.List.{AllByRecursion}
use Rattle.cam_bytes.specs.Fields.{name}
use Rattle.cam_bytes.specs.Ranges.{IsName}
use Rattle.cam_wire.specs.Spelling.{aborts}
use Rattle.cam_wire.proofs.writing.write_aborts.Given as goal

-- with those still to come the text is whole; and where they are in their ranges, all are
abbrev pub invariant-loop-name : goal.invariant-loop-name
invariant-loop-name l = record {
  text : l.out.items ++ flat_map name l.name-iterator ≡ l.fn.out.items ++ aborts l.aborts.keys;
  range : AllByRecursion IsName l.name-iterator → AllByRecursion IsName l.aborts.keys;
}
