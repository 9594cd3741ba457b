use Rattle.std.proofs.Common.{◌≡◌, ◌++◌, map, take, string_bytes}
use Rattle.std.specs.List.{flat_map}
use Rattle.cam_columns.specs.Text.{continued}
use Rattle.cam_columns.proofs.text.write_continued.Given as goal

abbrev pub invariant-loop-text : goal.invariant-loop-text
invariant-loop-text l =
    string_bytes l.out ≡ string_bytes l.fn.out ++ flat_map (continued l.nodes l.node) (map string_bytes (take l.text-index l.cell))
