use Rattle.std.proofs.Common.{◌≡◌, ◌++◌, take, string_bytes}
use Rattle.std.specs.List.{flat_map}
use Rattle.cam_base.specs.Lines.{inner_line}
use Rattle.cam_recman.specs.Inspect.{record_words}
use Rattle.cam_image.proofs.words.write_records.Given as goal

-- the lines of the records so far
abbrev pub invariant-loop-one : goal.invariant-loop-one
invariant-loop-one l = string_bytes l.out ≡ string_bytes l.fn.out
    ++ flat_map (λ one. inner_line (record_words one)) (take l.one-index l.records)
