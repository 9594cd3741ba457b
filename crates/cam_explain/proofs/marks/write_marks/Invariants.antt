use Rattle.std.proofs.Common.{◌≡◌, ◌++◌, take, string_bytes}
use Rattle.std.specs.List.{flat_map}
use Rattle.cam_explain.specs.Moments.{told_in}
use Rattle.cam_explain.specs.Marks.{mark_text}
use Rattle.cam_explain.proofs.marks.write_marks.Given as goal

abbrev pub invariant-loop-mark : goal.invariant-loop-mark
invariant-loop-mark l =
    string_bytes l.out
    ≡ string_bytes l.fn.out ++ flat_map (mark_text l.source l.script l.scope (told_in l.course)) (take l.mark-index l.mark-items)
