use Rattle.std.proofs.Common.{◌≡◌, ◌++◌, string_bytes}
use Rattle.cam_explain.specs.Pointed.{blanks}
use Rattle.cam_explain.proofs.pointer.write_blanks.Given as goal

abbrev pub invariant-loop-place : goal.invariant-loop-place
invariant-loop-place l =
    string_bytes l.out ≡ string_bytes l.fn.out ++ blanks l.line l.place
