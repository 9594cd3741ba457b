use Rattle.std.proofs.Common.{◌≡◌, ◌+◌, ◌++◌, drop, string_bytes}
use Rattle.cam_explain.specs.Notes.{letters_from}
use Rattle.cam_explain.proofs.letters.write_letters.Given as goal

abbrev pub invariant-loop-place : goal.invariant-loop-place
invariant-loop-place l =
    string_bytes l.out ++ letters_from (l.place + 1) (drop l.place l.letters) ≡ string_bytes l.fn.out ++ letters_from 1 l.letters
