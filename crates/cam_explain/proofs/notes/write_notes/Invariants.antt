use Rattle.std.proofs.Common.{◌≡◌, ◌++◌, drop, string_bytes}
use Rattle.cam_explain.specs.Notes.{notes_from}
use Rattle.cam_explain.proofs.notes.write_notes.Given as goal

abbrev pub invariant-loop-number : goal.invariant-loop-number
invariant-loop-number l =
    string_bytes l.out ++ notes_from l.scope l.number (drop l.number l.trace) ≡ string_bytes l.fn.out ++ notes_from l.scope 0 l.trace
