-- None of the words so far begins with `-`.
use Rattle.std.proofs.Common.{◌≡◌, map, drop, string_bytes}
use Rattle.std.specs.List.{list_any}
use Rattle.cam_scope_args.specs.Forms.{is_dashed}
use Rattle.cam_scope_args.proofs.words.has_dashed.Given as goal

abbrev pub invariant-loop-word : goal.invariant-loop-word
invariant-loop-word l = list_any is_dashed (map string_bytes (drop l.word-index l.words)) ≡ list_any is_dashed (map string_bytes l.words)
