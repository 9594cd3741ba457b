-- All words so far are options.
use Rattle.std.proofs.Common.{◌≡◌, ◌+◌, map, drop, string_bytes}
use Rattle.cam_scope_args.specs.Tests.{leading_options}
use Rattle.cam_scope_args.proofs.words.leading_options.Given as goal

abbrev pub invariant-loop-word : goal.invariant-loop-word
invariant-loop-word l = record {
  many : l.many ≡ l.word-index;
  rest : l.many + leading_options (map string_bytes (drop l.word-index l.words)) ≡ leading_options (map string_bytes l.words);
}
