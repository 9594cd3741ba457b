-- What was read, and what the rest reads as in the midst of the last word, are the words of the whole.
use Rattle.std.proofs.Common.{◌≡◌, ◌++◌, drop, map, string_bytes}
use Rattle.cam_page.specs.Words.{words_from, words_in}
use Rattle.cam_page.proofs.words.words_of.Given as goal

abbrev pub invariant-loop-byte : goal.invariant-loop-byte
invariant-loop-byte l =
    map string_bytes l.words.items ++ words_from l.word.items (drop l.byte-index l.question)
    ≡ words_in l.fn.question
