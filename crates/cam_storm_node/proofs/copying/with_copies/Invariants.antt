-- The letters that are left, and those that have drawn their copies.
use Rattle.std.proofs.Common.{◌≡◌, ℕ, ◌+◌, ◌++◌, length}
use Rattle.std.specs.Vec.Iter.{into_iter_items, into_iter_len}
use Rattle.cam_gen.specs.Storms.{Words}
use Rattle.cam_gen.specs.StormDraws.{AreAt}
use Rattle.cam_storm_node.specs.Copying.{copied_from}
use Rattle.cam_storm_node.proofs.copying.with_copies.Given as goal

abbrev pub invariant-loop-letter : goal.invariant-loop-letter
invariant-loop-letter l = record {
  copied :
      (words : Words) (s number : ℕ) → AreAt words s number l.fn.copies
      → l.drawn ++ copied_from words s (number + length l.drawn) (into_iter_items l.letter-iterator)
      ≡ copied_from words s number l.fn.letters;
  copies :
      (words : Words) (s number : ℕ) → AreAt words s number l.fn.copies
      → AreAt words s (number + length l.drawn) l.copies;
  whole : into_iter_len l.letter-iterator ≡ length (into_iter_items l.letter-iterator);
  count : length l.drawn + length (into_iter_items l.letter-iterator) ≡ length l.fn.letters;
}
