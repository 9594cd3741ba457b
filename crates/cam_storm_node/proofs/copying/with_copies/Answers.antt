-- One letter more has drawn its copies.
use Rattle.std.proofs.Common.{◌≡◌, ◌+◌, ◌++◌, List, length, sym, ap, ◌∙◌, subst, arith}
use Rattle.std.specs.Vec.Iter.{into_iter_items}
use Rattle.cam_event.specs.declared.Letter.{Letter}
use Rattle.cam_gen.specs.StormDraws.{AreAt}
use Rattle.cam_storm.specs.Events.{Copied}
use Rattle.cam_storm_node.specs.Copying.{copied_from}
use Rattle.cam_storm_node.proofs.Drawn.{at_more, drawn_more, length_more}
use Rattle.cam_storm_node.proofs.copying.with_copies.Goals as goal

pub loop-letter-preserved : goal.loop-letter-preserved
loop-letter-preserved c =
    let was = c.loop-letter.invariant in
    let drawn = c.loop-letter.drawn in
    let letter = c.in-Some.letter in
    let rest = into_iter_items c.next.new.self in
    let step = c.in-Some.ensures.steps in
    let pushed = c.in_ok-push.ensures.ok in
    let long = ap length pushed ∙ length_more drawn _ in
    let short = ap (λ (ls : List Letter). length ls) step.0 in
    record {
      copied = λ words s number at.
          let here = was.copies words s number at in
          subst
          (λ (ds : List Copied).
          ds ++ copied_from words s (number + length ds) rest
          ≡ copied_from words s number c.args.letters) (sym pushed)
          (drawn_more words s number drawn letter rest c.next-in-loop-letter.result
          (copied_from words s number c.args.letters)
          (c.next-in-loop-letter.ensures.copies words s (number + length drawn) here)
          (subst
          (λ (ls : List Letter).
          drawn ++ copied_from words s (number + length drawn) ls
          ≡ copied_from words s number c.args.letters) step.0 (was.copied words s number at)));
      copies = λ words s number at.
          subst (λ (ds : List Copied). AreAt words s (number + length ds)
          c.next-in-loop-letter.new.self) (sym pushed)
          (at_more words s number drawn _ _
          (c.next-in-loop-letter.ensures.goes_on words s (number + length drawn)
          (was.copies words s number at)));
      whole =
          let whole = was.whole in
          let more = step.1 in
          omega (arith, more, whole, short);
      count =
          let count = was.count in
          omega (arith, long, count, short);
    }
