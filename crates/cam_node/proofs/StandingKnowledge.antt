-- The first outcomes of what is known, with counts of a mark, are knowledge.
use Rattle.std.proofs.Common.{◌≡◌, ℕ, List, Option, Some, None, subst}
use Rattle.cam_names.specs.Dependencies.{AreCounts}
use Rattle.cam_know.specs.declared.Outcome.{Outcome}
use Rattle.cam_know.specs.Knowledge.{Knowledge}
use Rattle.cam_know.specs.Invariant.{NoTwice}
use Rattle.cam_node.specs.declared.knowing.Mark.{Mark}
use Rattle.cam_node.specs.Knowing.{IsMark, standing}
use Rattle.cam_node.specs.Opened.{IsKnowledge}
use Rattle.cam_node.proofs.Firsts.{distinct_first}

pub standing_knowledge : (mark : Option Mark) (k : Knowledge) (outcomes : List Outcome) (counts :
    List ℕ) → IsMark mark k → outcomes ≡ k.outcomes → NoTwice outcomes
    → counts ≡ k.counts → AreCounts 1 counts → IsKnowledge (standing mark k)
standing_knowledge None k outcomes counts marked same distinct counted are = record {
  distinct =
      subst NoTwice same distinct;
  counts = subst (AreCounts 1) counted are;
}
standing_knowledge (Some mark) k outcomes counts marked same distinct counted are =
    record {
      distinct = distinct_first mark.outcomes k.outcomes (subst NoTwice same distinct);
      counts = marked.1;
    }
