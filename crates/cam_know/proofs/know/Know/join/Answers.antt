use Rattle.cam_know.proofs.Distinct.{known_greater}
use Rattle.cam_know.proofs.know.Know.join.Goals as goal

pub invariant_of-self : goal.invariant_of-self
invariant_of-self c =
    known_greater c.self.inside.outcomes.items c.self.inside.index c.self.inside.commits c.self.inside.counts c.other.inside.counts c.greater-self-inside.result
    c.greater-self-inside.ensures c.other.invariant.counted c.self.invariant
