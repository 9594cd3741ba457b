use Rattle.std.proofs.Common.{◌≡◌, List, ◌++◌, ap, sym, subst, ◌∙◌}
use Rattle.std.proofs.lemmas.List.{take_all}
use Rattle.cam_know.specs.declared.Outcome.{Outcome}
use Rattle.cam_know.specs.Knowledge.{Knowledge}
use Rattle.cam_know.specs.Known.{unknown}
use Rattle.cam_know.specs.Invariant.{NoTwice}
use Rattle.cam_know.proofs.Distinct.{distinct_both}
use Rattle.cam_know.proofs.know.Know.unknown.Goals as goal

pub returns-clause-distinct : goal.returns-clause-distinct
returns-clause-distinct c other =
    let k = c.args.self.now in
    let is : c.loop-outcome.fresh ≡ unknown k c.args.outcomes.now =
    c.loop-outcome.invariant ∙ ap (unknown k) (take_all c.loop-outcome.outcome-index c.args.outcomes.now c.loop-outcome-test.false) in
    subst (λ (os : List Outcome). NoTwice (k.outcomes ++ os)) (sym is)
    (distinct_both k c.args.outcomes.now (subst (λ (l : Knowledge). NoTwice l.outcomes) c.self.view_is c.self.invariant.distinct) other)
