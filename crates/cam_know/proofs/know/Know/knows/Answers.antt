use Rattle.std.proofs.Common.{ap, ◌∙◌, sym}
use Rattle.cam_know.specs.declared.Outcome.TheVariants.{Aborted, Committed}
use Rattle.cam_know.specs.Known.{knows}
use Rattle.cam_know.proofs.Outcomes.{abort_is_outcome}
use Rattle.cam_know.proofs.Distinct.{distinct_learnt}
use Rattle.cam_know.proofs.know.Know.knows.Goals as goal

pub returns-in-Aborted-clause-value : goal.returns-in-Aborted-clause-value
returns-in-Aborted-clause-value c =
    ap (λ e. e.aborted) c.entry.ensures ∙ c.self.invariant.indexed.aborted c.in-Aborted.name
    ∙ abort_is_outcome c.in-Aborted.name c.self.inside.outcomes.items
    ∙ ap (λ k. knows k (Aborted c.in-Aborted.name)) c.self.view_is
    ∙ ap (knows c.args.self.now) (sym c.in-Aborted.is)

pub returns-in-Committed-clause-value : goal.returns-in-Committed-clause-value
returns-in-Committed-clause-value c =
    c.has.ensures ∙ c.self.invariant.committed (record { name = c.in-Committed.name; deps = c.in-Committed.deps })
    ∙ ap (λ k. knows k (Committed c.in-Committed.name c.in-Committed.deps)) c.self.view_is
    ∙ ap (knows c.args.self.now) (sym c.in-Committed.is)

pub returns-in-Aborted-clause-distinct : goal.returns-in-Aborted-clause-distinct
returns-in-Aborted-clause-distinct c =
    distinct_learnt (record { outcomes = c.self.inside.outcomes.items; counts = c.self.inside.counts }) c.args.self.now c.args.outcome.now c.entry.result.aborted
    c.self.view_is c.self.invariant.distinct (returns-in-Aborted-clause-value c)

pub returns-in-Committed-clause-distinct : goal.returns-in-Committed-clause-distinct
returns-in-Committed-clause-distinct c =
    distinct_learnt (record { outcomes = c.self.inside.outcomes.items; counts = c.self.inside.counts }) c.args.self.now c.args.outcome.now c.has.result
    c.self.view_is c.self.invariant.distinct (returns-in-Committed-clause-value c)
