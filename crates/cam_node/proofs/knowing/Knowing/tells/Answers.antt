-- What stands is what is known, or the first of it.
use Rattle.std.proofs.Common.{Option, List, take, sym, ap, ◌∙◌}
use Rattle.std.specs.List.{list_any}
use Rattle.cam_know.specs.declared.Outcome.{Outcome}
use Rattle.cam_know.specs.Knowledge.{Knowledge}
use Rattle.cam_commit.specs.Calls.{is_decided}
use Rattle.cam_node.specs.declared.knowing.Mark.{Mark}
use Rattle.cam_node.specs.Knowing.{KnowingView, is_outcome_of, standing}
use Rattle.cam_node.proofs.StandingOutcomes.{decided_is, none_stands}
use Rattle.cam_node.proofs.knowing.Knowing.tells.Goals as goal

pub returns-in-None : goal.returns-in-None
returns-in-None c =
    let a = c.args.name.now in
    c.knows.ensures ∙ decided_is a c.args.self.now.known
    ∙ ap (λ (k : Knowledge). is_decided k a)
    (sym (ap (λ (v : KnowingView). v.known) c.self.view_is)
    ∙ ap (λ (m : Option Mark). standing m c.self.inside.know) (sym c.in-None.is)
    ∙ ap (λ (v : KnowingView). v.stands) c.self.view_is)

pub returns-then-knows : goal.returns-then-knows
returns-then-knows c =
    let a = c.args.name.now in
    let mark = c.in-Some.mark in
    c.stands_among.ensures
    ∙ ap (λ (os : List Outcome). list_any (is_outcome_of a) (take mark.outcomes os)) c.outcomes.ensures.value
    ∙ decided_is a (record { outcomes = take mark.outcomes c.self.inside.know.outcomes; counts = mark.counts })
    ∙ ap (λ (k : Knowledge). is_decided k a)
    (ap (λ (m : Option Mark). standing m c.self.inside.know) (sym c.in-Some.is)
    ∙ ap (λ (v : KnowingView). v.stands) c.self.view_is)

pub returns-else-knows : goal.returns-else-knows
returns-else-knows c =
    let a = c.args.name.now in
    let mark = c.in-Some.mark in
    none_stands a mark.outcomes c.self.inside.know mark.counts c.knows-in-Some.result
    (c.knows-in-Some.ensures
    ∙ sym (ap (λ (v : KnowingView). list_any (is_outcome_of a) v.known.outcomes) c.self.view_is))
    c.if-knows.false
    ∙ ap (λ (k : Knowledge). is_decided k a)
    (ap (λ (m : Option Mark). standing m c.self.inside.know) (sym c.in-Some.is)
    ∙ ap (λ (v : KnowingView). v.stands) c.self.view_is)
