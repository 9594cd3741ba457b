-- A vote comes.
use Rattle.std.proofs.Common.{ℕ, List, refl, ap, ◌∙◌}
use Rattle.std.proofs.lemmas.Result.{IfOk-weaker}
use Rattle.cam_know.specs.declared.Outcome.TheVariants.{Aborted, Committed}
use Rattle.cam_event.specs.declared.Note.TheVariants as notes
use Rattle.cam_commit.specs.Calls as commit
use Rattle.cam_commit.specs.Calls.{yes, voted_by}
use Rattle.cam_node.specs.declared.vote_arrives.Vote.{Vote}
use Rattle.cam_node.specs.declared.state.Core.{Core}
use Rattle.cam_node.specs.Calls.{answers}
use Rattle.cam_node.specs.DecideRules.{news_to}
use Rattle.cam_node.specs.Plans.{IsPlanFor}
use Rattle.cam_node.specs.Standing.{MayStand}
use Rattle.cam_node.specs.Planning.{IsMade, IsMadeDeciding}
use Rattle.cam_node.proofs.LetterPlans.{same_then}
use Rattle.cam_node.proofs.VoteDecides.{all_plan, no_plan, vote_may}
use Rattle.cam_node.proofs.VotePlans.{late_plan, over_plan, with_families}
use Rattle.cam_node.proofs.CountedPlan.{counted_plan}
use Rattle.cam_node.proofs.state.Core.vote_comes.Goals as goal

pub returns-then-is_over-clause-plan : goal.returns-then-is_over-clause-plan
returns-then-is_over-clause-plan c = λ objects.
    IfOk-weaker c.planned.result
    (λ plan. IsMade c.receive.new.self c.args.id.now c.in_ok-learnt.learnt c.nothing_but.result
    plan)
    (λ plan. IsPlanFor objects c.args.id.now c.args.letter.now c.args.self.now c.receive.new.self
    plan)
    (λ plan made.
    over_plan objects c.args.id.now c.args.letter.now c.args.self.now c.receive.new.self
    c.in_ok-learnt.learnt c.args.family.now c.args.count c.args.yes c.nothing_but.result plan
    c.requires.from
    c.requires.body c.in_ok-learnt.ensures.received c.if-is_over.ensures c.nothing_but.ensures
    made)
    c.planned.ensures

pub returns-in_err-reserve-in-Some-clause-same : goal.returns-in_err-reserve-in-Some-clause-same
returns-in_err-reserve-in-Some-clause-same c =
    with_families (answers c.args.self.now) (answers c.receive.new.self)
    (commit.answers c.reserve.new.self)
    c.receive.ensures.same c.reserve.ensures.same

pub returns-in_ok-reserve-in-Some-clause-same : goal.returns-in_ok-reserve-in-Some-clause-same
returns-in_ok-reserve-in-Some-clause-same c =
    with_families (answers c.args.self.now) (answers c.receive.new.self)
    (commit.answers c.reserve.new.self)
    c.receive.ensures.same c.reserve.ensures.same

pub returns-in-Late-clause-plan : goal.returns-in-Late-clause-plan
returns-in-Late-clause-plan c = λ objects.
    let core : Core = c.receive.new.self in
    IfOk-weaker c.planned-in-Late.result
    (λ plan. IsMade core c.args.id.now c.in_ok-learnt.learnt c.nothing_but-in-Late.result plan)
    (λ plan. IsPlanFor objects c.args.id.now c.args.letter.now c.args.self.now core plan)
    (λ plan made.
    late_plan objects c.args.id.now c.args.letter.now c.args.self.now core
    c.in_ok-learnt.learnt c.args.family.now c.args.count c.args.yes c.nothing_but-in-Late.result
    plan
    c.requires.from c.requires.body c.in_ok-learnt.ensures.received c.if-is_over.ensures
    (c.in-Late.ensures
    ∙ ap (λ (ds : List ℕ). voted_by (answers core).families
    (yes c.args.family.now c.args.letter.now.from c.args.count) c.args.yes ds)
    c.deps_of.ensures)
    c.nothing_but-in-Late.ensures made)
    c.planned-in-Late.ensures

pub returns-in_ok-reserve-in-Some-clause-plan : goal.returns-in_ok-reserve-in-Some-clause-plan
returns-in_ok-reserve-in-Some-clause-plan c = λ objects.
    let core : Core = c.receive.new.self in
    let now : Core = record c.receive.new.self {
      families = c.reserve.new.self;
      counted = c.self-1.given.0;
    } in
    let vote : Vote = record {
      family = c.args.family.now;
      node = c.args.letter.now.from;
      count = c.args.count;
      yes = c.args.yes;
      deps = c.deps_of.result;
    } in
    IfOk-weaker c.planned-in-Some.result
    (λ plan. IsMade now c.args.id.now c.in_ok-learnt.learnt c.counts.result plan)
    (λ plan. IsPlanFor objects c.args.id.now c.args.letter.now c.args.self.now now plan)
    (λ plan made.
    counted_plan objects c.args.id.now c.args.letter.now c.args.self.now core now
    c.in_ok-learnt.learnt vote c.counts.result plan c.requires.from c.requires.body refl
    c.deps_of.ensures
    c.in_ok-learnt.ensures.received refl
    (with_families (answers c.args.self.now) (answers core) (commit.answers c.reserve.new.self)
    c.receive.ensures.same c.reserve.ensures.same)
    c.if-is_over.ensures
    (c.in-Some.ensures
    ∙ ap (λ (ds : List ℕ). voted_by (answers core).families
    (yes c.args.family.now c.args.letter.now.from c.args.count) c.args.yes ds)
    c.deps_of.ensures)
    c.counts.ensures made)
    c.planned-in-Some.ensures

pub returns-in_ok-sent-in-No-clause-same : goal.returns-in_ok-sent-in-No-clause-same
returns-in_ok-sent-in-No-clause-same c =
    same_then (answers c.args.self.now) (answers c.receive.new.self) (answers c.decides.new.self)
    c.receive.ensures.same c.decides.ensures.same

pub returns-in_ok-sent-in-No-clause-plan : goal.returns-in_ok-sent-in-No-clause-plan
returns-in_ok-sent-in-No-clause-plan c = λ objects.
    let core : Core = c.receive.new.self in
    IfOk-weaker c.decides.result
    (λ plan. IsMadeDeciding core c.decides.new.self c.args.id.now c.in_ok-learnt.learnt
    (Aborted c.args.family.now) c.in_ok-sent-in-No.sent notes.Plain plan)
    (λ plan. IsPlanFor objects c.args.id.now c.args.letter.now c.args.self.now c.decides.new.self
    plan)
    (λ plan made.
    no_plan objects c.args.id.now c.args.letter.now c.args.self.now core c.decides.new.self
    c.in_ok-learnt.learnt c.args.family.now c.args.count c.args.yes c.in_ok-sent-in-No.sent plan
    c.requires.from c.requires.body c.in_ok-learnt.ensures.received c.if-is_over.ensures
    (c.in-No.ensures
    ∙ ap (λ (ds : List ℕ). voted_by (answers core).families
    (yes c.args.family.now c.args.letter.now.from c.args.count) c.args.yes ds)
    c.deps_of.ensures)
    (c.in_ok-sent-in-No.ensures.exactly ∙ ap (news_to core.number) c.deps_of.ensures)
    c.decides.ensures.same c.decides.ensures.actions made)
    c.decides.ensures.made

pub returns-in_ok-sent-in-No-clause-may : goal.returns-in_ok-sent-in-No-clause-may
returns-in_ok-sent-in-No-clause-may c =
    IfOk-weaker c.decides.result
    (λ plan. IsMadeDeciding c.receive.new.self c.decides.new.self c.args.id.now
    c.in_ok-learnt.learnt
    (Aborted c.args.family.now) c.in_ok-sent-in-No.sent notes.Plain plan)
    (λ plan. MayStand plan c.decides.new.self)
    (λ plan made.
    vote_may c.receive.new.self c.decides.new.self c.receive.new.self.count c.args.id.now
    c.in_ok-learnt.learnt (Aborted c.args.family.now) c.args.family.now c.in_ok-sent-in-No.sent
    plan refl
    c.if-is_over.ensures made)
    c.decides.ensures.made

pub returns-in_ok-sent-in-All-clause-same : goal.returns-in_ok-sent-in-All-clause-same
returns-in_ok-sent-in-All-clause-same c =
    same_then (answers c.args.self.now) (answers c.receive.new.self)
    (answers c.decides-in-All.new.self)
    c.receive.ensures.same c.decides-in-All.ensures.same

pub returns-in_ok-sent-in-All-clause-plan : goal.returns-in_ok-sent-in-All-clause-plan
returns-in_ok-sent-in-All-clause-plan c = λ objects.
    let core : Core = c.receive.new.self in
    IfOk-weaker c.decides-in-All.result
    (λ plan. IsMadeDeciding core c.decides-in-All.new.self c.args.id.now c.in_ok-learnt.learnt
    (Committed c.args.family.now c.deps_of.result) c.in_ok-sent-in-All.sent notes.Plain plan)
    (λ plan. IsPlanFor objects c.args.id.now c.args.letter.now c.args.self.now
    c.decides-in-All.new.self plan)
    (λ plan made.
    all_plan objects c.args.id.now c.args.letter.now c.args.self.now core
    c.decides-in-All.new.self
    c.in_ok-learnt.learnt c.args.family.now c.args.count c.args.yes c.deps_of.result
    c.in_ok-sent-in-All.sent plan c.requires.from c.requires.body
    c.in_ok-learnt.ensures.received
    c.if-is_over.ensures
    (c.in-All.ensures
    ∙ ap (λ (ds : List ℕ). voted_by (answers core).families
    (yes c.args.family.now c.args.letter.now.from c.args.count) c.args.yes ds)
    c.deps_of.ensures)
    (c.in_ok-sent-in-All.ensures.exactly ∙ ap (news_to core.number) c.deps_of.ensures)
    c.deps_of.ensures
    c.decides-in-All.ensures.same c.decides-in-All.ensures.actions made)
    c.decides-in-All.ensures.made

pub returns-in_ok-sent-in-All-clause-may : goal.returns-in_ok-sent-in-All-clause-may
returns-in_ok-sent-in-All-clause-may c =
    IfOk-weaker c.decides-in-All.result
    (λ plan. IsMadeDeciding c.receive.new.self c.decides-in-All.new.self c.args.id.now
    c.in_ok-learnt.learnt (Committed c.args.family.now c.deps_of.result) c.in_ok-sent-in-All.sent
    notes.Plain plan)
    (λ plan. MayStand plan c.decides-in-All.new.self)
    (λ plan made.
    vote_may c.receive.new.self c.decides-in-All.new.self c.receive.new.self.count c.args.id.now
    c.in_ok-learnt.learnt (Committed c.args.family.now c.deps_of.result) c.args.family.now
    c.in_ok-sent-in-All.sent plan refl c.if-is_over.ensures made)
    c.decides-in-All.ensures.made
