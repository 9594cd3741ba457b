-- The event stands: what it learnt, and then what it changes.
use Rattle.std.proofs.Common.{◌≤◌, ◌∙◌, sym, subst}
use Rattle.cam_event.specs.declared.Want.TheVariants as wants
use Rattle.cam_commit.specs.Families.{Families}
use Rattle.cam_tranman.specs.Actions.{Actions}
use Rattle.cam_tranman.specs.Calls.{IsFree, after_start}
use Rattle.cam_node.specs.declared.plan.Change.{Change}
use Rattle.cam_node.specs.Calls.{answers}
use Rattle.cam_node.specs.Standing.{MayChange, Stands, after_answer}
use Rattle.cam_node.proofs.SecureStands.{families_stand}
use Rattle.cam_node.proofs.Stands.{acts_stand}
use Rattle.cam_node.proofs.state.Core.change.Goals as goal

pub returns-in-Started : goal.returns-in-Started
returns-in-Started c =
    subst
    (λ (change : Change). Stands change c.args.heard.now c.args.self.now.knowing.known
    (answers c.args.self.now)
    (answers c.start_stands.new.self))
    (sym c.in-Started.is)
    (acts_stand c.args.heard.now c.args.self.now.knowing.known
    (after_start c.in-Started.child c.in-Started.deps)
    (answers c.args.self.now) (answers c.learnt_stands.new.self) (answers c.start_stands.new.self)
    c.learnt_stands.ensures.learnt
    c.start_stands.ensures)

pub returns-in-Answered : goal.returns-in-Answered
returns-in-Answered c =
    subst
    (λ (change : Change). Stands change c.args.heard.now c.args.self.now.knowing.known
    (answers c.args.self.now)
    (answers c.answer_stands.new.self))
    (sym c.in-Answered.is)
    (acts_stand c.args.heard.now c.args.self.now.knowing.known
    (after_answer c.in-Answered.action c.in-Answered.number c.in-Answered.reply c.in-Answered.known)
    (answers c.args.self.now) (answers c.learnt_stands.new.self) (answers c.answer_stands.new.self)
    c.learnt_stands.ensures.learnt
    c.answer_stands.ensures)

-- Nothing stands against giving up the child, once what was learnt stands.
pub gave_up_stands-requires-clause-free : goal.gave_up_stands-requires-clause-free
gave_up_stands-requires-clause-free c =
    let may =
    subst (λ (change : Change). MayChange change c.args.heard.now c.args.self.now) c.in-GaveUp.is c.requires.change in
    subst (λ (actions : Actions). IsFree actions c.in-GaveUp.action (wants.GiveUp c.in-GaveUp.child))
    (sym c.learnt_stands.ensures.learnt.actions) may.1

-- The family is not preparing, once what was learnt stands.
pub preparation_stands-requires-clause-begins : goal.preparation_stands-requires-clause-begins
preparation_stands-requires-clause-begins c =
    let may =
    subst (λ (change : Change). MayChange change c.args.heard.now c.args.self.now) c.in-Prepared.is c.requires.change in
    (λ i. (c.learnt_stands.ensures.learnt.families i).is_preparing c.in-Prepared.family) ∙ may.1

-- There is room for the family, and it is secured.
pub secure_stands-requires : goal.secure_stands-requires
secure_stands-requires c =
    subst (λ (families : Families). 1 ≤ families.room) (sym c.learnt_stands.ensures.learnt.families)
    (subst (λ (change : Change). MayChange change c.args.heard.now c.args.self.now) c.in-Secured.is
    c.requires.change)

pub returns-in-Secured : goal.returns-in-Secured
returns-in-Secured c =
    subst
    (λ (change : Change). Stands change c.args.heard.now c.args.self.now.knowing.known
    (answers c.args.self.now) (answers c.secure_stands.new.self))
    (sym c.in-Secured.is)
    (families_stand c.args.heard.now c.args.self.now.knowing.known c.in-Secured.family
    (answers c.args.self.now) (answers c.learnt_stands.new.self) (answers c.secure_stands.new.self)
    c.learnt_stands.ensures.learnt c.secure_stands.ensures)
