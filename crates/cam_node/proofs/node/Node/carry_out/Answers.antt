-- A plan is carried out.
use Rattle.std.proofs.Common.{rules, ◌≡◌, ◌∙◌, IsTrue, IsErrOf, ℕ, List, refl, sym, subst}
use Rattle.cam_node.specs.declared.Stepped.{Stepped}
use Rattle.cam_node.specs.declared.fault.NodeFault.TheVariants.{DiskFault}
use Rattle.cam_node.specs.declared.state.Core.{Core}
use Rattle.cam_recman.specs.Says.{Says}
use Rattle.cam_recman.specs.Recovery.{with_records}
use Rattle.cam_node.specs.Ahead.{IsForgotten}
use Rattle.cam_node.specs.Appending.{HasAppended, OpensAsEither}
use Rattle.cam_node.specs.Calls.{answers, letters_of}
use Rattle.cam_node.specs.Halting.{IsStepThrough}
use Rattle.cam_node.specs.Keeping.{KeepsOn}
use Rattle.cam_node.specs.Planned.{planned_records}
use Rattle.cam_node.proofs.CarriedOut.{taken_entry, taken_halts, taken_keeps}
use Rattle.cam_node.proofs.CutOffs.{cut_as}
use Rattle.cam_node.proofs.Entered.{entry_would_say}
use Rattle.cam_node.proofs.KeptHalts.{keeps_halt}
use Rattle.cam_node.proofs.Moments.{stays_grows}
use Rattle.cam_node.proofs.TakenMoments.{by_halt, opens_after, taken_moments}
use Rattle.cam_node.proofs.node.Node.carry_out.Goals as goal

pub returns-in-Ok-clause-step : goal.returns-in-Ok-clause-step
returns-in-Ok-clause-step g c = λ input mail load before may.
    let new = answers c.take.new.self.core in
    subst (λ (s : Stepped). IsStepThrough c.args.self.now.objects before new input mail load s.event)
    (sym c.in-Ok.ensures.stepped) (may.planned.given.step new c.in-Ok.ensures.stands)

pub returns-in-Ok-clause-letters : goal.returns-in-Ok-clause-letters
returns-in-Ok-clause-letters g c = λ input mail load before may.
    let new = answers c.take.new.self.core in
    subst (λ (s : Stepped). s.letters ≡ letters_of new s.event.sent)
    (sym c.in-Ok.ensures.stepped) (may.planned.given.letters new c.in-Ok.ensures.stands)

pub returns-in-Ok-clause-keeps : goal.returns-in-Ok-clause-keeps
returns-in-Ok-clause-keeps g c = λ input mail load before may.
    let objects = c.args.self.now.objects in
    let log = c.args.self.now.log.log in
    let after = c.take.new.self.log.log in
    subst (λ (s : Stepped). KeepsOn objects before (g.L.EntryLog.listed log)
    (answers c.take.new.self.core) (g.L.EntryLog.listed after) input mail load s.event)
    (sym c.in-Ok.ensures.stepped)
    (taken_keeps objects input mail load c.args.plan c.args.self.now.core.knowing.known before
    (answers c.args.self.now.core) (answers c.take.new.self.core) (g.L.EntryLog.listed log)
    (g.L.EntryLog.listed after) c.in-Ok.ensures.knows c.in-Ok.ensures.range c.in-Ok.ensures.says
    c.in-Ok.ensures.stands may)

pub returns-in-Ok-clause-entry : goal.returns-in-Ok-clause-entry
returns-in-Ok-clause-entry g c = λ input mail load before may.
    let objects = c.args.self.now.objects in
    let old = c.args.self.now.log.log in
    let new = c.take.new.self.log.log in
    subst (λ (s : Stepped). HasAppended objects before input mail load s.event
    (g.L.EntryLog.listed old) (g.L.EntryLog.listed new) (g.L.EntryLog.passes old)
    (g.L.EntryLog.passes new))
    (sym c.in-Ok.ensures.stepped)
    (record {
      records = planned_records c.args.self.now.core.knowing.stands.counts c.args.plan;
      entry = taken_entry objects input mail load c.args.plan c.args.self.now.core.knowing.known
          before (answers c.args.self.now.core) may;
      listed = c.in-Ok.ensures.appended;
      spent = c.in-Ok.ensures.spent;
    })

pub returns-in-Ok-clause-any_moment : goal.returns-in-Ok-clause-any_moment
returns-in-Ok-clause-any_moment g c = λ tells input mail load before may.
    let log = c.args.self.now.log.log in
    let after = c.take.new.self.log.log in
    let rs = planned_records c.args.self.now.core.knowing.stands.counts c.args.plan in
    taken_moments c.args.self.now.objects input mail load c.args.plan
    c.args.self.now.core.knowing.known before (answers c.args.self.now.core)
    (answers c.take.new.self.core) (g.L.EntryLog.listed log) (g.L.EntryLog.moment log)
    (g.L.EntryLog.moment after) (g.L.EntryLog.opens_since log) (g.L.EntryLog.opens_since after)
    c.in-Ok.ensures.knows c.in-Ok.ensures.range
    (λ r says. subst (λ (entries : List (List ℕ)). Says entries (with_records r rs))
    c.in-Ok.ensures.appended (c.in-Ok.ensures.says r says))
    c.in-Ok.ensures.stands (c.take.ensures.any_moment tells) may

pub returns-in-Err-clause-any_moment : goal.returns-in-Err-clause-any_moment
returns-in-Err-clause-any_moment g c = λ tells input mail load before may.
    let objects = c.args.self.now.objects in
    let log = c.args.self.now.log.log in
    let after = c.take.new.self.log.log in
    let rs = planned_records c.args.self.now.core.knowing.stands.counts c.args.plan in
    by_halt c.take.new.self.log.halted
    (λ halted. taken_moments objects input mail load c.args.plan
    c.args.self.now.core.knowing.known before (answers c.args.self.now.core)
    (answers c.take.new.self.core) (g.L.EntryLog.listed log) (g.L.EntryLog.moment log)
    (g.L.EntryLog.moment after) (g.L.EntryLog.opens_since log) (g.L.EntryLog.opens_since after)
    (c.take.ensures.halted_knows halted) (c.take.ensures.halted_range halted)
    (λ r says. entry_would_say (g.L.EntryLog.listed log) rs rs r refl
    (c.take.ensures.halted_range halted) (c.take.ensures.halted_version halted) says)
    (c.take.ensures.halted_stands halted) (c.take.ensures.any_moment tells) may)
    (λ runs. stays_grows (g.L.EntryLog.moment log) (g.L.EntryLog.moment after)
    (g.L.EntryLog.opens_since log) (g.L.EntryLog.opens_since after) (g.L.EntryLog.seen log)
    (g.L.EntryLog.seen after) (g.L.EntryLog.faults log) (g.L.EntryLog.faults after)
    (OpensAsEither objects before (g.L.EntryLog.listed log) input mail load)
    (c.in-Err.ensures.unchanged runs))

pub returns-in-Err-clause-number : goal.returns-in-Err-clause-number
returns-in-Err-clause-number g c = c.forget.ensures.number ∙ c.take.ensures.number

pub returns-in-Err-clause-halt : goal.returns-in-Err-clause-halt
returns-in-Err-clause-halt g c = λ tells halted input mail load before may.
    let objects = c.args.self.now.objects in
    let log = c.args.self.now.log.log in
    let after = c.take.new.self.log.log in
    let there : IsTrue (g.L.EntryLog.tells after) = c.take.ensures.tells ∙ tells in
    let grows = c.take.ensures.any_moment tells in
    taken_halts objects input mail load c.args.plan c.args.self.now.core.knowing.known before
    (answers c.args.self.now.core) (answers c.take.new.self.core) (g.L.EntryLog.listed log)
    (g.L.EntryLog.moment log) (g.L.EntryLog.moment after) (g.L.EntryLog.opens_since log)
    (g.L.EntryLog.opens_since after) (c.take.ensures.halted_knows halted)
    (c.take.ensures.halted_range halted) (c.take.ensures.halted_version halted)
    (c.take.ensures.halted_stands halted)
    (λ o is. g.met.L.EntryLog.at_rest log o tells (c.args.self.now.log.whole c.requires.running) is)
    grows (λ o is. g.met.L.EntryLog.counts_now after (g.L.EntryLog.moment log) o there grows.later is)
    may

pub returns-in-Err-clause-same : goal.returns-in-Err-clause-same
returns-in-Err-clause-same g c = λ before forgets running.
    forgets (answers c.forget.new.self)
    (subst (λ (core : Core). IsForgotten c.args.ahead.now (answers core) (answers c.forget.new.self))
    (c.in-Err.ensures.core running) c.forget.ensures.forgotten)

pub returns-in-Err-clause-halted_at : goal.returns-in-Err-clause-halted_at
returns-in-Err-clause-halted_at g c = λ halted input mail load before may.
    keeps_halt c.args.self.now.objects input mail load c.args.plan
    c.args.self.now.core.knowing.known before (answers c.args.self.now.core)
    (answers c.take.new.self.core) (answers c.forget.new.self)
    (g.L.EntryLog.listed c.args.self.now.log.log) c.args.ahead.now c.take.new.self.halted_at
    (c.take.ensures.halted_knows halted) (c.take.ensures.halted_stands halted)
    c.forget.ensures.forgotten (c.take.ensures.halted_at halted) may

pub returns-in-Err-clause-cut_off : goal.returns-in-Err-clause-cut_off
returns-in-Err-clause-cut_off g c = λ is.
    let log = c.args.self.now.log.log in
    let after = c.take.new.self.log.log in
    let rs = planned_records c.args.self.now.core.knowing.stands.counts c.args.plan in
    let failed : IsErrOf c.take.result DiskFault = search rules in
    let halted : IsTrue c.take.new.self.log.halted = (c.take.ensures.disk_fault failed).1 in
    cut_as
    (λ calls did tells input mail load before may.
    opens_after c.args.self.now.objects input mail load c.args.plan
    c.args.self.now.core.knowing.known before (answers c.args.self.now.core)
    (answers c.take.new.self.core) (g.L.EntryLog.listed log) calls (g.L.EntryLog.reads after)
    (c.take.ensures.halted_knows halted) (c.take.ensures.halted_range halted)
    (c.take.ensures.some failed)
    (λ r says. entry_would_say (g.L.EntryLog.listed log) rs rs r refl
    (c.take.ensures.halted_range halted) (c.take.ensures.halted_version halted) says)
    (c.take.ensures.halted_stands halted) (did tells) may)
    (c.take.ensures.cut_off failed)

pub returns-in-Ok-clause-stood : goal.returns-in-Ok-clause-stood
returns-in-Ok-clause-stood g c = record {
  planned = c.in-Ok.ensures.stepped;
  stands = c.in-Ok.ensures.stands;
}
