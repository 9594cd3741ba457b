-- A step of a node.
use Rattle.std.proofs.Common.{None, IfOk, sym, subst}
use Rattle.cam_event.specs.declared.Want.{Want}
use Rattle.cam_event.specs.Inputs.{Requests}
use Rattle.cam_event.specs.Loads.{no_load}
use Rattle.cam_node.specs.declared.Input.{Input}
use Rattle.cam_log.specs.Moments.{Grows}
use Rattle.cam_node.specs.Appending.{HasAppended, OpensAfter, OpensAsEither}
use Rattle.cam_node.specs.Calls.{answers, input_of, load_of, mail_of}
use Rattle.cam_node.specs.Found.{HaltsAt}
use Rattle.cam_node.specs.Keeping.{KeepsOn}
use Rattle.cam_node.proofs.CutOffs.{cut_as}
use Rattle.cam_node.proofs.node.Node.step.Goals as goal

pub returns-in-Letter-clause-keeps : goal.returns-in-Letter-clause-keeps
returns-in-Letter-clause-keeps g c =
    subst (λ (i : Input). IfOk c.letter.result (λ stepped. KeepsOn c.args.self.now.objects (answers
    c.args.self.now.core)
    (g.L.EntryLog.listed c.args.self.now.log.log) (answers c.letter.new.self.core)
    (g.L.EntryLog.listed c.letter.new.self.log.log)
    (input_of c.args.self.now.core.number i) (mail_of i) (load_of i) stepped.event)) (sym
    c.in-Letter.is) c.letter.ensures.keeps

pub returns-in-GiveUp-clause-keeps : goal.returns-in-GiveUp-clause-keeps
returns-in-GiveUp-clause-keeps g c =
    subst (λ (i : Input). IfOk c.give_up.result (λ stepped. KeepsOn c.args.self.now.objects (answers
    c.args.self.now.core)
    (g.L.EntryLog.listed c.args.self.now.log.log) (answers c.give_up.new.self.core)
    (g.L.EntryLog.listed c.give_up.new.self.log.log)
    (input_of c.args.self.now.core.number i) (mail_of i) (load_of i) stepped.event)) (sym
    c.in-Request.is)
    (subst (λ (w : Want). IfOk c.give_up.result (λ stepped. KeepsOn c.args.self.now.objects (answers
    c.args.self.now.core)
    (g.L.EntryLog.listed c.args.self.now.log.log) (answers c.give_up.new.self.core)
    (g.L.EntryLog.listed c.give_up.new.self.log.log)
    (Requests (record { action = c.in-Request.request.action; want = w })) None no_load
    stepped.event)) (sym c.in-GiveUp.is) c.give_up.ensures.keeps)

pub returns-in-Letter-clause-entry : goal.returns-in-Letter-clause-entry
returns-in-Letter-clause-entry g c =
    let old = c.args.self.now in
    let new = c.letter.new.self in
    subst (λ (i : Input). IfOk c.letter.result (λ stepped. HasAppended old.objects
    (answers old.core) (input_of old.core.number i) (mail_of i) (load_of i) stepped.event
    (g.L.EntryLog.listed old.log.log) (g.L.EntryLog.listed new.log.log)
    (g.L.EntryLog.passes old.log.log) (g.L.EntryLog.passes new.log.log)))
    (sym c.in-Letter.is) c.letter.ensures.entry

pub returns-in-Letter-clause-any_moment : goal.returns-in-Letter-clause-any_moment
returns-in-Letter-clause-any_moment g c = λ tells.
    let old = c.args.self.now in
    let new = c.letter.new.self in
    subst (λ (i : Input). Grows (g.L.EntryLog.moment old.log.log)
    (g.L.EntryLog.moment new.log.log) (g.L.EntryLog.opens_since old.log.log)
    (g.L.EntryLog.opens_since new.log.log) (OpensAsEither old.objects (answers old.core)
    (g.L.EntryLog.listed old.log.log) (input_of old.core.number i) (mail_of i) (load_of i)))
    (sym c.in-Letter.is) (c.letter.ensures.any_moment tells)

pub returns-in-GiveUp-clause-entry : goal.returns-in-GiveUp-clause-entry
returns-in-GiveUp-clause-entry g c =
    let old = c.args.self.now in
    let new = c.give_up.new.self in
    subst (λ (i : Input). IfOk c.give_up.result (λ stepped. HasAppended old.objects
    (answers old.core) (input_of old.core.number i) (mail_of i) (load_of i) stepped.event
    (g.L.EntryLog.listed old.log.log) (g.L.EntryLog.listed new.log.log)
    (g.L.EntryLog.passes old.log.log) (g.L.EntryLog.passes new.log.log)))
    (sym c.in-Request.is)
    (subst (λ (w : Want). IfOk c.give_up.result (λ stepped. HasAppended old.objects
    (answers old.core) (Requests (record { action = c.in-Request.request.action; want = w })) None
    no_load stepped.event (g.L.EntryLog.listed old.log.log) (g.L.EntryLog.listed new.log.log)
    (g.L.EntryLog.passes old.log.log) (g.L.EntryLog.passes new.log.log)))
    (sym c.in-GiveUp.is) c.give_up.ensures.entry)

pub returns-in-GiveUp-clause-any_moment : goal.returns-in-GiveUp-clause-any_moment
returns-in-GiveUp-clause-any_moment g c = λ tells.
    let old = c.args.self.now in
    let new = c.give_up.new.self in
    subst (λ (i : Input). Grows (g.L.EntryLog.moment old.log.log)
    (g.L.EntryLog.moment new.log.log) (g.L.EntryLog.opens_since old.log.log)
    (g.L.EntryLog.opens_since new.log.log) (OpensAsEither old.objects (answers old.core)
    (g.L.EntryLog.listed old.log.log) (input_of old.core.number i) (mail_of i) (load_of i)))
    (sym c.in-Request.is)
    (subst (λ (w : Want). Grows (g.L.EntryLog.moment old.log.log)
    (g.L.EntryLog.moment new.log.log) (g.L.EntryLog.opens_since old.log.log)
    (g.L.EntryLog.opens_since new.log.log) (OpensAsEither old.objects (answers old.core)
    (g.L.EntryLog.listed old.log.log)
    (Requests (record { action = c.in-Request.request.action; want = w })) None no_load))
    (sym c.in-GiveUp.is) (c.give_up.ensures.any_moment tells))

pub returns-in-Letter-clause-halted_at : goal.returns-in-Letter-clause-halted_at
returns-in-Letter-clause-halted_at g c = λ halted.
    let old = c.args.self.now in
    let new = c.letter.new.self in
    subst (λ (i : Input). HaltsAt old.objects (answers old.core)
    (g.L.EntryLog.listed old.log.log) (input_of old.core.number i) (mail_of i) (load_of i)
    (answers new.core) new.halted_at)
    (sym c.in-Letter.is) (c.letter.ensures.halted_at halted)

pub returns-in-GiveUp-clause-halted_at : goal.returns-in-GiveUp-clause-halted_at
returns-in-GiveUp-clause-halted_at g c = λ halted.
    let old = c.args.self.now in
    let new = c.give_up.new.self in
    subst (λ (i : Input). HaltsAt old.objects (answers old.core)
    (g.L.EntryLog.listed old.log.log) (input_of old.core.number i) (mail_of i) (load_of i)
    (answers new.core) new.halted_at)
    (sym c.in-Request.is)
    (subst (λ (w : Want). HaltsAt old.objects (answers old.core)
    (g.L.EntryLog.listed old.log.log)
    (Requests (record { action = c.in-Request.request.action; want = w })) None no_load
    (answers new.core) new.halted_at)
    (sym c.in-GiveUp.is) (c.give_up.ensures.halted_at halted))

pub returns-in-Letter-clause-cut_off : goal.returns-in-Letter-clause-cut_off
returns-in-Letter-clause-cut_off g c = λ failed.
    let old = c.args.self.now in
    let new = c.letter.new.self in
    cut_as
    (λ calls did tells.
    subst (λ (i : Input). OpensAfter calls old.objects (answers old.core)
    (g.L.EntryLog.listed old.log.log) (input_of old.core.number i) (mail_of i) (load_of i)
    (g.L.EntryLog.reads new.log.log)) (sym c.in-Letter.is) (did tells))
    (c.letter.ensures.cut_off failed)

pub returns-in-GiveUp-clause-cut_off : goal.returns-in-GiveUp-clause-cut_off
returns-in-GiveUp-clause-cut_off g c = λ failed.
    let old = c.args.self.now in
    let new = c.give_up.new.self in
    cut_as
    (λ calls did tells.
    subst (λ (i : Input). OpensAfter calls old.objects (answers old.core)
    (g.L.EntryLog.listed old.log.log) (input_of old.core.number i) (mail_of i) (load_of i)
    (g.L.EntryLog.reads new.log.log)) (sym c.in-Request.is)
    (subst (λ (w : Want). OpensAfter calls old.objects (answers old.core)
    (g.L.EntryLog.listed old.log.log)
    (Requests (record { action = c.in-Request.request.action; want = w })) None no_load
    (g.L.EntryLog.reads new.log.log)) (sym c.in-GiveUp.is) (did tells)))
    (c.give_up.ensures.cut_off failed)
