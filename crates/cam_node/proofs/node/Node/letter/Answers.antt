-- A letter comes.
use Rattle.std.proofs.Common.{rules, ◌≡◌, false, Some, refl, sym, ◌∙◌, subst}
use Rattle.cam_comman.specs.Letters.{load_on}
use Rattle.cam_event.specs.Inputs.{Receives}
use Rattle.cam_node.specs.Ahead.{CanForget}
use Rattle.cam_node.specs.Calls.{answers, mail_on, AreSame}
use Rattle.cam_node.specs.Holdings.{held_after_letter, holdings}
use Rattle.cam_node.specs.Planned.{MayBeTaken}
use Rattle.cam_node.specs.Represents.{Node}
use Rattle.cam_node.specs.Served.{is_call}
use Rattle.cam_node.proofs.CutOffs.{cut_as}
use Rattle.cam_node.proofs.Unasked.{letter_unasked, of_each, others_unasked}
use Rattle.cam_node.proofs.node.Node.letter.Goals as goal

-- A call that may have gone ahead.
pub returns-in_ok-plan-in-Call-clause-step : goal.returns-in_ok-plan-in-Call-clause-step
returns-in_ok-plan-in-Call-clause-step g c =
    c.carry_out.ensures.step _ _ _ (answers c.args.self.now.core) (record {
      planned = c.in_ok-plan-in-Call.ensures.plan c.args.self.now.objects;
      node = c.args.self.now.numbered;
      know = c.call_of_kind.ensures.know;
      goes_on = refl;
    })

pub returns-in_ok-plan-in-Call-clause-letters : goal.returns-in_ok-plan-in-Call-clause-letters
returns-in_ok-plan-in-Call-clause-letters g c =
    c.carry_out.ensures.letters (Receives c.args.id.now) _ (load_on c.args.letter.now)
    (answers c.args.self.now.core) (record {
      planned = c.in_ok-plan-in-Call.ensures.plan c.args.self.now.objects;
      node = c.args.self.now.numbered;
      know = c.call_of_kind.ensures.know;
      goes_on = refl;
    })

pub returns-in_ok-plan-in-Call-clause-keeps : goal.returns-in_ok-plan-in-Call-clause-keeps
returns-in_ok-plan-in-Call-clause-keeps g c =
    c.carry_out.ensures.keeps _ _ _ (answers c.args.self.now.core) (record {
      planned = c.in_ok-plan-in-Call.ensures.plan c.args.self.now.objects;
      node = c.args.self.now.numbered;
      know = c.call_of_kind.ensures.know;
      goes_on = refl;
    })

pub returns-in_ok-plan-in-Call-clause-entry : goal.returns-in_ok-plan-in-Call-clause-entry
returns-in_ok-plan-in-Call-clause-entry g c =
    c.carry_out.ensures.entry _ _ _ (answers c.args.self.now.core) (record {
      planned = c.in_ok-plan-in-Call.ensures.plan c.args.self.now.objects;
      node = c.args.self.now.numbered;
      know = c.call_of_kind.ensures.know;
      goes_on = refl;
    })

pub returns-in_ok-plan-in-Call-clause-any_moment :
    goal.returns-in_ok-plan-in-Call-clause-any_moment
returns-in_ok-plan-in-Call-clause-any_moment g c = λ tells.
    c.carry_out.ensures.any_moment tells _ _ _ (answers c.args.self.now.core) (record {
      planned = c.in_ok-plan-in-Call.ensures.plan c.args.self.now.objects;
      node = c.args.self.now.numbered;
      know = c.call_of_kind.ensures.know;
      goes_on = refl;
    })

pub returns-in_ok-plan-in-Call-clause-number : goal.returns-in_ok-plan-in-Call-clause-number
returns-in_ok-plan-in-Call-clause-number g c =
    c.carry_out.ensures.number ∙ c.call_of_kind.ensures.number

pub returns-in_ok-plan-in-Call-clause-halt : goal.returns-in_ok-plan-in-Call-clause-halt
returns-in_ok-plan-in-Call-clause-halt g c = λ tells halted.
    c.carry_out.ensures.halt tells halted _ _ _ (answers c.args.self.now.core) (record {
      planned = c.in_ok-plan-in-Call.ensures.plan c.args.self.now.objects;
      node = c.args.self.now.numbered;
      know = c.call_of_kind.ensures.know;
      goes_on = refl;
    })

pub returns-in_ok-plan-in-Call-clause-halted_at :
    goal.returns-in_ok-plan-in-Call-clause-halted_at
returns-in_ok-plan-in-Call-clause-halted_at g c = λ halted.
    c.carry_out.ensures.halted_at halted (Receives c.args.id.now)
    (Some (mail_on c.args.letter.now)) (load_on c.args.letter.now)
    (answers c.args.self.now.core) (record {
      planned = c.in_ok-plan-in-Call.ensures.plan c.args.self.now.objects;
      node = c.args.self.now.numbered;
      know = c.call_of_kind.ensures.know;
      goes_on = refl;
    })

pub returns-in_ok-plan-in-Call-clause-cut_off : goal.returns-in_ok-plan-in-Call-clause-cut_off
returns-in_ok-plan-in-Call-clause-cut_off g c = λ failed.
    cut_as
    (λ calls did tells. did tells (Receives c.args.id.now) (Some (mail_on c.args.letter.now))
    (load_on c.args.letter.now) (answers c.args.self.now.core) (record {
      planned = c.in_ok-plan-in-Call.ensures.plan c.args.self.now.objects;
      node = c.args.self.now.numbered;
      know = c.call_of_kind.ensures.know;
      goes_on = refl;
    }))
    (c.carry_out.ensures.cut_off failed)

pub returns-in_ok-plan-in-Call-clause-same : goal.returns-in_ok-plan-in-Call-clause-same
returns-in_ok-plan-in-Call-clause-same g c =
    c.carry_out.ensures.same (answers c.args.self.now.core)
    (subst (CanForget (answers c.args.self.now.core) (answers c.call_of_kind.new.self))
    (sym c.ahead-ahead.ensures) c.in_ok-plan-in-Call.ensures.forgotten)

-- Any other letter.
pub returns-in_ok-plan-in_default : goal.returns-in_ok-plan-in_default
returns-in_ok-plan-in_default g c =
    let old : Node = answers c.args.self.now.core in
    let may : MayBeTaken c.args.self.now.objects (Receives c.args.id.now)
    (Some (mail_on c.args.letter.now)) (load_on c.args.letter.now) c.in_ok-plan-in_default.plan
    c.comes.new.self.knowing.known old (answers c.comes.new.self) = record {
      planned = c.in_ok-plan-in_default.ensures.plan c.args.self.now.objects;
      node = c.args.self.now.numbered;
      know = c.comes.ensures.same.know;
      goes_on = refl;
    } in
    let then = c.carry_out-in_default.ensures in
    let no : is_call c.args.letter.now.body ≡ false = search rules in
    let all = holdings (g.R.DataType.held c.args.register.now) (g.Q.DataType.held c.args.queue.now)
    (g.C.DataType.held c.args.counter.now) in
    record {
      step = then.step _ _ _ old may;
      letters = then.letters (Receives c.args.id.now) _ (load_on c.args.letter.now) old may;
      keeps = then.keeps _ _ _ old may;
      entry = then.entry _ _ _ old may;
      any_moment = λ tells. then.any_moment tells _ _ _ old may;
      cut_off = λ failed. cut_as
          (λ calls did tells. did tells (Receives c.args.id.now)
          (Some (mail_on c.args.letter.now)) (load_on c.args.letter.now) old may)
          (then.cut_off failed);
      unbounded = then.unbounded;
      broken = then.broken;
      stopped = then.stopped;
      number = then.number ∙ c.comes.ensures.same.number;
      generation = then.generation;
      runs = then.runs;
      same = then.same old (λ new stays. subst (AreSame old) (sym stays) c.comes.ensures.same);
      halt = λ tells halted. then.halt tells halted _ _ _ old may;
      halted_at = λ halted. then.halted_at halted (Receives c.args.id.now)
          (Some (mail_on c.args.letter.now)) (load_on c.args.letter.now) old may;
      no_halt = then.no_halt;
      not_listed = then.not_listed;
      unchanged = then.unchanged;
      tells = then.tells;
      not_called = then.not_called;
      later = then.later;
      faults_within = then.faults_within;
      disk_fault = then.disk_fault;
      objects = then.objects;
      served = of_each c.carry_out-in_default.result
          (λ stepped. all ≡ held_after_letter old.server.table.site
          (answers c.carry_out-in_default.new.self.core).server.table.site
          c.args.letter.now.body stepped.event.deeds all)
          (λ stepped. letter_unasked old.server.table.site
          (answers c.carry_out-in_default.new.self.core).server.table.site
          c.args.letter.now.body stepped.event.deeds all no);
      others = others_unasked old.server.table.site c.args.letter.now.body all no;
      register_stays = refl;
      queue_stays = refl;
      counter_stays = refl;
    }
