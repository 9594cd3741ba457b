-- A child is given up.
use Rattle.std.proofs.Common.{None, refl, sym, ◌∙◌, subst}
use Rattle.cam_event.specs.Loads.{no_load}
use Rattle.cam_node.specs.Calls.{answers, AreSame}
use Rattle.cam_node.specs.GivingUp.{giving_up}
use Rattle.cam_node.proofs.CutOffs.{cut_as}
use Rattle.cam_node.proofs.node.Node.give_up.Goals as goal

pub returns-clause-step : goal.returns-clause-step
returns-clause-step g c =
    c.carry_out.ensures.step _ _ _ (answers c.args.self.now.core) (record {
      planned = c.in_ok-plan.ensures.plan c.args.self.now.objects;
      node = c.args.self.now.numbered;
      know = c.give_up.ensures.same.know;
      goes_on = refl;
    })

pub returns-clause-letters : goal.returns-clause-letters
returns-clause-letters g c =
    c.carry_out.ensures.letters (giving_up c.args.action.now c.args.child.now) None no_load
    (answers c.args.self.now.core) (record {
      planned = c.in_ok-plan.ensures.plan c.args.self.now.objects;
      node = c.args.self.now.numbered;
      know = c.give_up.ensures.same.know;
      goes_on = refl;
    })

pub returns-clause-keeps : goal.returns-clause-keeps
returns-clause-keeps g c =
    c.carry_out.ensures.keeps _ _ _ (answers c.args.self.now.core) (record {
      planned = c.in_ok-plan.ensures.plan c.args.self.now.objects;
      node = c.args.self.now.numbered;
      know = c.give_up.ensures.same.know;
      goes_on = refl;
    })

pub returns-clause-entry : goal.returns-clause-entry
returns-clause-entry g c =
    c.carry_out.ensures.entry _ _ _ (answers c.args.self.now.core) (record {
      planned = c.in_ok-plan.ensures.plan c.args.self.now.objects;
      node = c.args.self.now.numbered;
      know = c.give_up.ensures.same.know;
      goes_on = refl;
    })

pub returns-clause-any_moment : goal.returns-clause-any_moment
returns-clause-any_moment g c = λ tells.
    c.carry_out.ensures.any_moment tells _ _ _ (answers c.args.self.now.core) (record {
      planned = c.in_ok-plan.ensures.plan c.args.self.now.objects;
      node = c.args.self.now.numbered;
      know = c.give_up.ensures.same.know;
      goes_on = refl;
    })

pub returns-clause-number : goal.returns-clause-number
returns-clause-number g c = c.carry_out.ensures.number ∙ c.give_up.ensures.same.number

pub returns-clause-halt : goal.returns-clause-halt
returns-clause-halt g c = λ tells halted.
    c.carry_out.ensures.halt tells halted _ _ _ (answers c.args.self.now.core) (record {
      planned = c.in_ok-plan.ensures.plan c.args.self.now.objects;
      node = c.args.self.now.numbered;
      know = c.give_up.ensures.same.know;
      goes_on = refl;
    })

pub returns-clause-halted_at : goal.returns-clause-halted_at
returns-clause-halted_at g c = λ halted.
    c.carry_out.ensures.halted_at halted (giving_up c.args.action.now c.args.child.now) None
    no_load (answers c.args.self.now.core) (record {
      planned = c.in_ok-plan.ensures.plan c.args.self.now.objects;
      node = c.args.self.now.numbered;
      know = c.give_up.ensures.same.know;
      goes_on = refl;
    })

pub returns-clause-same : goal.returns-clause-same
returns-clause-same g c =
    c.carry_out.ensures.same (answers c.args.self.now.core)
    (λ new stays. subst (AreSame (answers c.args.self.now.core)) (sym stays) c.give_up.ensures.same)

pub returns-clause-cut_off : goal.returns-clause-cut_off
returns-clause-cut_off g c = λ failed.
    cut_as
    (λ calls did tells. did tells (giving_up c.args.action.now c.args.child.now) None no_load
    (answers c.args.self.now.core) (record {
      planned = c.in_ok-plan.ensures.plan c.args.self.now.objects;
      node = c.args.self.now.numbered;
      know = c.give_up.ensures.same.know;
      goes_on = refl;
    }))
    (c.carry_out.ensures.cut_off failed)
