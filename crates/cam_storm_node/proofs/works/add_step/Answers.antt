-- A step is added to the view of one action.
use Rattle.std.proofs.Common.{◌++◌, ◌∷◌, [], List, ap, ◌∙◌}
use Rattle.cam_event.specs.declared.ViewStep.{ViewStep}
use Rattle.cam_storm_node.proofs.Asking.{is_noted, wanted_some}
use Rattle.cam_storm_node.proofs.Working.{view_put, bodies_put}
use Rattle.cam_storm_node.proofs.works.add_step.Goals as goal

pub returns-clause-views : goal.returns-clause-views
returns-clause-views c a =
    view_put c.args.works.now c.take_out.new.works c.insert.new.self c.args.action.now
    (record { body = c.in_ok-work.work.body; view = c.push_copy.new.self }) c.take_out.ensures.out
    c.in_ok-insert.ensures.updates.0 c.args.step.now
    (c.in_ok-push_copy.ensures.ok
    ∙ ap (λ (s : List ViewStep). s ++ c.args.step.now ∷ []) c.in_ok-work.ensures.view) a

pub returns-clause-bodies : goal.returns-clause-bodies
returns-clause-bodies c have =
    bodies_put c.args.works.now c.take_out.new.works c.insert.new.self c.args.action.now
    (record { body = c.in_ok-work.work.body; view = c.push_copy.new.self }) c.take_out.ensures.out
    c.in_ok-insert.ensures.updates.0 c.args.storm.now (c.in_ok-work.ensures.body have) have

pub returns-clause-asking : goal.returns-clause-asking
returns-clause-asking c =
    is_noted c.args.works.now c.take_out.new.works c.insert.new.self c.args.asking.now
    c.note_asking.new.asking c.args.action.now
    (record { body = c.in_ok-work.work.body; view = c.push_copy.new.self }) _
    c.take_out.ensures.out c.in_ok-insert.ensures.updates.0 c.in_ok-note_asking.ensures
    (c.is_some.ensures ∙ wanted_some _ _ c.want.ensures)
