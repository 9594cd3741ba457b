-- An event may stop an action at its home.
use Rattle.std.proofs.Common.{◌||◌, ap, sym, ◌∙◌}
use Rattle.std.specs.BTreeSet.{contains}
use Rattle.cam_names.specs.Names.{name_cmp}
use Rattle.cam_runs.specs.Playing.{is_stop_note}
use Rattle.cam_event.specs.declared.Note.{Note}
use Rattle.std.proofs.Common.{eqb, ◌&&◌}
use Rattle.cam_names.specs.Names.{home_node}
use Rattle.cam_storm_node.proofs.Working.{stop_put, stop_elsewhere}
use Rattle.cam_storm_node.proofs.works.note_stop.Goals as goal

pub returns-in_ok-insert-clause-stopped : goal.returns-in_ok-insert-clause-stopped
returns-in_ok-insert-clause-stopped c a =
    let e = c.args.event.now in
    let before = contains name_cmp c.args.stopped.now a in
    c.in_ok-insert.ensures.updates.0 a
    ∙ stop_put e.node a c.in-Stopped.action before
    (c.if-event-home.true ∙ ap (λ p. p.0) c.home.ensures)
    ∙ ap (λ (n : Note). (eqb e.node (home_node a) && is_stop_note a n) || before)
    (sym c.in-Stopped.is)

pub returns-else-event-home-clause-stopped : goal.returns-else-event-home-clause-stopped
returns-else-event-home-clause-stopped c a =
    let e = c.args.event.now in
    let before = contains name_cmp c.args.stopped.now a in
    stop_elsewhere e.node a c.in-Stopped.action before
    (λ same. c.if-event-home.false (same ∙ sym (ap (λ p. p.0) c.home.ensures)))
    ∙ ap (λ (n : Note). (eqb e.node (home_node a) && is_stop_note a n) || before)
    (sym c.in-Stopped.is)
