use Rattle.std.proofs.Common.{List, eqb, filter, reverse, ap, ◌∙◌}
use Rattle.std.specs.Prelude.{find}
use Rattle.cam_event.specs.declared.Operation.{Operation}
use Rattle.cam_event.specs.Rules.{is_conflict_here}
use Rattle.cam_event.specs.Sights.{Sight}
use Rattle.cam_timed.specs.KeptSights.{kept_sight}
use Rattle.cam_timed.specs.Moments.{events}
use Rattle.cam_timed.proofs.OnObjects.{on_twice}
use Rattle.cam_timed.proofs.here.HereSighted.conflict.Goals as goal

pub returns : goal.returns
returns c =
    let here = c.args.self.now in
    let x = c.args.object in
    let g : Sight = kept_sight here.objects.now (events (reverse here.trace.now)) here.node here.first.now in
    c.conflict.ensures _ _ _ _ c.requires.keeps_own
    ∙ ap (λ (os : List Operation). find (is_conflict_here g c.args.action.now c.args.op.now)
    (filter (λ o. eqb o.object x) os)) (c.live_on-live.ensures _ c.requires.keeps_all_nodes)
    ∙ ap (find (is_conflict_here g c.args.action.now c.args.op.now)) (on_twice x g.live)
