use Rattle.std.proofs.Common.{List, eqb, filter, reverse, ap, ◌∙◌}
use Rattle.std.proofs.lemmas.Result.{IfOk-weaker}
use Rattle.cam_type.specs.Table.{answer_of}
use Rattle.cam_event.specs.declared.Operation.{Operation}
use Rattle.cam_event.specs.Live.{replay, start_of}
use Rattle.cam_event.specs.Sights.{Sight}
use Rattle.cam_timed.specs.KeptSights.{kept_sight}
use Rattle.cam_timed.specs.Moments.{events}
use Rattle.cam_timed.proofs.OnObjects.{on_twice}
use Rattle.cam_timed.proofs.here.HereSighted.answer.Goals as goal

pub returns : goal.returns
returns c =
    let here = c.args.self.now in
    let x = c.args.object in
    let t = events (reverse here.trace.now) in
    let g : Sight = kept_sight here.objects.now t here.node here.first.now in
    IfOk-weaker c.answer.result _ _
    (λ answer is. is
    ∙ ap (λ (os : List Operation). answer_of (replay (start_of c.args.objects.now x) os) c.args.op.now)
    (ap (filter (λ (o : Operation). eqb o.object x))
    (c.live_on-live.ensures _ c.requires.keeps_all_nodes) ∙ on_twice x g.live)) c.answer.ensures
