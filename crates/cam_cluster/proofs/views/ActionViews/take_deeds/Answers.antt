-- The deeds of an event are taken in, one after another.
use Rattle.std.proofs.Common.{◌≡◌, ◌+◌, List, [], ◌∷◌, ◌++◌, take, sym, ap, ◌∙◌, subst}
use Rattle.std.proofs.lemmas.List.{take_more, take_all}
use Rattle.cam_event.specs.declared.Deed.{Deed}
use Rattle.cam_event.specs.History.{after}
use Rattle.cam_event.proofs.Snoc.{after_more}
use Rattle.cam_cluster.specs.ActionViews.{HasViews}
use Rattle.cam_cluster.proofs.views.ActionViews.take_deeds.Goals as goal

pub loop-deed-preserved : goal.loop-deed-preserved
loop-deed-preserved c =
    let ds = c.as_slice-deed-items.result.now in
    let i = c.loop-deed.deed-index in
    let d = c.deed-item.result in
    let split : take (i + 1) ds ≡ take i ds ++ d ∷ [] =
    take_more ds i d c.loop-deed-test.true ∙ ap (λ (e : Deed). take i ds ++ e ∷ []) (sym
    c.deed-item.is)
    in record {
      seen = λ L has. rw split (rw (after_more L (take i ds) d) (c.in_ok-take_deed.ensures.seen
          (after L (take i ds)) (c.loop-deed.invariant.seen L has)));
      stops = c.take_deed.ensures.stops ∙ c.loop-deed.invariant.stops;
    }

pub returns-clause-seen : goal.returns-clause-seen
returns-clause-seen c = λ L has.
    let ds = c.as_slice-deed-items.result.now in
    let all : take c.loop-deed.deed-index ds ≡ c.args.deeds.now =
    take_all c.loop-deed.deed-index ds c.loop-deed-test.false ∙ c.as_slice-deed-items.ensures in
    rw (← all) (c.loop-deed.invariant.seen L has)
