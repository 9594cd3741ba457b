-- The deeds of an event are taken in, one after another.
use Rattle.std.proofs.Common.{◌≡◌, ◌+◌, List, [], ◌∷◌, ◌++◌, take, sym, ap, ◌∙◌, subst}
use Rattle.std.specs.Prelude.{flat_map}
use Rattle.std.proofs.lemmas.List.{take_more, take_all, flat_map_more}
use Rattle.cam_event.specs.declared.Deed.{Deed}
use Rattle.cam_event.specs.History.{after}
use Rattle.cam_cut.proofs.Informs.{after_append}
use Rattle.cam_gen.specs.Storms.{Words}
use Rattle.cam_storm.specs.Own.{own_step}
use Rattle.cam_storm_node.specs.Works.{HaveBodies, view_in}
use Rattle.cam_storm_node.specs.Asking.{IsKept}
use Rattle.cam_storm_node.proofs.works.Works.take_deeds.Goals as goal

pub loop-deed-preserved : goal.loop-deed-preserved
loop-deed-preserved c =
    let ds = c.as_slice-deed-items.result.now in
    let i = c.loop-deed.deed-index in
    let d = c.deed-item.result in
    let split : take (i + 1) ds ≡ take i ds ++ d ∷ [] =
    take_more ds i d c.loop-deed-test.true
    ∙ ap (λ (e : Deed). take i ds ++ e ∷ []) (sym c.deed-item.is)
    in record {
      views = λ mail a is named.
          c.in_ok-note_step.ensures.views mail a is named
          ∙ ap (λ xs. xs ++ own_step mail a d) (c.loop-deed.invariant.views mail a is named)
          ∙ flat_map_more (own_step mail a) (view_in c.args.self.now.works a) (take i ds) d
          ∙ ap (λ es. view_in c.args.self.now.works a ++ flat_map (own_step mail a) es)
          (sym split);
      bodies = λ have.
          subst (λ (w : Words). HaveBodies w c.note_step.new.works) c.loop-deed.invariant.storm
          (c.in_ok-note_step.ensures.bodies
          (subst (λ (w : Words). HaveBodies w c.loop-deed.self.works)
          (sym c.loop-deed.invariant.storm) (c.loop-deed.invariant.bodies have)));
      asking = λ s L a named kept.
          subst (λ (M : List Deed). IsKept s M c.note_step.new.works c.note_step.new.asking a)
          (sym (ap (after L) split ∙ after_append L (take i ds) (d ∷ [])))
          (c.in_ok-note_step.ensures.asking s (after L (take i ds)) a named
          (c.loop-deed.invariant.asking s L a named kept));
      storm = c.loop-deed.invariant.storm;
      stopped = c.loop-deed.invariant.stopped;
    }

pub returns-clause-asking : goal.returns-clause-asking
returns-clause-asking c s L a named kept =
    subst (λ (ds : List Deed). IsKept s (after L ds) c.loop-deed.self.works c.loop-deed.self.asking a)
    (take_all c.loop-deed.deed-index c.as_slice-deed-items.result.now c.loop-deed-test.false
    ∙ c.as_slice-deed-items.ensures)
    (c.loop-deed.invariant.asking s L a named kept)

pub returns-clause-views : goal.returns-clause-views
returns-clause-views c mail a is named =
    c.loop-deed.invariant.views mail a is named
    ∙ ap (λ es. view_in c.args.self.now.works a ++ flat_map (own_step mail a) es)
    (take_all c.loop-deed.deed-index c.as_slice-deed-items.result.now c.loop-deed-test.false
    ∙ c.as_slice-deed-items.ensures)
