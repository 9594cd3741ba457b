use Rattle.std.proofs.Common.{List, take, reverse, sym, subst}
use Rattle.cam_event.specs.declared.Deed.{Deed}
use Rattle.cam_report.specs.Gathered.{TellsValues, TellsViews}
use Rattle.cam_base.proofs.Newest.{taken_back}
use Rattle.cam_report.proofs.Viewing.{views_step}
use Rattle.cam_report.proofs.views.views_of.Goals as goal

pub loop-deed-preserved : goal.loop-deed-preserved
loop-deed-preserved c =
    let L = reverse (take c.loop-deed.deed-index c.args.deeds.now) in
    let more = taken_back c.args.deeds.now c.loop-deed.deed-index c.deed-item.result c.loop-deed-test.true c.deed-item.is in
    record {
      values = subst (λ (M : List Deed). TellsValues M c.note_value.new.values) (sym more) (c.in_ok-note_value.ensures L c.loop-deed.invariant.values);
      views =
          subst (λ (M : List Deed). TellsViews M c.note_step.new.views) (sym more)
          (views_step L c.deed-item.result c.loop-deed.values c.loop-deed.views c.note_step.new.views c.loop-deed.invariant.values c.loop-deed.invariant.views c.in_ok-note_step.ensures);
    }
