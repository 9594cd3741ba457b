-- One more event is taken in.
use Rattle.std.proofs.Common.{◌||◌, ap, ◌∙◌}
use Rattle.std.specs.Prelude.{OnOk, Result, Ok, Err}
use Rattle.std.specs.BTreeSet.{contains}
use Rattle.cam_names.specs.Names.{name_cmp}
use Rattle.cam_event.specs.Pasts.{plain_all}
use Rattle.cam_runs.specs.Playing.{is_stop_of}
use Rattle.cam_cluster.proofs.views.ActionViews.take_event.Goals as goal

on_ok : {T E : Type 0} (result : Result T E) (P Q : Type 0) → (P → Q) → OnOk result P
    → OnOk result Q
on_ok (Ok x) P Q f holds = f holds
on_ok (Err e) P Q f holds = tt

pub returns : goal.returns
returns c =
    on_ok c.note_stop.result _ _ (λ stops t has.
    let views = c.in_ok-take_deeds.ensures.seen (plain_all t) has.views in
    record {
      views = record { views = views.views; values = views.values };
      stopped = λ a.
          stops a
          ∙ ap (λ b. is_stop_of a c.args.event.now || b)
          (ap (λ s. contains name_cmp s a) c.take_deeds.ensures.stops ∙ has.stopped a);
    }) c.note_stop.ensures
