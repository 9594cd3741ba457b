use Rattle.std.proofs.Common.{◌∷◌, flat_map, ap, ◌∙◌, sym}
use Rattle.cam_know.specs.Known.{aborted_name}
use Rattle.cam_event.specs.Rules.{put_name, sorted_names}
use Rattle.cam_wire.proofs.Sorted.{insert_is_put}
use Rattle.cam_wire.proofs.sorting.note_abort.Goals as goal

pub returns-in_ok-insert : goal.returns-in_ok-insert
returns-in_ok-insert c outcomes sorted =
    let a = c.in-Aborted.name in
    c.in_ok-insert.ensures.keys ∙ insert_is_put a c.args.aborts.now.keys ∙ ap (put_name a) sorted
    ∙ ap (λ o. sorted_names (flat_map aborted_name (o ∷ outcomes))) (sym c.in-Aborted.is)
