-- Both lists are the first Informs.
use Rattle.std.proofs.Common.{List, map, reverse, false, ◌++◌, ap, ◌∙◌}
use Rattle.cam_event.specs.declared.Deed.{Deed}
use Rattle.cam_event.specs.declared.Deed.TheVariants.{Inform}
use Rattle.cam_node.specs.Informs.{aborts_from, commits_from}
use Rattle.cam_node.proofs.Told.{first_are}
use Rattle.cam_node.proofs.informs.first_informs.Goals as goal

pub returns : goal.returns
returns c =
    first_are c.args.site c.args.known.now c.args.told.now c.in_ok-aborts.aborts.items c.in_ok-commits.commits.items c.inform_aborts.new.deeds c.inform_commits.new.deeds
    (c.in_ok-aborts.ensures ∙ ap (aborts_from c.args.known.now) c.outcomes-outcomes.ensures.value)
    (c.in_ok-commits.ensures ∙ ap (commits_from c.args.known.now) c.outcomes-outcomes.ensures.value)
    (c.in_ok-inform_aborts.ensures ∙ ap (λ (ds : List Deed). ds ++ map (λ a. Inform c.args.site a false) (reverse c.in_ok-aborts.aborts.items)) c.new-deeds.ensures)
    c.in_ok-inform_commits.ensures
