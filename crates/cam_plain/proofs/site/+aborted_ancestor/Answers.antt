use Rattle.std.proofs.Common.{false, refl, sym, ◌∙◌}
use Rattle.cam_event.specs.History.{informed}
use Rattle.cam_know.proofs.Climbs.{find_top, find_above, find_here}
use Rattle.cam_plain.proofs.site.+aborted_ancestor.Goals as goal

pub returns-in-Some-aborted_ancestor : goal.returns-in-Some-aborted_ancestor
returns-in-Some-aborted_ancestor t c = λ objects L keeps.
    find_above (λ u. informed L c.args.site u false) c.args.action.now c.in-Some.parent c.in-Some-aborted_ancestor.aborted c.in-Some.ensures.value
    (c.in-Some-aborted_ancestor.ensures objects L keeps)

pub returns-in-None-aborted_ancestor : goal.returns-in-None-aborted_ancestor
returns-in-None-aborted_ancestor t c = λ objects L keeps.
    c.own_abort-own.ensures objects L keeps
    ∙ sym (find_here (λ u. informed L c.args.site u false) c.args.action.now c.in-Some.parent c.in-Some.ensures.value (c.in-None-aborted_ancestor.ensures objects L keeps))

pub returns-in-None : goal.returns-in-None
returns-in-None t c = λ objects L keeps.
    c.own_abort-own.ensures objects L keeps ∙ sym (find_top (λ u. informed L c.args.site u false) c.args.action.now (c.in-None.ensures.top.0 refl))
