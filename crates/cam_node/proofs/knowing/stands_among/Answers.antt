-- None of the outcomes behind is of the action.
use Rattle.std.proofs.Common.{not, take, drop, ap, ◌∙◌}
use Rattle.std.specs.List.{list_any}
use Rattle.std.proofs.lemmas.List.{take-append-drop}
use Rattle.cam_node.specs.Knowing.{is_outcome_of}
use Rattle.cam_node.proofs.StandingOutcomes.{none_behind}
use Rattle.cam_node.proofs.knowing.stands_among.Goals as goal

pub returns-then-not-tell_of : goal.returns-then-not-tell_of
returns-then-not-tell_of c =
    let os = c.args.outcomes.now in
    let n = c.args.first in
    none_behind (is_outcome_of c.args.name.now) (take n os) (drop n os) os c.tell_of.result (take-append-drop n os)
    c.requires.known
    (c.tell_of.ensures ∙ ap (list_any (is_outcome_of c.args.name.now)) c.split_at.ensures.back)
    (ap not c.if-not-tell_of.true)
