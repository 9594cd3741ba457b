-- The shortest ancestor stands highest: what the parent's ancestors have comes first.
use Rattle.std.proofs.Common.{◌∙◌, sym, refl}
use Rattle.cam_know.specs.Known.{knows_abort}
use Rattle.cam_know.proofs.Climbs.{find_top, find_above, find_here}
use Rattle.cam_know.proofs.know.Know.+aborted_by.Goals as goal

pub returns-in-None : goal.returns-in-None
returns-in-None t c = c.if_aborted.ensures ∙ sym (find_top (knows_abort c.args.self.now) c.args.name.now (c.in-None.ensures.top.0 refl))

pub returns-in-None-aborted_by : goal.returns-in-None-aborted_by
returns-in-None-aborted_by t c =
    c.if_aborted-in-None-aborted_by.ensures ∙ sym (find_here (knows_abort c.args.self.now) c.args.name.now c.in-Some.parent c.in-Some.ensures.value c.in-None-aborted_by.ensures)

pub returns-in-Some-aborted_by : goal.returns-in-Some-aborted_by
returns-in-Some-aborted_by t c =
    find_above (knows_abort c.args.self.now) c.args.name.now c.in-Some.parent c.in-Some-aborted_by.ancestor c.in-Some.ensures.value c.in-Some-aborted_by.ensures
