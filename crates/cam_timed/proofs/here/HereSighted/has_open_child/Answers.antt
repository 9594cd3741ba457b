use Rattle.std.proofs.Common.{List, reverse, ◌∙◌}
use Rattle.cam_event.specs.declared.Deed.{Deed}
use Rattle.cam_event.specs.History.{after}
use Rattle.cam_event.specs.Sights.{entries, own_deeds}
use Rattle.cam_timed.specs.Moments.{events}
use Rattle.cam_timed.proofs.OpenKept.{some_open}
use Rattle.cam_timed.proofs.here.HereSighted.has_open_child.Goals as goal

pub returns : goal.returns
returns c =
    let here = c.args.self.now in
    let own : List Deed = after (own_deeds (entries (events (reverse here.trace.now)) here.node)) here.first.now in
    c.has_open_child.ensures _ _ _ _ c.requires.keeps_own ∙ some_open own c.args.action.now c.requires.asked
