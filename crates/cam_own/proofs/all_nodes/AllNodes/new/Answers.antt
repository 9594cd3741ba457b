use Rattle.std.proofs.Common.{[], rules}
use Rattle.cam_own.specs.Depending.{KeepsDeps}
use Rattle.cam_own.specs.Live.{KeepsLive}
use Rattle.cam_own.proofs.all_nodes.AllNodes.new.Goals as goal

pub returns : goal.returns
returns c = λ objects.
    let depending : KeepsDeps objects [] c.new-2.result = search rules in
    let live : KeepsLive objects [] c.new-3.result = search rules in
    record { ledger = c.new.ensures objects; depending = depending; live = live; none = c.new-4.ensures }
