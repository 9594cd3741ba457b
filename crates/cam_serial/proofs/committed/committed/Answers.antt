use Rattle.std.proofs.Common.{List, take, sym, subst}
use Rattle.cam_event.specs.declared.Deed.{Deed}
use Rattle.cam_plain.specs.Legal.{history}
use Rattle.cam_event.proofs.Snoc.{further}
use Rattle.cam_serial.specs.Gathered.{TellsCommitted}
use Rattle.cam_serial.proofs.committed.committed.Goals as goal

pub loop-deed-preserved : goal.loop-deed-preserved
loop-deed-preserved c =
    subst (λ (L : List Deed). TellsCommitted L c.note_commit.new.names) (sym (further c.args.deeds.now c.loop-deed.deed-index c.deed-item.result c.loop-deed-test.true c.deed-item.is))
    (c.in_ok-note_commit.ensures (history (take c.loop-deed.deed-index c.args.deeds.now)) c.loop-deed.invariant)
