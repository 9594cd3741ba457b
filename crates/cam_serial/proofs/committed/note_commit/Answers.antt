use Rattle.std.proofs.Common.{◌∷◌, sym, subst}
use Rattle.cam_event.specs.declared.Deed.{Deed}
use Rattle.cam_serial.specs.Gathered.{TellsCommitted}
use Rattle.cam_serial.proofs.Gathering.{committed_put}
use Rattle.cam_serial.proofs.committed.note_commit.Goals as goal

pub returns-in_ok-insert : goal.returns-in_ok-insert
returns-in_ok-insert c = λ L before.
    subst (λ (d : Deed). TellsCommitted (d ∷ L) c.insert.new.self) (sym c.in-Commit.is)
    (committed_put L c.in-Commit.action c.args.names.now c.insert.new.self before c.in_ok-insert.ensures.updates.0)
