-- What was put so far, and that what is left may be put. One less is left at each turn.
use Rattle.std.proofs.Common.{length}
use Rattle.std.specs.List.{AllByRecursion}
use Rattle.cam_wire.specs.Writable.{IsWritable}
use Rattle.cam_net.specs.Outbox.{HasPutSome}
use Rattle.cam_net.proofs.outbox.Outbox.put_all.Given as goal

abbrev pub invariant-loop-self : goal.invariant-loop-self
invariant-loop-self l =
    record { some : HasPutSome l.initial.self l.self; may : AllByRecursion IsWritable l.self.unput }

abbrev pub decreases-loop-self : goal.decreases-loop-self
decreases-loop-self l = length l.self.unput
