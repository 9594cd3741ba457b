-- The names rise, so that no outcome stands twice.
use Rattle.std.proofs.Common.{sym, subst}
use Rattle.cam_know.specs.Invariant.{NoTwice}
use Rattle.cam_wire.proofs.Unique.{none_twice}
use Rattle.cam_wire.proofs.knowledge.know_of.Goals as goal

pub of-requires-clause-distinct : goal.of-requires-clause-distinct
of-requires-clause-distinct c = subst NoTwice (sym c.in_ok-outcomes_of.ensures) (none_twice c.args.aborts.now c.args.commits.now c.requires.aborts c.requires.commits)
