-- The bodies so far are in the table.
use Rattle.std.proofs.Common.{◌≡◌, ◌-◌}
use Rattle.std.specs.Prelude.{vec_len}
use Rattle.cam_runs.specs.Standing.{Standing}
use Rattle.cam_cluster.specs.Workers.{AreWorkers}
use Rattle.cam_cluster.proofs.workers.Workers.place.Given as goal

abbrev pub invariant-loop-self : goal.invariant-loop-self
invariant-loop-self l = record {
  stay : (st : Standing) → AreWorkers st l.fn.self → AreWorkers st l.self;
  seen : l.self.seen ≡ l.fn.self.seen;
  events : l.self.events ≡ l.fn.self.events;
}

abbrev pub decreases-loop-self : goal.decreases-loop-self
decreases-loop-self l = vec_len l.self.given - l.self.placed
