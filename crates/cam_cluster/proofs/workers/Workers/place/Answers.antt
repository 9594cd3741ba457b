-- The next of the actions that were given a body plays on, and comes into the table.
use Rattle.std.proofs.Common.{◌≡◌, refl, ap, arith}
use Rattle.std.specs.BTreeSet.{BTreeSet}
use Rattle.std.specs.Map.{keys_of}
use Rattle.cam_names.specs.declared.name.Name.{Name}
use Rattle.cam_cluster.proofs.BodiesGiven.{placed_more, plays_first}
use Rattle.cam_cluster.proofs.PlacedNodes.{taken_there}
use Rattle.cam_cluster.proofs.WorkersStand.{same_workers}
use Rattle.cam_cluster.proofs.workers.Workers.place.Goals as goal

same_set : (s t : BTreeSet Name) → t.keys ≡ s.keys → t ≡ s
same_set s t same = λ i. record { keys = same i }

pub returns-in_err-insert-clause-stay : goal.returns-in_err-insert-clause-stay
returns-in_err-insert-clause-stay c st are =
    same_workers _ _ _ refl refl refl (same_set _ _ c.in_err-insert.ensures.err) refl refl
    (c.loop-self.invariant.stay st are)

pub returns-in_err-insert-2-clause-stay : goal.returns-in_err-insert-2-clause-stay
returns-in_err-insert-2-clause-stay c st are =
    let more = c.loop-self-test.true in
    let long = c.len.ensures in
    plays_first st c.loop-self.self _ c.index.result.now
    (taken_there c.loop-self.self.given.items c.loop-self.self.placed c.index.result.now
    (omega (arith, more, long)) c.index.ensures) refl
    c.insert.ensures.ordered c.in_ok-insert.ensures.updates.0 refl refl
    (c.loop-self.invariant.stay st are) refl c.in_err-insert-2.ensures.err

pub loop-self-preserved : goal.loop-self-preserved
loop-self-preserved c = record {
  stay = λ st are.
      let more = c.loop-self-test.true in
      let long = c.len.ensures in
      placed_more st c.loop-self.self _ c.index.result.now
      (taken_there c.loop-self.self.given.items c.loop-self.self.placed c.index.result.now
      (omega (arith, more, long)) c.index.ensures) refl
      c.insert.ensures.ordered c.in_ok-insert.ensures.updates.0 refl refl
      (c.loop-self.invariant.stay st are) refl
      (ap keys_of c.in_ok-insert-2.ensures.entries) c.insert-in-loop-self.ensures.ordered
      c.in_ok-insert-2.ensures.updates;
  seen = c.loop-self.invariant.seen;
  events = c.loop-self.invariant.events;
}
