-- A round of a play.
use Rattle.std.proofs.Common.{◌≡◌, ◌||◌, arith, length, nat_lt, rules, ◌∙◌}
use Rattle.std.proofs.lemmas.Grind.{common_steps}
use Rattle.cam_cluster.proofs.AsSeen.{reads_of, works_of}
use Rattle.cam_cluster.proofs.DisksGoOn.{goes_on_then}
use Rattle.cam_cluster.proofs.PlacedNodes.{on_err}
use Rattle.cam_cluster.proofs.PlayRound.{drain_wanting, round_told, some_behind_turns}
use Rattle.cam_cluster.proofs.works.Works.play_round.Goals as goal

pub take_all_turns-requires : goal.take_all_turns-requires
take_all_turns-requires g c = record { play = c.requires.play }

pub returns-in_err-take_all_turns-clause-disks : goal.returns-in_err-take_all_turns-clause-disks
returns-in_err-take_all_turns-clause-disks g c =
    c.take_all_turns.ensures.disks

pub returns-in_err-take_all_turns-clause-round : goal.returns-in_err-take_all_turns-clause-round
returns-in_err-take_all_turns-clause-round g c =
    search rules

pub returns-in_err-take_all_turns-clause-part : goal.returns-in_err-take_all_turns-clause-part
returns-in_err-take_all_turns-clause-part g c = on_err _ _ c.in_err-take_all_turns.ensures.part

pub drain-requires : goal.drain-requires
drain-requires g c = record {
  stand =
      let old = works_of g.L.CheckpointLog g.L.EntryLog c.args.self.now in
      let mid = works_of g.L.CheckpointLog g.L.EntryLog c.take_all_turns.new.self in
      let might = reads_of g.L.CheckpointLog g.L.EntryLog c.args.self.now in
      let mays = reads_of g.L.CheckpointLog g.L.EntryLog c.take_all_turns.new.self in
      some_behind_turns c.args.line c.args.bodies.now old mid mid might mays mays c.args.workers.now
      c.take_all_turns.new.workers c.requires.play c.in_ok-take_all_turns.ensures.turns;
}

pub returns-in_err-drain-clause-disks : goal.returns-in_err-drain-clause-disks
returns-in_err-drain-clause-disks g c =
    goes_on_then c.take_all_turns.ensures.disks c.drain.ensures.disks

pub returns-in_err-drain-clause-round : goal.returns-in_err-drain-clause-round
returns-in_err-drain-clause-round g c =
    search rules

pub returns-in_err-drain-clause-part : goal.returns-in_err-drain-clause-part
returns-in_err-drain-clause-part g c =
    let old = works_of g.L.CheckpointLog g.L.EntryLog c.args.self.now in
    let mid = works_of g.L.CheckpointLog g.L.EntryLog c.take_all_turns.new.self in
    let new = works_of g.L.CheckpointLog g.L.EntryLog c.drain.new.self in
    let might = reads_of g.L.CheckpointLog g.L.EntryLog c.args.self.now in
    let mays = reads_of g.L.CheckpointLog g.L.EntryLog c.take_all_turns.new.self in
    let may = reads_of g.L.CheckpointLog g.L.EntryLog c.drain.new.self in
    on_err c.from_residual-in_err-drain.result _
    (drain_wanting c.args.line c.args.bodies.now old mid new might mays may c.args.workers.now
    c.take_all_turns.new.workers c.requires.play c.in_ok-take_all_turns.ensures.turns
    c.in_err-drain.ensures.part)

pub returns-clause-disks : goal.returns-clause-disks
returns-clause-disks g c =
    goes_on_then c.take_all_turns.ensures.disks c.drain.ensures.disks

pub returns-clause-round : goal.returns-clause-round
returns-clause-round g c =
    let old = works_of g.L.CheckpointLog g.L.EntryLog c.args.self.now in
    let mid = works_of g.L.CheckpointLog g.L.EntryLog c.take_all_turns.new.self in
    let new = works_of g.L.CheckpointLog g.L.EntryLog c.drain.new.self in
    let might = reads_of g.L.CheckpointLog g.L.EntryLog c.args.self.now in
    let mays = reads_of g.L.CheckpointLog g.L.EntryLog c.take_all_turns.new.self in
    let may = reads_of g.L.CheckpointLog g.L.EntryLog c.drain.new.self in
    let events : c.len-events.result ≡ length old.events = c.len-events.ensures in
    let marks : c.len-marks.result ≡ length old.marks =
    first_of (search rules, grind (arith, common_steps)) in
    round_told c.args.line c.args.bodies.now old mid new might mays may c.args.workers.now
    c.take_all_turns.new.workers c.requires.play c.in_ok-take_all_turns.ensures.turns
    c.has_more.result
    (c.has_more.ensures
    ∙ (λ i. nat_lt (events i) (length new.events) || nat_lt (marks i) (length new.marks)))
    c.in_ok-drain.ensures.drained
