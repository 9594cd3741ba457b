-- The rounds of a play.
use Rattle.std.proofs.Common.{Bool, false, true, ◌≡◌, rules, subst, arith}
use Rattle.std.proofs.lemmas.Bool.{not-false, not-true}
use Rattle.cam_cluster.specs.Plays.{HasPlayedRound}
use Rattle.cam_cluster.proofs.AsSeen.{reads_of, works_of}
use Rattle.cam_cluster.proofs.DisksGoOn.{goes_on_still, goes_on_then}
use Rattle.cam_cluster.proofs.PlacedNodes.{on_err}
use Rattle.cam_cluster.proofs.PlayedRounds.{all_rounds, last_round, next_round, no_round}
use Rattle.cam_cluster.proofs.PlayedRounds.{rounds_wanting, some_behind_round}
use Rattle.cam_cluster.proofs.works.Works.play.Goals as goal

pub loop-init : goal.loop-init
loop-init g c = record {
  so_far = no_round _ _ _ _ _;
  some = c.requires.play;
  disks = goes_on_still;
}

pub play_round-requires : goal.play_round-requires
play_round-requires g c = record { play = c.loop.invariant.some }

pub returns-in_err-puts_one-clause-disks : goal.returns-in_err-puts_one-clause-disks
returns-in_err-puts_one-clause-disks g c =
    goes_on_then c.loop.invariant.disks c.play_round.ensures.disks

pub returns-in_err-puts_one-clause-played : goal.returns-in_err-puts_one-clause-played
returns-in_err-puts_one-clause-played g c =
    search rules

pub returns-in_err-puts_one-clause-part : goal.returns-in_err-puts_one-clause-part
returns-in_err-puts_one-clause-part g c =
    on_err _ _ (rounds_wanting c.loop.counter _ _ _ _ _ _ _ _ _ _ _
    c.loop.invariant.so_far c.in_err-puts_one.ensures.part)

pub loop-preserved : goal.loop-preserved
loop-preserved g c =
    let old = works_of g.L.CheckpointLog g.L.EntryLog c.args.self.now in
    let mid = works_of g.L.CheckpointLog g.L.EntryLog c.loop.self in
    let new = works_of g.L.CheckpointLog g.L.EntryLog c.play_round.new.self in
    let might = reads_of g.L.CheckpointLog g.L.EntryLog c.args.self.now in
    let mays = reads_of g.L.CheckpointLog g.L.EntryLog c.loop.self in
    let may = reads_of g.L.CheckpointLog g.L.EntryLog c.play_round.new.self in
    let put : c.in_ok-puts_one.puts_one ≡ true =
    first_of (search rules, search (rules, not-false)) in
    let one = subst (λ (b : Bool). HasPlayedRound c.args.line c.args.bodies.now mid mays
    c.loop.workers b new may c.play_round.new.workers) put c.in_ok-puts_one.ensures.round in
    record {
      so_far =
          next_round c.loop.counter c.args.line c.args.bodies.now old mid new might mays may
          c.args.workers.now c.loop.workers c.play_round.new.workers c.loop.invariant.so_far one;
      some =
          some_behind_round c.args.line c.args.bodies.now mid new mays may c.loop.workers
          c.play_round.new.workers c.loop.invariant.some one.made;
      disks = goes_on_then c.loop.invariant.disks c.play_round.ensures.disks;
    }

pub returns-then-not-puts_one-clause-disks : goal.returns-then-not-puts_one-clause-disks
returns-then-not-puts_one-clause-disks g c =
    goes_on_then c.loop.invariant.disks c.play_round.ensures.disks

pub returns-then-not-puts_one-clause-played : goal.returns-then-not-puts_one-clause-played
returns-then-not-puts_one-clause-played g c =
    let none : c.in_ok-puts_one.puts_one ≡ false =
    first_of (search rules, search (rules, not-true)) in
    last_round _ _ _ _ _ _ _ _ _ _ _ _ c.loop.invariant.so_far (rw (← none)
    c.in_ok-puts_one.ensures.round) c.loop-test.true

pub returns-clause-disks : goal.returns-clause-disks
returns-clause-disks g c =
    c.loop.invariant.disks

pub returns-clause-played : goal.returns-clause-played
returns-clause-played g c =
    all_rounds _ _ _ _ _ _ _ _ _ c.loop.invariant.so_far (omega (
      arith,
      c.loop-test.false,
      c.loop.auto.counter-end,
    ))
