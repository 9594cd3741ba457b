-- The actions of a round have their turns.
use Rattle.std.proofs.Common.{◌++◌, ◌∷◌, [], List, rules, sym, ap, ◌∙◌, subst, take, arith}
use Rattle.std.proofs.lemmas.Grind.{common_steps}
use Rattle.std.proofs.lemmas.List.{take_all, take_more}
use Rattle.cam_names.specs.declared.name.Name.{Name}
use Rattle.cam_cluster.specs.Rounds.{HaveHadTurns}
use Rattle.cam_cluster.proofs.AsSeen.{reads_of, works_of}
use Rattle.cam_cluster.proofs.DisksGoOn.{goes_on_still, goes_on_then}
use Rattle.cam_cluster.proofs.PlacedNodes.{on_err, taken_there}
use Rattle.cam_cluster.proofs.RoundTurns.{next_turn, no_turn, some_turn_behind, turn_of_some}
use Rattle.cam_cluster.proofs.RoundTurns.{turns_wanting}
use Rattle.cam_cluster.proofs.works.Works.take_turns.Goals as goal

pub loop-name-init : goal.loop-name-init
loop-name-init g c = record {
  had = no_turn _ _ _ _ _;
  some = c.requires.turns;
  disks = goes_on_still;
}

pub offset_bounds-names-name-index : goal.offset_bounds-names-name-index
offset_bounds-names-name-index g c =
    first_of (search rules, grind (arith, common_steps))

pub take_turn-requires : goal.take_turn-requires
take_turn-requires g c = record {
  turn =
      turn_of_some c.args.names.now c.args.line c.name-item.result c.args.bodies.now
      (works_of g.L.CheckpointLog g.L.EntryLog c.loop-name.self)
      (works_of g.L.CheckpointLog g.L.EntryLog c.loop-name.self)
      (reads_of g.L.CheckpointLog g.L.EntryLog c.loop-name.self)
      (reads_of g.L.CheckpointLog g.L.EntryLog c.loop-name.self)
      c.loop-name.workers c.loop-name.workers c.loop-name.invariant.some c.loop-name.name-index
      (taken_there c.args.names.now c.loop-name.name-index c.name-item.result
      c.loop-name-test.true c.name-item.is);
}

pub returns-in_err-take_turn-clause-disks : goal.returns-in_err-take_turn-clause-disks
returns-in_err-take_turn-clause-disks g c =
    goes_on_then c.loop-name.invariant.disks c.take_turn.ensures.disks

pub returns-in_err-take_turn-clause-turns : goal.returns-in_err-take_turn-clause-turns
returns-in_err-take_turn-clause-turns g c =
    search rules

pub returns-in_err-take_turn-clause-part : goal.returns-in_err-take_turn-clause-part
returns-in_err-take_turn-clause-part g c =
    on_err c.from_residual.result _ (record {
      many = c.loop-name.name-index;
      first =
          turns_wanting c.args.line (take c.loop-name.name-index c.args.names.now) c.args.bodies.now
          (works_of g.L.CheckpointLog g.L.EntryLog c.args.self.now)
          (works_of g.L.CheckpointLog g.L.EntryLog c.loop-name.self)
          (works_of g.L.CheckpointLog g.L.EntryLog c.take_turn.new.self)
          (reads_of g.L.CheckpointLog g.L.EntryLog c.args.self.now)
          (reads_of g.L.CheckpointLog g.L.EntryLog c.loop-name.self)
          (reads_of g.L.CheckpointLog g.L.EntryLog c.take_turn.new.self)
          c.args.workers.now c.loop-name.workers c.take_turn.new.workers c.loop-name.invariant.had
          c.in_err-take_turn.ensures.as_before c.in_err-take_turn.ensures.workers_as_before;
    })

pub loop-name-preserved : goal.loop-name-preserved
loop-name-preserved g c =
    let more = take_more c.args.names.now c.loop-name.name-index c.name-item.result
    c.loop-name-test.true
    ∙ ap (λ (y : Name). take c.loop-name.name-index c.args.names.now ++ y ∷ [])
    (sym c.name-item.is) in
    record {
      had =
          subst (λ (ns : List Name). HaveHadTurns c.args.line ns c.args.bodies.now
          (works_of g.L.CheckpointLog g.L.EntryLog c.args.self.now)
          (reads_of g.L.CheckpointLog g.L.EntryLog c.args.self.now)
          c.args.workers.now (works_of g.L.CheckpointLog g.L.EntryLog c.take_turn.new.self)
          (reads_of g.L.CheckpointLog g.L.EntryLog c.take_turn.new.self) c.take_turn.new.workers)
          (sym more)
          (next_turn c.args.line (take c.loop-name.name-index c.args.names.now) c.args.bodies.now
          (works_of g.L.CheckpointLog g.L.EntryLog c.args.self.now)
          (works_of g.L.CheckpointLog g.L.EntryLog c.loop-name.self)
          (works_of g.L.CheckpointLog g.L.EntryLog c.take_turn.new.self)
          (reads_of g.L.CheckpointLog g.L.EntryLog c.args.self.now)
          (reads_of g.L.CheckpointLog g.L.EntryLog c.loop-name.self)
          (reads_of g.L.CheckpointLog g.L.EntryLog c.take_turn.new.self)
          c.args.workers.now c.loop-name.workers c.take_turn.new.workers c.loop-name.invariant.had
          c.name-item.result c.in_ok-take_turn.field-0 c.in_ok-take_turn.ensures.turn);
      some = some_turn_behind c.args.names.now c.args.line c.name-item.result c.args.bodies.now
          (works_of g.L.CheckpointLog g.L.EntryLog c.loop-name.self)
          (works_of g.L.CheckpointLog g.L.EntryLog c.take_turn.new.self)
          (reads_of g.L.CheckpointLog g.L.EntryLog c.loop-name.self)
          (reads_of g.L.CheckpointLog g.L.EntryLog c.take_turn.new.self) c.loop-name.workers
          c.take_turn.new.workers c.loop-name.invariant.some
          c.in_ok-take_turn.field-0 c.in_ok-take_turn.ensures.turn;
      disks = goes_on_then c.loop-name.invariant.disks c.take_turn.ensures.disks;
    }

pub returns-clause-disks : goal.returns-clause-disks
returns-clause-disks g c =
    c.loop-name.invariant.disks

pub returns-clause-turns : goal.returns-clause-turns
returns-clause-turns g c =
    rw (← (take_all c.loop-name.name-index c.args.names.now c.loop-name-test.false)) c.loop-name.invariant.had
