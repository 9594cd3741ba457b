-- The line `restart`.
use Rattle.std.proofs.Common.{◌≡◌, ◌-◌, ◌++◌, ◌∷◌, [], None, Err, sym, ap, ◌∙◌, subst, arith, rules}
use Rattle.std.specs.Prelude.{IfOk, slice_get}
use Rattle.cam_cluster.specs.Restarts.{HasFoundByStop}
use Rattle.cam_cluster.proofs.AsSeen.{lines_of, part, reads_of, works_of}
use Rattle.cam_cluster.proofs.BeginEnds.{begin_within}
use Rattle.cam_cluster.proofs.BegunLine.{unput_may_be_written}
use Rattle.cam_cluster.proofs.DisksGoOn.{goes_on_still}
use Rattle.cam_cluster.proofs.Led.{unchanged_lines}
use Rattle.cam_cluster.proofs.PlacedNodes.{each_there, sees}
use Rattle.cam_cluster.proofs.RestartedLine.{restart_ended, restart_wanting, some_so}
use Rattle.cam_cluster.proofs.lines.Lines.restart.Goals as goal

pub overflow_cast-node : goal.overflow_cast-node
overflow_cast-node g c =
    search rules

pub overflow_sub-node : goal.overflow_sub-node
overflow_sub-node g c =
    c.requires.low

pub restart-requires-clause-place : goal.restart-requires-clause-place
restart-requires-clause-place g c =
    begin_within _ _ _ c.requires.stand (sees _ _ _ (let low = c.requires.low in let node =
    c.requires.node in omega (arith, low, node)))

pub restart-requires-clause-there : goal.restart-requires-clause-there
restart-requires-clause-there g c =
    (let low = c.requires.low in let node = c.requires.node in omega (arith, low, node))

pub restart-requires-clause-writable : goal.restart-requires-clause-writable
restart-requires-clause-writable g c =
    unput_may_be_written _ _ c.requires.stand

pub push_reserved-requires : goal.push_reserved-requires
push_reserved-requires g c =
    c.in_ok-reserve_one.ensures.room

pub returns-in_err-reserve_one : goal.returns-in_err-reserve_one
returns-in_err-reserve_one g c =
    let wants : c.from_residual.result ≡ Err c.in_err-reserve_one.field-0.0 = search rules in
    let works = works_of g.L.CheckpointLog g.L.EntryLog c.args.self.now.works in
    let reads = reads_of g.L.CheckpointLog g.L.EntryLog c.args.self.now.works in
    record {
      line =
          each_there _ c.args.self.now.works.nodes.items (c.args.node - 1) (λ node at told.
          restart_wanting c.args.node (record {
            works = works;
            bound = c.args.self.now.bound.items;
          }) (record { works = works; bound = c.reserve_one.new.list.items }) reads reads
          c.from_residual.result c.in_err-reserve_one.field-0.0 wants (unchanged_lines works works
          reads reads c.args.self.now.bound.items c.reserve_one.new.list.items (λ script st is
          keeps. keeps) c.reserve_one.ensures.same));
      by_stop = rw wants tt;
      disks = goes_on_still;
    }

pub returns-in_err-done : goal.returns-in_err-done
returns-in_err-done g c =
    let wants : c.from_residual-in_err-done.result ≡ Err c.in_err-done.field-0.0 = search rules in
    let works = works_of g.L.CheckpointLog g.L.EntryLog c.args.self.now.works in
    let reads = reads_of g.L.CheckpointLog g.L.EntryLog c.args.self.now.works in
    let now = works_of g.L.CheckpointLog g.L.EntryLog c.restart.new.self in
    let reads_now = reads_of g.L.CheckpointLog g.L.EntryLog c.restart.new.self in
    record {
      line =
          each_there _ c.args.self.now.works.nodes.items (c.args.node - 1) (λ node at told.
          restart_wanting c.args.node (record {
            works = works;
            bound = c.args.self.now.bound.items;
          }) (record { works = now; bound = c.reserve_one.new.list.items }) reads reads_now
          c.from_residual-in_err-done.result c.in_err-done.field-0.0 wants (unchanged_lines works
          now reads reads_now c.args.self.now.bound.items c.reserve_one.new.list.items
          c.in_err-done.ensures.as_before c.reserve_one.ensures.same));
      by_stop = rw wants tt;
      disks = c.restart.ensures.disks;
    }

pub returns : goal.returns
returns g c =
    let works = works_of g.L.CheckpointLog g.L.EntryLog c.args.self.now.works in
    let reads = reads_of g.L.CheckpointLog g.L.EntryLog c.args.self.now.works in
    let now = works_of g.L.CheckpointLog g.L.EntryLog c.restart.new.self in
    let reads_now = reads_of g.L.CheckpointLog g.L.EntryLog c.restart.new.self in
    record {
      line =
          some_so (slice_get c.args.self.now.works.nodes.items (c.args.node - 1)) _ _
          (λ node has told. restart_ended (c.args.node - 1) c.args.node
          (let low = c.requires.low in omega (arith, low))
          (record { works = works; bound = c.args.self.now.bound.items })
          (record { works = now; bound = c.push_reserved.new.list.items }) reads reads_now
          (c.push_reserved.ensures ∙ ap (λ bs. bs ++ None ∷ []) c.reserve_one.ensures.same)
          c.in_ok-done.done (has told)) c.in_ok-done.ensures.restarted;
      by_stop = c.in_ok-done.ensures.by_stop;
      disks = c.restart.ensures.disks;
    }
