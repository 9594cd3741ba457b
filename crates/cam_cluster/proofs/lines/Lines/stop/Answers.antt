-- The line `stop`.
use Rattle.std.proofs.Common.{◌≡◌, ◌-◌, ◌++◌, ◌∷◌, [], None, Err, sym, ap, ◌∙◌, subst, arith, rules}
use Rattle.cam_net.specs.Waiting.{is_halted}
use Rattle.cam_script.specs.declared.Act.TheVariants as acts
use Rattle.cam_cluster.specs.declared.LineFault.TheVariants as line_faults
use Rattle.cam_cluster.specs.LetterLines.{IsLineBy}
use Rattle.cam_cluster.specs.Stops.{IsStop}
use Rattle.cam_cluster.proofs.AsSeen.{lines_of, part, reads_of, works_of}
use Rattle.cam_cluster.proofs.DisksGoOn.{goes_on_still}
use Rattle.cam_cluster.proofs.Led.{unchanged_lines}
use Rattle.cam_cluster.proofs.LineEnds.{wanting_ends}
use Rattle.cam_cluster.proofs.PlacedNodes.{after_is, sees}
use Rattle.cam_cluster.proofs.StoppedLine.{stop_done, stop_halted}
use Rattle.cam_cluster.proofs.lines.Lines.stop.Goals as goal

pub overflow_cast-place : goal.overflow_cast-place
overflow_cast-place g c =
    search rules

pub overflow_sub-place : goal.overflow_sub-place
overflow_sub-place g c =
    c.requires.low

pub returns-then-is_halted : goal.returns-then-is_halted
returns-then-is_halted g c =
    record {
      line = stop_halted c.args.line (c.args.node - 1) c.args.node c.args.calls
          (let low = c.requires.low in omega (arith, low))
          (lines_of g.L.CheckpointLog g.L.EntryLog c.args.self.now)
          (lines_of g.L.CheckpointLog g.L.EntryLog c.refused.new.self)
          (reads_of g.L.CheckpointLog g.L.EntryLog c.args.self.now.works)
          (reads_of g.L.CheckpointLog g.L.EntryLog c.refused.new.self.works)
          (sees (part g.L.CheckpointLog g.L.EntryLog) c.args.self.now.works.nodes.items
          (c.args.node - 1)
          (let low = c.requires.low in let node = c.requires.node in omega (arith, low, node)))
          c.refused.result
          (ap (is_halted c.args.self.now.works.halted) (after_is (c.args.node - 1)) ∙ sym
          c.is_halted.ensures ∙ c.if-is_halted.true) c.refused.ensures.refused;
      disks = c.refused.ensures.disks;
    }

pub returns-in_err-reserve_one : goal.returns-in_err-reserve_one
returns-in_err-reserve_one g c =
    let wants : c.from_residual.result ≡ Err line_faults.NoMemory = search rules in
    record {
      line =
          rw wants (wanting_ends (IsStop c.args.node c.args.calls) _ _ _ _ _ _
          (unchanged_lines _ _ _ _ _ _ (λ script st is keeps. keeps)
          c.reserve_one.ensures.same));
      disks = goes_on_still;
    }

pub stop_after-requires : goal.stop_after-requires
stop_after-requires g c =
    (let low = c.requires.low in let node = c.requires.node in omega (arith, low, node))

pub push_reserved-requires : goal.push_reserved-requires
push_reserved-requires g c =
    c.in_ok-reserve_one.ensures.room

pub returns : goal.returns
returns g c =
    record {
      line = stop_done _ _ _ _ (let low = c.requires.low in omega (arith, low)) _ _ _ _
          (sees _ _ _ (let low = c.requires.low in let node = c.requires.node in omega (
            arith,
            low,
            node,
          ))) (ap (is_halted c.args.self.now.works.halted) (after_is (c.args.node - 1)) ∙
          sym c.is_halted.ensures ∙ c.if-is_halted.false) c.stop_after.ensures.stopped
          (c.push_reserved.ensures ∙ ap (λ bs. bs ++ None ∷ []) c.reserve_one.ensures.same);
      disks = c.stop_after.ensures.disks;
    }
