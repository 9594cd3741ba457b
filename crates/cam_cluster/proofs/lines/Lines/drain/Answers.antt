-- The line `drain`.
use Rattle.std.proofs.Common.{◌++◌, ◌∷◌, [], None, ap, ◌∙◌, rules}
use Rattle.cam_cluster.proofs.AsSeen.{lines_of, reads_of, works_of}
use Rattle.cam_cluster.proofs.DisksGoOn.{goes_on_still}
use Rattle.cam_cluster.proofs.Drains.{none_so_far}
use Rattle.cam_cluster.proofs.DrainLines.{drain_line, drain_part}
use Rattle.cam_cluster.proofs.LineEnds.{works_of_lines}
use Rattle.cam_cluster.proofs.PlacedNodes.{on_err}
use Rattle.cam_cluster.proofs.lines.Lines.drain.Goals as goal

pub returns-in_err-reserve_one-clause-disks : goal.returns-in_err-reserve_one-clause-disks
returns-in_err-reserve_one-clause-disks g c =
    goes_on_still

pub returns-in_err-reserve_one-clause-line : goal.returns-in_err-reserve_one-clause-line
returns-in_err-reserve_one-clause-line g c =
    search rules

pub returns-in_err-reserve_one-clause-part : goal.returns-in_err-reserve_one-clause-part
returns-in_err-reserve_one-clause-part g c =
    on_err _ _ (drain_part _ _ _ _ _ _ _ (none_so_far _ _ _) c.reserve_one.ensures.same)

pub drain-requires : goal.drain-requires
drain-requires g c = record {
  stand =
      works_of_lines (lines_of g.L.CheckpointLog g.L.EntryLog c.args.self.now)
      (reads_of g.L.CheckpointLog g.L.EntryLog c.args.self.now.works) c.requires.stand;
}

pub returns-in_err-drain-clause-disks : goal.returns-in_err-drain-clause-disks
returns-in_err-drain-clause-disks g c =
    c.drain.ensures.disks

pub returns-in_err-drain-clause-line : goal.returns-in_err-drain-clause-line
returns-in_err-drain-clause-line g c =
    search rules

pub returns-in_err-drain-clause-part : goal.returns-in_err-drain-clause-part
returns-in_err-drain-clause-part g c =
    on_err _ _ (drain_part _ _ _ _ _ _ _ c.in_err-drain.ensures.part
    c.reserve_one.ensures.same)

pub push_reserved-requires : goal.push_reserved-requires
push_reserved-requires g c =
    c.in_ok-reserve_one.ensures.room

pub returns-clause-disks : goal.returns-clause-disks
returns-clause-disks g c =
    c.drain.ensures.disks

pub returns-clause-line : goal.returns-clause-line
returns-clause-line g c =
    drain_line _ _ _ _ _ _ _ c.in_ok-drain.ensures.drained (c.push_reserved.ensures ∙ ap (λ
    bs. bs ++ None ∷ []) c.reserve_one.ensures.same)
