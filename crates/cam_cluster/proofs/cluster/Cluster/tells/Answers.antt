-- What the lines so far came to.
use Rattle.std.proofs.Common.{refl}
use Rattle.cam_cluster.proofs.AsSeen.{lines_of, part, reads_at, reads_of, tells_of, works_of}
use Rattle.cam_cluster.proofs.LogsKept.{logs_kept}
use Rattle.cam_cluster.proofs.RestartReads.{rest_reads}
use Rattle.cam_cluster.proofs.WholeRuns.{tells_of as of_stands}
use Rattle.cam_cluster.proofs.cluster.Cluster.tells.Goals as goal

pub returns : goal.returns
returns g c seen stands =
    let lines = c.args.self.now.course.lines in
    let reads = reads_of g.L.CheckpointLog g.L.EntryLog lines.works in
    of_stands seen (lines_of g.L.CheckpointLog g.L.EntryLog lines) reads
    c.args.self.now.course.workers stands
    (logs_kept (part g.L.CheckpointLog g.L.EntryLog) (tells_of g.L.CheckpointLog g.L.EntryLog)
    (reads_at g.L.CheckpointLog g.L.EntryLog)
    (λ node logged told awake read. rest_reads _ _ _ logged
    (λ o is. g.met.L.EntryLog.at_rest node.log.log o told (node.log.whole awake) is) read)
    seen (works_of g.L.CheckpointLog g.L.EntryLog lines.works) reads lines.works.nodes.items
    refl stands.keeps.between.is_script.eight_nodes stands.keeps.between.keeps.runs)
