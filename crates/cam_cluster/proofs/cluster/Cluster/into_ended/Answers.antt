-- The record of the lines so far, and the nodes.
use Rattle.std.proofs.Common.{refl}
use Rattle.cam_cluster.proofs.AsSeen.{lines_of, part, reads_at, reads_of, tells_of, works_of}
use Rattle.cam_cluster.proofs.LogsKept.{logs_kept}
use Rattle.cam_cluster.proofs.RestartReads.{rest_reads}
use Rattle.cam_cluster.proofs.WholeRuns.{all_taken}
use Rattle.cam_cluster.proofs.cluster.Cluster.into_ended.Goals as goal

pub returns-clause-record : goal.returns-clause-record
returns-clause-record g c script taken =
    let lines = c.args.self.course.lines in
    let reads = reads_of g.L.CheckpointLog g.L.EntryLog lines.works in
    all_taken script (lines_of g.L.CheckpointLog g.L.EntryLog lines) reads
    c.args.self.course.workers c.into_trace.result c.from_vec.result taken
    c.into_trace.ensures c.from_vec.ensures
    (logs_kept (part g.L.CheckpointLog g.L.EntryLog) (tells_of g.L.CheckpointLog g.L.EntryLog)
    (reads_at g.L.CheckpointLog g.L.EntryLog)
    (λ node logged told awake read. rest_reads _ _ _ logged
    (λ o is. g.met.L.EntryLog.at_rest node.log.log o told (node.log.whole awake) is) read)
    taken.seen (works_of g.L.CheckpointLog g.L.EntryLog lines.works) reads lines.works.nodes.items
    refl taken.keeps.between.is_script.eight_nodes taken.keeps.between.keeps.runs)
