-- Works and lines as they are seen, in the words of the log's trait.
use Rattle.std.proofs.Common.{ℕ, Bool}
use Rattle.cam_ckpt.specs.declared.checkpoint_log.CheckpointLog.{Ghosts as CkptGhosts}
use Rattle.cam_log.specs.declared.entry_log.EntryLog.{Ghosts as LogGhosts}
use Rattle.cam_node.specs.declared.node.Node.{Node}
use Rattle.cam_node.specs.Calls.{answers}
use Rattle.cam_node.specs.Log.{Logged}
use Rattle.cam_node.specs.Opened.{MayRead}
use Rattle.cam_cluster.specs.declared.lines.Lines.{Lines}
use Rattle.cam_cluster.specs.declared.works.Works.{Works}
use Rattle.cam_cluster.specs.SoFar.{LinesFields}
use Rattle.cam_cluster.specs.Works.{NodeFields, WorksFields, MayReadAt}
use Rattle.cam_cluster.proofs.PutWorks.{seen}

abbrev pub part : {X : Type 0} (g : CkptGhosts X) (h : LogGhosts X) → Node X g h → NodeFields
part g h node = record {
  site = record { node = answers node.core; entries = h.listed node.log.log };
  objects = node.objects;
  halted = node.log.halted;
  halted_at = node.halted_at;
  passes = h.passes node.log.log;
  reads = h.reads node.log.log;
  tells = h.tells node.log.log;
  failures = h.faults_within node.log.log;
}

abbrev pub tells_of : {X : Type 0} (g : CkptGhosts X) (h : LogGhosts X) → Node X g h → Bool
tells_of g h node = h.tells node.log.log

abbrev pub reads_at : {X : Type 0} (g : CkptGhosts X) (h : LogGhosts X) → Node X g h → Logged
    → Type 0
reads_at g h node = MayRead (h.opens_since node.log.log) (h.moment node.log.log)

abbrev pub works_of : {X : Type 0} (g : CkptGhosts X) (h : LogGhosts X) → Works X g h → WorksFields
works_of g h works =
    seen (part g h) (tells_of g h) (reads_at g h) works.nodes.items works.outbox works.halted
    works.failed works.undecided.items works.events.events.items works.marks.items

abbrev pub reads_of : {X : Type 0} (g : CkptGhosts X) (h : LogGhosts X) → Works X g h
    → ℕ → Logged → Type 0
reads_of g h works = MayReadAt (tells_of g h) (reads_at g h) works.nodes.items

abbrev pub lines_of : {X : Type 0} (g : CkptGhosts X) (h : LogGhosts X) → Lines X g h → LinesFields
lines_of g h lines = record { works = works_of g h lines.works; bound = lines.bound.items }
