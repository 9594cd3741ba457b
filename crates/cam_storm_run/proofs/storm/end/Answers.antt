-- What is left is told.
use Rattle.std.proofs.Common.{◌∙◌, ap}
use Rattle.cam_cluster.specs.Disks.{AreLogs, MayReadDisk}
use Rattle.cam_journal.specs.Seats.{Opened}
use Rattle.cam_storm.specs.Runs.{StormRun}
use Rattle.cam_storm_run.specs.Storms.{AreKept, IsSettled}
use Rattle.cam_storm_run.proofs.AtEnd.{floor_at_end, kept_at_end, logs_at_end, run_at_end, settled_at_end}
use Rattle.cam_storm_run.proofs.Told.{on_ok, told}
use Rattle.cam_storm_run.proofs.storm.end.Goals as goal

pub returns-in-Ok-clause-run : goal.returns-in-Ok-clause-run
returns-in-Ok-clause-run g c =
    told c.trace_of.result c.gather.result (StormRun g.W.Storming.words) c.trace_of.ensures
    (run_at_end _ g.W.Storming.words g.W.Storming.failures g.D.Disk.tells g.D.Disk.faults g.D.Disk.moment
    g.D.Disk.left_since c.settle_after-settled.new.ended c.into_parts-journal.result.0
    c.into_parts-journal.result.1.items c.into_parts-journal.result.2.items
    c.take_out.new.disks.items c.into_parts-journal.ensures.parts c.into_parts-journal.ensures.left
    c.take_out.ensures.out
    (ap (λ (j : Opened). j.nodes) c.settle_after-settled.ensures.journal ∙ c.requires.nodes)
    c.cores.result.now c.cores.ensures.value
    (c.are_running-running.ensures c.if-running.true)
    c.gather.result c.gather.ensures)

pub returns-in-Ok-clause-settled : goal.returns-in-Ok-clause-settled
returns-in-Ok-clause-settled g c =
    told c.trace_of.result c.gather.result (IsSettled g.W.Storming.words) c.trace_of.ensures
    (settled_at_end _ g.W.Storming.words g.W.Storming.failures g.D.Disk.tells g.D.Disk.faults g.D.Disk.moment
    g.D.Disk.left_since c.settle_after-settled.new.ended c.into_parts-journal.result.0
    c.into_parts-journal.result.1.items c.into_parts-journal.result.2.items
    c.take_out.new.disks.items c.into_parts-journal.ensures.parts c.into_parts-journal.ensures.left
    c.take_out.ensures.out
    (ap (λ (j : Opened). j.nodes) c.settle_after-settled.ensures.journal ∙ c.requires.nodes)
    c.cores.result.now c.cores.ensures.value
    (c.are_running-running.ensures c.if-running.true)
    c.gather.result c.gather.ensures
    c.into_parts-journal.ensures.seats c.in-Ok.ensures.rest)

pub returns-in-Ok-clause-kept : goal.returns-in-Ok-clause-kept
returns-in-Ok-clause-kept g c =
    told c.trace_of.result c.gather.result
    (λ t.
    AreKept g.W.Storming.words t
    (MayReadDisk g.D.Disk.tells g.D.Disk.moment g.D.Disk.left_since c.take_out.new.disks.items))
    c.trace_of.ensures
    (kept_at_end _ g.W.Storming.words g.W.Storming.failures g.D.Disk.tells g.D.Disk.faults g.D.Disk.moment
    g.D.Disk.left_since c.settle_after-settled.new.ended c.into_parts-journal.result.0
    c.into_parts-journal.result.1.items c.into_parts-journal.result.2.items
    c.take_out.new.disks.items c.into_parts-journal.ensures.parts c.into_parts-journal.ensures.left
    c.take_out.ensures.out
    (ap (λ (j : Opened). j.nodes) c.settle_after-settled.ensures.journal ∙ c.requires.nodes)
    c.cores.result.now c.cores.ensures.value
    (c.are_running-running.ensures c.if-running.true)
    c.gather.result c.gather.ensures)

pub returns-in-Ok-clause-logs : goal.returns-in-Ok-clause-logs
returns-in-Ok-clause-logs g c =
    on_ok c.trace_of.result
    (AreLogs g.D.Disk.tells g.D.Disk.moment g.D.Disk.left_since c.take_out.new.disks.items)
    (logs_at_end _ g.W.Storming.words g.W.Storming.failures g.D.Disk.tells g.D.Disk.faults g.D.Disk.moment
    g.D.Disk.left_since c.settle_after-settled.new.ended c.into_parts-journal.result.0
    c.into_parts-journal.result.1.items c.into_parts-journal.result.2.items
    c.take_out.new.disks.items c.into_parts-journal.ensures.parts c.into_parts-journal.ensures.left
    c.take_out.ensures.out
    (ap (λ (j : Opened). j.nodes) c.settle_after-settled.ensures.journal ∙ c.requires.nodes)
    c.cores.result.now c.cores.ensures.value
    (c.are_running-running.ensures c.if-running.true)
    c.gather.result c.gather.ensures)

pub returns-in-Ok-clause-floor : goal.returns-in-Ok-clause-floor
returns-in-Ok-clause-floor g c =
    floor_at_end _ g.W.Storming.words g.W.Storming.failures g.D.Disk.tells g.D.Disk.faults g.D.Disk.moment
    g.D.Disk.left_since c.settle_after-settled.new.ended c.into_parts-journal.result.0
    c.into_parts-journal.result.1.items c.into_parts-journal.result.2.items
    c.take_out.new.disks.items c.into_parts-journal.ensures.parts c.into_parts-journal.ensures.left
    c.take_out.ensures.out

pub returns-in-Ok-2-clause-floor : goal.returns-in-Ok-2-clause-floor
returns-in-Ok-2-clause-floor g c =
    floor_at_end _ g.W.Storming.words g.W.Storming.failures g.D.Disk.tells g.D.Disk.faults g.D.Disk.moment
    g.D.Disk.left_since c.settle_after-settled.new.ended c.into_parts-journal.result.0
    c.into_parts-journal.result.1.items c.into_parts-journal.result.2.items
    c.take_out.new.disks.items c.into_parts-journal.ensures.parts c.into_parts-journal.ensures.left
    c.take_out.ensures.out
