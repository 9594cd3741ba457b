-- The letters that wait are handed over, one after another.
use Rattle.std.proofs.Common.{sym, ◌∙◌, rules}
use Rattle.cam_cluster.proofs.AsSeen.{reads_of, works_of}
use Rattle.cam_cluster.proofs.DisksGoOn.{goes_on_still, goes_on_then}
use Rattle.cam_cluster.proofs.Drains.{and_next, and_over, and_wanting, next_none, next_some}
use Rattle.cam_cluster.proofs.Drains.{none_so_far}
use Rattle.cam_cluster.proofs.NextDelivered.{some_behind, weighs_less}
use Rattle.cam_cluster.proofs.PlacedNodes.{on_err}
use Rattle.cam_cluster.proofs.works.Works.drain.Goals as goal

pub loop-init : goal.loop-init
loop-init g c = record {
  so_far = none_so_far _ _ _;
  some = c.requires.stand;
  disks = goes_on_still;
}

pub deliver_next-requires : goal.deliver_next-requires
deliver_next-requires g c = record { stand = c.loop.invariant.some }

pub returns-in_err-deliver_next-clause-disks : goal.returns-in_err-deliver_next-clause-disks
returns-in_err-deliver_next-clause-disks g c =
    goes_on_then c.loop.invariant.disks c.deliver_next.ensures.disks

pub returns-in_err-deliver_next-clause-drained : goal.returns-in_err-deliver_next-clause-drained
returns-in_err-deliver_next-clause-drained g c =
    search rules

pub returns-in_err-deliver_next-clause-part : goal.returns-in_err-deliver_next-clause-part
returns-in_err-deliver_next-clause-part g c =
    on_err _ _ (and_wanting _ _ _ _ _ _ _ c.loop.invariant.so_far
    c.in_err-deliver_next.ensures.as_before)

pub loop-smaller : goal.loop-smaller
loop-smaller g c =
    let next = (next_some _ _ _ _ _ _ (sym c.is_some.ensures ∙ c.if-is_some.true)
    c.in_ok-deliver_next.ensures.next) in
    weighs_less c.args.line (works_of g.L.CheckpointLog g.L.EntryLog c.loop.self) (works_of
    g.L.CheckpointLog g.L.EntryLog c.deliver_next.new.self) (reads_of g.L.CheckpointLog g.L.EntryLog
    c.loop.self) (reads_of g.L.CheckpointLog g.L.EntryLog c.deliver_next.new.self) next.0
    c.loop.invariant.some next.1

pub loop-preserved : goal.loop-preserved
loop-preserved g c =
    let next = (next_some _ _ _ _ _ _ (sym c.is_some.ensures ∙ c.if-is_some.true)
    c.in_ok-deliver_next.ensures.next) in record {
      so_far = and_next _ _ _ _ _ _ _ _ c.loop.invariant.so_far next.1;
      some =
          some_behind c.args.line (works_of g.L.CheckpointLog g.L.EntryLog c.loop.self) (works_of
          g.L.CheckpointLog g.L.EntryLog c.deliver_next.new.self) (reads_of g.L.CheckpointLog
          g.L.EntryLog c.loop.self) (reads_of g.L.CheckpointLog g.L.EntryLog
          c.deliver_next.new.self) next.0 c.loop.invariant.some next.1;
      disks = goes_on_then c.loop.invariant.disks c.deliver_next.ensures.disks;
    }

pub returns-clause-disks : goal.returns-clause-disks
returns-clause-disks g c =
    goes_on_then c.loop.invariant.disks c.deliver_next.ensures.disks

pub returns-clause-drained : goal.returns-clause-drained
returns-clause-drained g c =
    and_over _ _ _ _ _ _ _ c.loop.invariant.so_far (next_none _ _ _ _ _ _ (sym
    c.is_some.ensures ∙ c.if-is_some.false) c.in_ok-deliver_next.ensures.next)
