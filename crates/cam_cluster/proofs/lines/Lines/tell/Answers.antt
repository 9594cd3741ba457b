-- The line `tell`.
use Rattle.std.proofs.Common.{ℕ, sym, subst}
use Rattle.cam_node.specs.declared.Input.TheVariants as inputs
use Rattle.cam_cluster.specs.InputLines.{IsLineToSome, IsTriedLine}
use Rattle.cam_cluster.proofs.ActEnds.{tell_line, tell_some}
use Rattle.cam_cluster.proofs.AsSeen.{lines_of, reads_of}
use Rattle.cam_cluster.proofs.VariableEnds.{before_after}
use Rattle.cam_cluster.proofs.lines.Lines.tell.Goals as goal

pub overflow_sub-node : goal.overflow_sub-node
overflow_sub-node g c =
    let old = lines_of g.L.CheckpointLog g.L.EntryLog c.args.self.now in
    let might = reads_of g.L.CheckpointLog g.L.EntryLog c.args.self.now.works in
    let some = tell_some _ _ _ _ old _ might c.requires.next in
    some.is_line.low

pub try_lead-requires : goal.try_lead-requires
try_lead-requires g c = record {
  to =
      let old = lines_of g.L.CheckpointLog g.L.EntryLog c.args.self.now in
      let might = reads_of g.L.CheckpointLog g.L.EntryLog c.args.self.now.works in
      let some = tell_some c.args.line c.args.node c.args.to old old might might c.requires.next in
      let back = before_after c.args.node some.is_line.low in
      subst (λ (n : ℕ). IsLineToSome n (inputs.Tell c.args.to) old might) (sym back) some;
}

pub returns-clause-disks : goal.returns-clause-disks
returns-clause-disks g c =
    c.try_lead.ensures.disks

pub returns-clause-line : goal.returns-clause-line
returns-clause-line g c =
    let old = lines_of g.L.CheckpointLog g.L.EntryLog c.args.self.now in
    let might = reads_of g.L.CheckpointLog g.L.EntryLog c.args.self.now.works in
    let some = tell_some _ _ _ _ old _ might c.requires.next in
    let back = before_after _ some.is_line.low in
    tell_line _ _ _ _ _ _ _ _ (rw (← back) c.try_lead.ensures.line)
