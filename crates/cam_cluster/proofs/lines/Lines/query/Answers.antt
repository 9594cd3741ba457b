-- The line `query`.
use Rattle.std.proofs.Common.{ℕ, ◌+◌, ◌-◌, sym, subst}
use Rattle.cam_names.specs.Names.{family}
use Rattle.cam_node.specs.declared.Input.TheVariants as inputs
use Rattle.cam_cluster.specs.InputLines.{IsLineToSome, IsTriedLine}
use Rattle.cam_cluster.proofs.ActEnds.{query_line, query_refused, query_some}
use Rattle.cam_cluster.proofs.AsSeen.{lines_of, reads_of}
use Rattle.cam_cluster.proofs.VariableEnds.{before_after}
use Rattle.cam_cluster.proofs.lines.Lines.query.Goals as goal

pub overflow_sub-node : goal.overflow_sub-node
overflow_sub-node g c =
    let old = lines_of g.L.CheckpointLog g.L.EntryLog c.args.self.now in
    let might = reads_of g.L.CheckpointLog g.L.EntryLog c.args.self.now.works in
    let some = query_some _ _ _ _ old _ might _ (sym c.in-Some.ensures) c.requires.next in
    some.is_line.low

pub try_lead-requires : goal.try_lead-requires
try_lead-requires g c = record {
  to =
      let old = lines_of g.L.CheckpointLog g.L.EntryLog c.args.self.now in
      let might = reads_of g.L.CheckpointLog g.L.EntryLog c.args.self.now.works in
      let some = query_some c.args.line c.args.node c.args.action old old might might c.in-Some.name
      (sym c.in-Some.ensures) c.requires.next in
      let back = before_after c.args.node some.is_line.low in
      subst (λ f. IsLineToSome (c.args.node - 1 + 1) (inputs.Query f) old might) (sym
      c.family.ensures) (subst (λ (n : ℕ). IsLineToSome n (inputs.Query (family c.in-Some.name)) old
      might) (sym back) some);
}

pub returns-in-Some-clause-disks : goal.returns-in-Some-clause-disks
returns-in-Some-clause-disks g c =
    c.try_lead.ensures.disks

pub returns-in-Some-clause-line : goal.returns-in-Some-clause-line
returns-in-Some-clause-line g c =
    let old = lines_of g.L.CheckpointLog g.L.EntryLog c.args.self.now in
    let might = reads_of g.L.CheckpointLog g.L.EntryLog c.args.self.now.works in
    let some = query_some _ _ _ _ old _ might _ (sym c.in-Some.ensures) c.requires.next in
    let back = before_after _ some.is_line.low in
    query_line _ _ _ _ _ _ _ _ (sym c.in-Some.ensures) _ (rw (← back) (rw (←
    c.family.ensures) c.try_lead.ensures.line))

pub returns-in-None-clause-disks : goal.returns-in-None-clause-disks
returns-in-None-clause-disks g c =
    c.refused.ensures.disks

pub returns-in-None-clause-line : goal.returns-in-None-clause-line
returns-in-None-clause-line g c =
    let old = lines_of g.L.CheckpointLog g.L.EntryLog c.args.self.now in
    let might = reads_of g.L.CheckpointLog g.L.EntryLog c.args.self.now.works in
    let new = lines_of g.L.CheckpointLog g.L.EntryLog c.refused.new.self in
    let may = reads_of g.L.CheckpointLog g.L.EntryLog c.refused.new.self.works in
    query_refused c.args.line c.args.node c.args.action old new might may (sym c.in-None.ensures)
    c.refused.result c.refused.ensures.refused
