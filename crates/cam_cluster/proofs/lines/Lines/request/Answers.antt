-- A request of a variable's action.
use Rattle.std.proofs.Common.{ℕ, ◌≤◌, sym, ap, subst, rules}
use Rattle.cam_node.specs.declared.Input.TheVariants as inputs
use Rattle.cam_cluster.specs.InputLines.{IsLineToSome, IsTriedLine}
use Rattle.cam_cluster.proofs.AsSeen.{lines_of, reads_of}
use Rattle.cam_cluster.proofs.VariableEnds.{home_place, request_ended, request_to, request_unbound}
use Rattle.cam_cluster.proofs.lines.Lines.request.Goals as goal

pub overflow_cast-place : goal.overflow_cast-place
overflow_cast-place g c =
    search rules

pub overflow_sub-place : goal.overflow_sub-place
overflow_sub-place g c =
    let old = lines_of g.L.CheckpointLog g.L.EntryLog c.args.self.now in
    let might = reads_of g.L.CheckpointLog g.L.EntryLog c.args.self.now.works in
    let some = request_to c.args.line _ _ _ old _ might c.requires.by _ (sym c.in-Some.ensures)
    in
    rw (ap (λ (p : ℕ × ℕ). p.0) c.home.ensures) some.is_line.low

pub try_lead-requires : goal.try_lead-requires
try_lead-requires g c = record {
  to =
      let old = lines_of g.L.CheckpointLog g.L.EntryLog c.args.self.now in
      let might = reads_of g.L.CheckpointLog g.L.EntryLog c.args.self.now.works in
      let some = request_to c.args.line c.args.variable c.args.want old old might might c.requires.by
      c.in-Some.action (sym c.in-Some.ensures) in
      let back = home_place c.home.result _ _ c.home.ensures some.is_line.low in
      subst (λ (n : ℕ). IsLineToSome n (inputs.Request (record {
        action = c.in-Some.action;
        want =
            c.args.want;
      })) old might) (sym back) some;
}

pub returns-in-Some-clause-disks : goal.returns-in-Some-clause-disks
returns-in-Some-clause-disks g c =
    c.try_lead.ensures.disks

pub returns-in-Some-clause-line : goal.returns-in-Some-clause-line
returns-in-Some-clause-line g c =
    let old = lines_of g.L.CheckpointLog g.L.EntryLog c.args.self.now in
    let might = reads_of g.L.CheckpointLog g.L.EntryLog c.args.self.now.works in
    let some = request_to c.args.line _ _ _ old _ might c.requires.by _ (sym c.in-Some.ensures)
    in
    let back = home_place _ _ _ c.home.ensures some.is_line.low in
    request_ended _ _ _ _ _ _ _ c.requires.by _ (sym c.in-Some.ensures) _ (rw (← back)
    c.try_lead.ensures.line)

pub returns-in-None-clause-disks : goal.returns-in-None-clause-disks
returns-in-None-clause-disks g c =
    c.refused.ensures.disks

pub returns-in-None-clause-line : goal.returns-in-None-clause-line
returns-in-None-clause-line g c =
    let old = lines_of g.L.CheckpointLog g.L.EntryLog c.args.self.now in
    let might = reads_of g.L.CheckpointLog g.L.EntryLog c.args.self.now.works in
    let new = lines_of g.L.CheckpointLog g.L.EntryLog c.refused.new.self in
    let may = reads_of g.L.CheckpointLog g.L.EntryLog c.refused.new.self.works in
    request_unbound c.args.line c.args.variable c.args.want old new might may (sym
    c.in-None.ensures) c.refused.result c.refused.ensures.refused
