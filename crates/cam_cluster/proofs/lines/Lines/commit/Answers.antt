-- Asking to commit.
use Rattle.std.proofs.Common.{ℤ, sym, subst, to_z-of_z}
use Rattle.cam_event.specs.declared.Want.TheVariants as wants
use Rattle.cam_script.specs.declared.Act.TheVariants as acts
use Rattle.cam_cluster.specs.VariableLines.{IsRequestBySome, IsRequestLine}
use Rattle.cam_cluster.proofs.ActEnds.{makes_line, makes_some}
use Rattle.cam_cluster.proofs.AsSeen.{lines_of, reads_of}
use Rattle.cam_cluster.proofs.VariableActs.{commit_by}
use Rattle.cam_cluster.proofs.lines.Lines.commit.Goals as goal

pub request-requires : goal.request-requires
request-requires g c = record {
  by =
      let old = lines_of g.L.CheckpointLog g.L.EntryLog c.args.self.now in
      let might = reads_of g.L.CheckpointLog g.L.EntryLog c.args.self.now.works in
      subst (λ (v : ℤ). IsRequestBySome c.args.action (wants.Commit v) old might) (sym (to_z-of_z
      c.ranges.value)) (makes_some c.args.line c.args.action (wants.Commit c.args.value) (acts.Commit
      c.args.action c.args.value) old old might might (λ script st is keeps next. commit_by script st
      c.args.line is c.args.action c.args.value next) c.requires.next);
}

pub returns-clause-disks : goal.returns-clause-disks
returns-clause-disks g c =
    c.request.ensures.disks

pub returns-clause-line : goal.returns-clause-line
returns-clause-line g c =
    makes_line _ _ _ _ _ _ _ _ (λ script st is keeps next. commit_by _ _ _ is _ _ next)
    _ (rw (← (to_z-of_z c.ranges.value)) c.request.ensures.line)
