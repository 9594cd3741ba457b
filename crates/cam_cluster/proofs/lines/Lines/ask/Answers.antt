-- Asking for a child.
use Rattle.cam_event.specs.declared.Want.TheVariants as wants
use Rattle.cam_script.specs.declared.Act.TheVariants as acts
use Rattle.cam_cluster.proofs.ActEnds.{makes_line, makes_some}
use Rattle.cam_cluster.proofs.AsSeen.{lines_of, reads_of}
use Rattle.cam_cluster.proofs.VariableActs.{ask_by}
use Rattle.cam_cluster.proofs.lines.Lines.ask.Goals as goal

pub request-requires : goal.request-requires
request-requires g c = record {
  by =
      let old = lines_of g.L.CheckpointLog g.L.EntryLog c.args.self.now in
      let might = reads_of g.L.CheckpointLog g.L.EntryLog c.args.self.now.works in
      makes_some c.args.line c.args.parent (wants.Ask c.args.node) (acts.Ask c.args.parent
      c.args.node) old old might might (λ script st is keeps next. ask_by script st c.args.line is
      c.args.parent c.args.node next) c.requires.next;
}

pub returns-clause-disks : goal.returns-clause-disks
returns-clause-disks g c =
    c.request.ensures.disks

pub returns-clause-line : goal.returns-clause-line
returns-clause-line g c =
    makes_line _ _ _ _ _ _ _ _ (λ script st is keeps next. ask_by _ _ _ is _ _ next) _
    c.request.ensures.line
