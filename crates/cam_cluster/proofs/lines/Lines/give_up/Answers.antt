-- Giving up a child.
use Rattle.std.proofs.Common.{sym}
use Rattle.cam_event.specs.declared.Want.TheVariants as wants
use Rattle.cam_script.specs.declared.Act.TheVariants as acts
use Rattle.cam_cluster.proofs.ActEnds.{give_up_line, give_up_makes, give_up_refused, makes_some}
use Rattle.cam_cluster.proofs.AsSeen.{lines_of, reads_of}
use Rattle.cam_cluster.proofs.lines.Lines.give_up.Goals as goal

pub request-requires : goal.request-requires
request-requires g c = record {
  by =
      let old = lines_of g.L.CheckpointLog g.L.EntryLog c.args.self.now in
      let might = reads_of g.L.CheckpointLog g.L.EntryLog c.args.self.now.works in
      makes_some c.args.line c.args.action (wants.GiveUp c.in-Some.given_up) (acts.GiveUp
      c.args.action c.args.child) old old might might (give_up_makes c.args.line c.args.action
      c.args.child old old might might c.in-Some.given_up (sym c.in-Some.ensures)) c.requires.next;
}

pub returns-in-Some-clause-disks : goal.returns-in-Some-clause-disks
returns-in-Some-clause-disks g c =
    c.request.ensures.disks

pub returns-in-Some-clause-line : goal.returns-in-Some-clause-line
returns-in-Some-clause-line g c =
    give_up_line _ _ _ _ _ _ _ _ (sym c.in-Some.ensures) _ c.request.ensures.line

pub returns-in-None-clause-disks : goal.returns-in-None-clause-disks
returns-in-None-clause-disks g c =
    c.refused.ensures.disks

pub returns-in-None-clause-line : goal.returns-in-None-clause-line
returns-in-None-clause-line g c =
    let old = lines_of g.L.CheckpointLog g.L.EntryLog c.args.self.now in
    let might = reads_of g.L.CheckpointLog g.L.EntryLog c.args.self.now.works in
    let new = lines_of g.L.CheckpointLog g.L.EntryLog c.refused.new.self in
    let may = reads_of g.L.CheckpointLog g.L.EntryLog c.refused.new.self.works in
    give_up_refused c.args.line c.args.action c.args.child old new might may (sym
    c.in-None.ensures) c.refused.result c.refused.ensures.refused
