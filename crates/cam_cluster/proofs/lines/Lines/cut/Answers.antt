-- The line `cut`.
use Rattle.std.proofs.Common.{◌≡◌, Err, refl, sym, subst, rules}
use Rattle.cam_script.specs.declared.Act.TheVariants as acts
use Rattle.cam_cluster.specs.declared.LineFault.TheVariants as line_faults
use Rattle.cam_cluster.specs.Coming.{HasArrived}
use Rattle.cam_cluster.specs.LetterLines.{IsCut, IsLineBy}
use Rattle.cam_cluster.proofs.AsSeen.{lines_of, reads_of, works_of}
use Rattle.cam_cluster.proofs.DisksGoOn.{goes_on_then}
use Rattle.cam_cluster.proofs.LetterLines.{cut_delivers, cut_marks, not_taken}
use Rattle.cam_cluster.proofs.LineEnds.{both_before, some_lines, wanting_ends, works_of_lines}
use Rattle.cam_cluster.proofs.lines.Lines.cut.Goals as goal

pub take_letter-requires : goal.take_letter-requires
take_letter-requires g c = record { stand = c.requires.stand }

pub returns-in_err-coming : goal.returns-in_err-coming
returns-in_err-coming g c = record {
  disks = c.take_letter.ensures.disks;
  line =
      let is : c.from_residual.result ≡ Err c.in_err-coming.field-0.0 = search rules in
      rw is (not_taken (IsCut c.args.letter c.args.bytes) _ _ _ (λ script st. refl) _ _ _ _
      _ c.in_err-coming.ensures.taken);
}

pub arrive-requires : goal.arrive-requires
arrive-requires g c = record {
  all = c.in_ok-coming.ensures.taken.all;
  stand =
      works_of_lines _ _ (some_lines _ _ _ _ c.in_ok-coming.ensures.taken.as_before
      c.requires.stand);
  found = c.in_ok-coming.ensures.taken.found;
}

pub returns-in_err-whole : goal.returns-in_err-whole
returns-in_err-whole g c = record {
  disks = c.take_letter.ensures.disks;
  line =
      let wants : c.from_residual-in_err-whole.result ≡ Err line_faults.NoMemory = search rules in
      rw wants (wanting_ends (IsCut c.args.letter c.args.bytes) _ _ _ _ _ _
      c.in_ok-coming.ensures.taken.as_before);
}

pub lead_letter-requires : goal.lead_letter-requires
lead_letter-requires g c = record {
  stand = (some_lines _ _ _ _ c.in_ok-coming.ensures.taken.as_before c.requires.stand);
  all = c.in_ok-coming.ensures.taken.all;
  found = c.in_ok-coming.ensures.taken.found;
  awake = c.in_ok-coming.ensures.taken.awake;
  read =
      λ script st is keeps. (subst (HasArrived c.args.bytes c.in_ok-coming.coming.letter (works_of
      g.L.CheckpointLog g.L.EntryLog c.take_letter.new.self.works) (reads_of g.L.CheckpointLog
      g.L.EntryLog c.take_letter.new.self.works)) c.in-Whole.is c.in_ok-whole.ensures script st is
      keeps).1;
}

pub returns-in_err-done-in-Whole : goal.returns-in_err-done-in-Whole
returns-in_err-done-in-Whole g c = record {
  disks = goes_on_then c.take_letter.ensures.disks c.lead_letter.ensures.disks;
  line =
      let wants : c.from_residual-in_err-done-in-Whole.result ≡ Err line_faults.NoMemory =
      search rules in
      rw wants (wanting_ends (IsCut c.args.letter c.args.bytes) _ _ _ _ _ _ (both_before _ _
      _ _ _ _ c.in_ok-coming.ensures.taken.as_before c.in_err-done-in-Whole.ensures.as_before));
}

pub returns-in_ok-done-in-Whole : goal.returns-in_ok-done-in-Whole
returns-in_ok-done-in-Whole g c = record {
  disks = goes_on_then c.take_letter.ensures.disks c.lead_letter.ensures.disks;
  line =
      cut_delivers _ _ _ _ _ _ _ _ _ c.in_ok-coming.ensures.taken _ _ _ (subst
      (HasArrived c.args.bytes c.in_ok-coming.coming.letter (works_of g.L.CheckpointLog g.L.EntryLog
      c.take_letter.new.self.works) (reads_of g.L.CheckpointLog g.L.EntryLog
      c.take_letter.new.self.works)) c.in-Whole.is c.in_ok-whole.ensures)
      c.in_ok-done-in-Whole.ensures.led;
}

pub returns-in_err-mark_cut-in-Cut : goal.returns-in_err-mark_cut-in-Cut
returns-in_err-mark_cut-in-Cut g c = record {
  disks = goes_on_then c.take_letter.ensures.disks c.mark_cut.ensures.disks;
  line =
      let wants : c.from_residual-in_err-mark_cut-in-Cut.result ≡ Err line_faults.NoMemory =
      search rules in
      rw wants (wanting_ends (IsCut c.args.letter c.args.bytes) _ _ _ _ _ _ (both_before _ _
      _ _ _ _ c.in_ok-coming.ensures.taken.as_before
      c.in_err-mark_cut-in-Cut.ensures.as_before));
}

pub returns-in_ok-mark_cut-in-Cut : goal.returns-in_ok-mark_cut-in-Cut
returns-in_ok-mark_cut-in-Cut g c = record {
  disks = goes_on_then c.take_letter.ensures.disks c.mark_cut.ensures.disks;
  line =
      cut_marks _ _ _ _ _ _ _ _ _ c.in_ok-coming.ensures.taken _ _ (subst (HasArrived
      c.args.bytes c.in_ok-coming.coming.letter (works_of g.L.CheckpointLog g.L.EntryLog
      c.take_letter.new.self.works) (reads_of g.L.CheckpointLog g.L.EntryLog
      c.take_letter.new.self.works)) c.in-Cut.is c.in_ok-whole.ensures)
      c.in_ok-mark_cut-in-Cut.ensures.marked;
}
