-- A line is taken.
use Rattle.std.proofs.Common.{Ok, Err, Some, None, subst}
use Rattle.cam_script.specs.declared.Act.TheVariants as acts
use Rattle.cam_cluster.specs.declared.LineFault.TheVariants as line_faults
use Rattle.cam_cluster.specs.declared.lines.cut.CutLetter.{CutLetter}
use Rattle.cam_cluster.specs.LetterLines.{IsCut, IsLoss}
use Rattle.cam_cluster.specs.LetterLines as letters
use Rattle.cam_cluster.proofs.AsSeen.{lines_of, reads_of}
use Rattle.cam_cluster.proofs.DrainTaken.{drain_part, drain_taken}
use Rattle.cam_cluster.proofs.SeenLines.{stands_before, taken_as}
use Rattle.cam_cluster.proofs.TakenLines.{cut_taken, fault_taken, loss_taken, put_fault, put_taken}
use Rattle.cam_cluster.proofs.TakenLines.{other_input, whole_taken}
use Rattle.cam_cluster.proofs.lines.Lines.take.Goals as goal

pub lose-requires : goal.lose-requires
lose-requires g c = record {
  stand = stands_before _ c.args.self.now c.requires.next;
}

pub cut-requires : goal.cut-requires
cut-requires g c = record {
  stand = stands_before _ c.args.self.now c.requires.next;
}

pub put_line-requires : goal.put_line-requires
put_line-requires g c = record {
  input =
      other_input _ c.requires.built c.in_default.not-Cut c.in_default.not-Drain
      c.in_default.not-Lose;
  next = c.requires.next;
}

pub drain-requires : goal.drain-requires
drain-requires g c = record {
  stand = stands_before _ c.args.self.now c.requires.next;
}

pub returns-in-Ok : goal.returns-in-Ok
returns-in-Ok g c = record {
  line =
      taken_as c.args.step.now c.args.self.now c.lose.new.self
      (acts.Lose c.in-Lose.letter) (Ok None) c.in-Lose.is
      (loss_taken c.args.step.now.line (lines_of g.L.CheckpointLog g.L.EntryLog c.args.self.now)
      (lines_of g.L.CheckpointLog g.L.EntryLog c.lose.new.self)
      (reads_of g.L.CheckpointLog g.L.EntryLog c.args.self.now.works)
      (reads_of g.L.CheckpointLog g.L.EntryLog c.lose.new.self.works) c.in-Lose.letter tt
      c.in-Ok.ensures.line);
  disks = c.lose.ensures.disks;
}

pub returns-in-Err : goal.returns-in-Err
returns-in-Err g c = record {
  line =
      taken_as c.args.step.now c.args.self.now c.lose.new.self
      (acts.Lose c.in-Lose.letter) (Err c.in-Err.fault) c.in-Lose.is
      (fault_taken c.args.step.now.line (lines_of g.L.CheckpointLog g.L.EntryLog c.args.self.now)
      (lines_of g.L.CheckpointLog g.L.EntryLog c.lose.new.self)
      (reads_of g.L.CheckpointLog g.L.EntryLog c.args.self.now.works)
      (reads_of g.L.CheckpointLog g.L.EntryLog c.lose.new.self.works) (IsLoss c.in-Lose.letter)
      (acts.Lose c.in-Lose.letter) c.in-Err.fault (λ seen keeps. keeps) c.in-Err.ensures.line);
  disks = c.lose.ensures.disks;
}

pub returns-in-Ok-Bad : goal.returns-in-Ok-Bad
returns-in-Ok-Bad g c = record {
  line =
      taken_as c.args.step.now c.args.self.now c.cut.new.self
      (acts.Cut c.in-Cut.letter c.in-Cut.bytes) (Ok (Some c.in-Ok-Bad.fault)) c.in-Cut.is
      (cut_taken c.args.step.now.line (lines_of g.L.CheckpointLog g.L.EntryLog c.args.self.now)
      (lines_of g.L.CheckpointLog g.L.EntryLog c.cut.new.self)
      (reads_of g.L.CheckpointLog g.L.EntryLog c.args.self.now.works)
      (reads_of g.L.CheckpointLog g.L.EntryLog c.cut.new.self.works) c.in-Cut.letter
      c.in-Cut.bytes c.in-Ok-Bad.fault
      (subst (λ (x : CutLetter). letters.IsLineBy c.args.step.now.line
      (acts.Cut c.in-Cut.letter c.in-Cut.bytes) (IsCut c.in-Cut.letter c.in-Cut.bytes)
      (lines_of g.L.CheckpointLog g.L.EntryLog c.args.self.now)
      (reads_of g.L.CheckpointLog g.L.EntryLog c.args.self.now.works)
      (lines_of g.L.CheckpointLog g.L.EntryLog c.cut.new.self)
      (reads_of g.L.CheckpointLog g.L.EntryLog c.cut.new.self.works) (Ok x))
      c.in-Ok-Bad.field-0-is c.in-Ok-Bad.ensures.line));
  disks = c.cut.ensures.disks;
}

pub returns-in-Ok-Delivered : goal.returns-in-Ok-Delivered
returns-in-Ok-Delivered g c = record {
  line =
      taken_as c.args.step.now c.args.self.now c.cut.new.self
      (acts.Cut c.in-Cut.letter c.in-Cut.bytes) (Ok None) c.in-Cut.is
      (whole_taken c.args.step.now.line (lines_of g.L.CheckpointLog g.L.EntryLog c.args.self.now)
      (lines_of g.L.CheckpointLog g.L.EntryLog c.cut.new.self)
      (reads_of g.L.CheckpointLog g.L.EntryLog c.args.self.now.works)
      (reads_of g.L.CheckpointLog g.L.EntryLog c.cut.new.self.works) c.in-Cut.letter
      c.in-Cut.bytes c.in-Ok-Delivered.field-0-0
      (subst (λ (x : CutLetter). letters.IsLineBy c.args.step.now.line
      (acts.Cut c.in-Cut.letter c.in-Cut.bytes) (IsCut c.in-Cut.letter c.in-Cut.bytes)
      (lines_of g.L.CheckpointLog g.L.EntryLog c.args.self.now)
      (reads_of g.L.CheckpointLog g.L.EntryLog c.args.self.now.works)
      (lines_of g.L.CheckpointLog g.L.EntryLog c.cut.new.self)
      (reads_of g.L.CheckpointLog g.L.EntryLog c.cut.new.self.works) (Ok x))
      c.in-Ok-Delivered.field-0-is c.in-Ok-Delivered.ensures.line));
  disks = c.cut.ensures.disks;
}

pub returns-in-Err-cut : goal.returns-in-Err-cut
returns-in-Err-cut g c = record {
  line =
      taken_as c.args.step.now c.args.self.now c.cut.new.self
      (acts.Cut c.in-Cut.letter c.in-Cut.bytes) (Err c.in-Err-cut.fault) c.in-Cut.is
      (fault_taken c.args.step.now.line (lines_of g.L.CheckpointLog g.L.EntryLog c.args.self.now)
      (lines_of g.L.CheckpointLog g.L.EntryLog c.cut.new.self)
      (reads_of g.L.CheckpointLog g.L.EntryLog c.args.self.now.works)
      (reads_of g.L.CheckpointLog g.L.EntryLog c.cut.new.self.works) (IsCut c.in-Cut.letter
      c.in-Cut.bytes) (acts.Cut c.in-Cut.letter c.in-Cut.bytes) c.in-Err-cut.fault
      (λ seen keeps. keeps) c.in-Err-cut.ensures.line);
  disks = c.cut.ensures.disks;
}

pub returns-in-Ok-put_line : goal.returns-in-Ok-put_line
returns-in-Ok-put_line g c = record {
  line =
      put_taken _ _ _ _ _ (other_input _ c.requires.built c.in_default.not-Cut
      c.in_default.not-Drain c.in_default.not-Lose) c.in-Ok-put_line.field-0
      c.in-Ok-put_line.ensures.line;
  disks = c.put_line.ensures.disks;
}

pub returns-in-Err-put_line : goal.returns-in-Err-put_line
returns-in-Err-put_line g c = record {
  line =
      put_fault _ _ _ _ _ (other_input _ c.requires.built c.in_default.not-Cut
      c.in_default.not-Drain c.in_default.not-Lose) _ c.in-Err-put_line.ensures.line;
  disks = c.put_line.ensures.disks;
}

pub returns-in-Ok-drain : goal.returns-in-Ok-drain
returns-in-Ok-drain g c = record {
  line =
      taken_as c.args.step.now c.args.self.now c.drain.new.self
      acts.Drain (Ok None) c.in-Drain.is
      (drain_taken c.args.step.now.line (lines_of g.L.CheckpointLog g.L.EntryLog c.args.self.now)
      (lines_of g.L.CheckpointLog g.L.EntryLog c.drain.new.self)
      (reads_of g.L.CheckpointLog g.L.EntryLog c.args.self.now.works)
      (reads_of g.L.CheckpointLog g.L.EntryLog c.drain.new.self.works)
      c.in-Ok-drain.ensures.line);
  disks = c.drain.ensures.disks;
}

pub returns-in-Err-drain : goal.returns-in-Err-drain
returns-in-Err-drain g c = record {
  line =
      taken_as c.args.step.now c.args.self.now c.drain.new.self acts.Drain (Err
      line_faults.NoMemory) c.in-Drain.is (drain_part _ _ _ _ _ c.in-Err-drain.ensures.part);
  disks = c.drain.ensures.disks;
}
