-- The line `lose`.
use Rattle.std.proofs.Common.{◌≡◌, Ok, Err, refl, sym, ◌∙◌, subst, rules}
use Rattle.cam_event.specs.declared.LineRefusal.TheVariants as refusals
use Rattle.cam_script.specs.declared.Act.TheVariants as acts
use Rattle.cam_cluster.specs.declared.LineFault.TheVariants as line_faults
use Rattle.cam_cluster.specs.LetterLines.{IsLineBy, IsLoss}
use Rattle.cam_cluster.specs.SoFar.{HasRefused, KeepsLinesAsBefore}
use Rattle.cam_cluster.proofs.AsSeen.{lines_of, part, reads_at, reads_of, tells_of, works_of}
use Rattle.cam_cluster.proofs.DisksGoOn.{goes_on_then}
use Rattle.cam_cluster.proofs.HandedOver.{works_may_be_written}
use Rattle.cam_cluster.proofs.Led.{unchanged_lines}
use Rattle.cam_cluster.proofs.LossEnds.{loss_ends, loss_refused}
use Rattle.cam_cluster.proofs.LineEnds.{both_before, wanting_ends, works_of_lines}
use Rattle.cam_cluster.proofs.PutWorks.{seen}
use Rattle.cam_cluster.proofs.lines.Lines.lose.Goals as goal

pub put_letters-requires : goal.put_letters-requires
put_letters-requires g c = record {
  writable = works_may_be_written _ _ (works_of_lines _ _ c.requires.stand);
}

pub returns-in_err-put_letters : goal.returns-in_err-put_letters
returns-in_err-put_letters g c =
    let wants : c.from_residual.result ≡ Err line_faults.NoMemory = search rules in record {
      line =
          rw wants (wanting_ends (IsLoss c.args.letter) _ _ _ _ _ _ (unchanged_lines _ _ _
          _ _ _ c.put_letters.ensures.as_before refl));
      disks = c.put_letters.ensures.disks;
    }

pub returns-in_err-reserve_one : goal.returns-in_err-reserve_one
returns-in_err-reserve_one g c =
    let wants : c.from_residual-in_err-reserve_one.result ≡ Err line_faults.NoMemory =
    search rules in record {
      line =
          rw wants (wanting_ends (IsLoss c.args.letter) _ _ _ _ _ _ (unchanged_lines _ _ _
          _ _ _ c.put_letters.ensures.as_before c.reserve_one.ensures.same));
      disks = c.put_letters.ensures.disks;
    }

pub returns-in_err-refuse : goal.returns-in_err-refuse
returns-in_err-refuse g c =
    let wants : c.from_residual-in_err-refuse.result ≡ Err line_faults.NoMemory =
    search rules in record {
      line =
          rw wants (wanting_ends (IsLoss c.args.letter) _ _ _ _ _ _ (both_before _ _ _ _
          _ _ (unchanged_lines _ _ _ _ _ _ c.put_letters.ensures.as_before
          c.reserve_one.ensures.same) (rw (← (c.lose.ensures.unchanged c.if-not-lose.true))
          c.in_err-refuse.ensures.as_before)));
      disks = goes_on_then c.put_letters.ensures.disks c.refuse.ensures.disks;
    }

pub returns-then-not-lose : goal.returns-then-not-lose
returns-then-not-lose g c = record {
  line =
      loss_refused _ _ _ _ _ _ _ c.reserve_one.new.list.items (unchanged_lines _ _ _ _ _
      _ c.put_letters.ensures.as_before c.reserve_one.ensures.same) c.in_ok-put_letters.ensures.all
      _ _ (sym c.lose.ensures.answer ∙ c.if-not-lose.true) (rw (← (c.lose.ensures.unchanged
      c.if-not-lose.true)) c.in_ok-refuse.ensures.refused);
  disks = goes_on_then c.put_letters.ensures.disks c.refuse.ensures.disks;
}

pub push_reserved-requires : goal.push_reserved-requires
push_reserved-requires g c =
    c.in_ok-reserve_one.ensures.room

pub returns : goal.returns
returns g c = record {
  line =
      rw c.lose.ensures.lost (loss_ends _ _ _ _ _ _ _ _ (unchanged_lines _ _ _ _ _ _
      c.put_letters.ensures.as_before c.reserve_one.ensures.same) c.in_ok-put_letters.ensures.all
      (sym c.lose.ensures.answer ∙ c.if-not-lose.false) c.push_reserved.ensures);
  disks = c.put_letters.ensures.disks;
}
