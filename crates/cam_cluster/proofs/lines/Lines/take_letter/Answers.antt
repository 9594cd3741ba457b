-- The letter of a line is found and tested.
use Rattle.std.proofs.Common.{◌≡◌, Err, refl, sym, ◌∙◌, subst, rules}
use Rattle.cam_cluster.specs.declared.LineFault.TheVariants as line_faults
use Rattle.cam_cluster.specs.LetterLines.{HasTaken}
use Rattle.cam_cluster.proofs.AsSeen.{lines_of, reads_of, works_of}
use Rattle.cam_cluster.proofs.DisksGoOn.{goes_on_then}
use Rattle.cam_cluster.proofs.HandedOver.{works_may_be_written}
use Rattle.cam_cluster.proofs.Led.{unchanged_lines}
use Rattle.cam_cluster.proofs.LetterEnds.{halted_letter, no_letter}
use Rattle.cam_cluster.proofs.LineEnds.{both_before, works_of_lines}
use Rattle.cam_cluster.proofs.lines.Lines.take_letter.Goals as goal

pub put_letters-requires : goal.put_letters-requires
put_letters-requires g c = record {
  writable = works_may_be_written _ _ (works_of_lines _ _ c.requires.stand);
}

pub returns-in_err-put_letters-clause-disks : goal.returns-in_err-put_letters-clause-disks
returns-in_err-put_letters-clause-disks g c =
    c.put_letters.ensures.disks

pub returns-in_err-put_letters-clause-taken : goal.returns-in_err-put_letters-clause-taken
returns-in_err-put_letters-clause-taken g c =
    let wants : c.from_residual.result ≡ Err line_faults.NoMemory = search rules in
    rw wants (unchanged_lines _ _ _ _ _ _ c.put_letters.ensures.as_before refl)

pub coming-requires : goal.coming-requires
coming-requires g c = record { all = c.in_ok-put_letters.ensures.all }

pub returns-in_err-refuse-clause-disks : goal.returns-in_err-refuse-clause-disks
returns-in_err-refuse-clause-disks g c =
    goes_on_then c.put_letters.ensures.disks c.refuse.ensures.disks

pub returns-in_err-refuse-clause-taken : goal.returns-in_err-refuse-clause-taken
returns-in_err-refuse-clause-taken g c =
    let wants : c.from_residual-in_err-refuse.result ≡ Err line_faults.NoMemory = search rules in
    rw wants (both_before _ _ _ _ _ _ (unchanged_lines _ _ _ _ _ _
    c.put_letters.ensures.as_before refl) c.in_err-refuse.ensures.as_before)

pub returns-in_default-clause-disks : goal.returns-in_default-clause-disks
returns-in_default-clause-disks g c =
    goes_on_then c.put_letters.ensures.disks c.refuse.ensures.disks

pub returns-in_default-clause-taken : goal.returns-in_default-clause-taken
returns-in_default-clause-taken g c =
    no_letter _ _ _ _ _ _ (unchanged_lines _ _ _ _ _ _ c.put_letters.ensures.as_before
    refl) c.in_ok-put_letters.ensures.all _ _ c.in_default.ensures.found
    c.in_ok-refuse.ensures.refused

pub returns-in_err-refuse-2-clause-disks : goal.returns-in_err-refuse-2-clause-disks
returns-in_err-refuse-2-clause-disks g c =
    goes_on_then c.put_letters.ensures.disks c.refuse-then-is_halted.ensures.disks

pub returns-in_err-refuse-2-clause-taken : goal.returns-in_err-refuse-2-clause-taken
returns-in_err-refuse-2-clause-taken g c =
    let wants : c.from_residual-in_err-refuse-2.result ≡ Err line_faults.NoMemory = search rules in
    rw wants (both_before _ _ _ _ _ _ (unchanged_lines _ _ _ _ _ _
    c.put_letters.ensures.as_before refl) c.in_err-refuse-2.ensures.as_before)

pub returns-then-is_halted-clause-disks : goal.returns-then-is_halted-clause-disks
returns-then-is_halted-clause-disks g c =
    goes_on_then c.put_letters.ensures.disks c.refuse-then-is_halted.ensures.disks

pub returns-then-is_halted-clause-taken : goal.returns-then-is_halted-clause-taken
returns-then-is_halted-clause-taken g c =
    halted_letter _ _ _ _ _ _ (unchanged_lines _ _ _ _ _ _
    c.put_letters.ensures.as_before refl) c.in_ok-put_letters.ensures.all _ _ _
    c.in-Some.ensures.found (sym c.is_halted.ensures ∙ c.if-is_halted.true)
    c.in_ok-refuse-2.ensures.refused

pub returns-clause-disks : goal.returns-clause-disks
returns-clause-disks g c =
    c.put_letters.ensures.disks

pub returns-clause-taken : goal.returns-clause-taken
returns-clause-taken g c = record {
  as_before = (unchanged_lines _ _ _ _ _ _ c.put_letters.ensures.as_before refl);
  all = c.in_ok-put_letters.ensures.all;
  found = c.in-Some.ensures.found;
  awake = sym c.is_halted.ensures ∙ c.if-is_halted.false;
}
