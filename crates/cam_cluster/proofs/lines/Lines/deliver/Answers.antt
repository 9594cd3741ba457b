-- The line `deliver`.
use Rattle.std.proofs.Common.{◌≡◌, Err, refl, sym, subst, rules}
use Rattle.cam_script.specs.declared.Act.TheVariants as acts
use Rattle.cam_cluster.specs.declared.LineFault.TheVariants as line_faults
use Rattle.cam_cluster.specs.LetterLines.{IsDelivery, IsLineBy}
use Rattle.cam_cluster.proofs.AsSeen.{lines_of, reads_of}
use Rattle.cam_cluster.proofs.DisksGoOn.{goes_on_then}
use Rattle.cam_cluster.proofs.LetterLines.{deliver_ends, not_taken}
use Rattle.cam_cluster.proofs.LineEnds.{both_before, some_lines, wanting_ends, works_of_lines}
use Rattle.cam_cluster.proofs.lines.Lines.deliver.Goals as goal

pub take_letter-requires : goal.take_letter-requires
take_letter-requires g c = record { stand = c.requires.stand }

pub returns-in_err-coming-clause-disks : goal.returns-in_err-coming-clause-disks
returns-in_err-coming-clause-disks g c =
    c.take_letter.ensures.disks

pub returns-in_err-coming-clause-line : goal.returns-in_err-coming-clause-line
returns-in_err-coming-clause-line g c =
    let is : c.from_residual.result ≡ Err c.in_err-coming.field-0.0 = search rules in
    rw is (not_taken (IsDelivery c.args.letter) _ _ _ (λ script st. refl) _ _ _ _ _
    c.in_err-coming.ensures.taken)

pub read-requires-clause-all : goal.read-requires-clause-all
read-requires-clause-all g c =
    c.in_ok-coming.ensures.taken.all

pub read-requires-clause-stand : goal.read-requires-clause-stand
read-requires-clause-stand g c =
    works_of_lines _ _ (some_lines _ _ _ _ c.in_ok-coming.ensures.taken.as_before
    c.requires.stand)

pub read-requires-clause-found : goal.read-requires-clause-found
read-requires-clause-found g c =
    c.in_ok-coming.ensures.taken.found

pub returns-in_err-whole-clause-disks : goal.returns-in_err-whole-clause-disks
returns-in_err-whole-clause-disks g c =
    c.take_letter.ensures.disks

pub returns-in_err-whole-clause-line : goal.returns-in_err-whole-clause-line
returns-in_err-whole-clause-line g c =
    let wants : c.from_residual-in_err-whole.result ≡ Err line_faults.NoMemory = search rules in
    rw wants (wanting_ends (IsDelivery c.args.letter) _ _ _ _ _ _
    c.in_ok-coming.ensures.taken.as_before)

pub lead_letter-requires-clause-stand : goal.lead_letter-requires-clause-stand
lead_letter-requires-clause-stand g c =
    (some_lines _ _ _ _ c.in_ok-coming.ensures.taken.as_before c.requires.stand)

pub lead_letter-requires-clause-all : goal.lead_letter-requires-clause-all
lead_letter-requires-clause-all g c =
    c.in_ok-coming.ensures.taken.all

pub lead_letter-requires-clause-found : goal.lead_letter-requires-clause-found
lead_letter-requires-clause-found g c =
    c.in_ok-coming.ensures.taken.found

pub lead_letter-requires-clause-awake : goal.lead_letter-requires-clause-awake
lead_letter-requires-clause-awake g c =
    c.in_ok-coming.ensures.taken.awake

pub lead_letter-requires-clause-read : goal.lead_letter-requires-clause-read
lead_letter-requires-clause-read g c =
    c.in_ok-whole.ensures

pub returns-in_err-lead_letter-clause-disks : goal.returns-in_err-lead_letter-clause-disks
returns-in_err-lead_letter-clause-disks g c =
    goes_on_then c.take_letter.ensures.disks c.lead_letter.ensures.disks

pub returns-in_err-lead_letter-clause-line : goal.returns-in_err-lead_letter-clause-line
returns-in_err-lead_letter-clause-line g c =
    let wants : c.from_residual-in_err-lead_letter.result ≡ Err line_faults.NoMemory =
    search rules in
    rw wants (wanting_ends (IsDelivery c.args.letter) _ _ _ _ _ _ (both_before _ _ _ _ _
    _ c.in_ok-coming.ensures.taken.as_before c.in_err-lead_letter.ensures.as_before))

pub returns-clause-disks : goal.returns-clause-disks
returns-clause-disks g c =
    goes_on_then c.take_letter.ensures.disks c.lead_letter.ensures.disks

pub returns-clause-line : goal.returns-clause-line
returns-clause-line g c =
    deliver_ends _ _ c.in_ok-coming.coming _ _ _ _ _ _ c.in_ok-coming.ensures.taken _
    c.in_ok-lead_letter.ensures.led
