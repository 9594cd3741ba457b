-- A letter is handed over, and the line's variable stands for nothing.
use Rattle.std.proofs.Common.{ap, ◌∙◌, ◌++◌, ◌∷◌, [], None, rules}
use Rattle.cam_cluster.proofs.AsSeen.{lines_of, reads_of, works_of}
use Rattle.cam_cluster.proofs.DisksGoOn.{goes_on_still}
use Rattle.cam_cluster.proofs.Led.{unchanged_lines}
use Rattle.cam_cluster.proofs.LetterEnds.{led_letter}
use Rattle.cam_cluster.proofs.LineEnds.{works_of_lines}
use Rattle.cam_cluster.proofs.PlacedNodes.{on_err}
use Rattle.cam_cluster.proofs.lines.Lines.lead_letter.Goals as goal

pub returns-in_err-reserve_one-clause-disks : goal.returns-in_err-reserve_one-clause-disks
returns-in_err-reserve_one-clause-disks g c =
    goes_on_still

pub returns-in_err-reserve_one-clause-led : goal.returns-in_err-reserve_one-clause-led
returns-in_err-reserve_one-clause-led g c =
    search rules

pub returns-in_err-reserve_one-clause-as_before : goal.returns-in_err-reserve_one-clause-as_before
returns-in_err-reserve_one-clause-as_before g c =
    on_err _ _ (unchanged_lines _ _ _ _ _ _ (λ script st is keeps. keeps)
    c.reserve_one.ensures.same)

pub hand_over-requires-clause-all : goal.hand_over-requires-clause-all
hand_over-requires-clause-all g c =
    c.requires.all

pub hand_over-requires-clause-stand : goal.hand_over-requires-clause-stand
hand_over-requires-clause-stand g c = works_of_lines _ _ c.requires.stand

pub hand_over-requires-clause-found : goal.hand_over-requires-clause-found
hand_over-requires-clause-found g c =
    c.requires.found

pub hand_over-requires-clause-awake : goal.hand_over-requires-clause-awake
hand_over-requires-clause-awake g c =
    c.requires.awake

pub hand_over-requires-clause-read : goal.hand_over-requires-clause-read
hand_over-requires-clause-read g c =
    c.requires.read

pub returns-in_err-done-clause-disks : goal.returns-in_err-done-clause-disks
returns-in_err-done-clause-disks g c =
    c.hand_over.ensures.disks

pub returns-in_err-done-clause-led : goal.returns-in_err-done-clause-led
returns-in_err-done-clause-led g c =
    search rules

pub returns-in_err-done-clause-as_before : goal.returns-in_err-done-clause-as_before
returns-in_err-done-clause-as_before g c =
    on_err _ _ (unchanged_lines _ _ _ _ _ _ c.in_err-done.ensures.as_before
    c.reserve_one.ensures.same)

pub push_reserved-requires : goal.push_reserved-requires
push_reserved-requires g c =
    c.in_ok-reserve_one.ensures.room

pub returns-clause-disks : goal.returns-clause-disks
returns-clause-disks g c =
    c.hand_over.ensures.disks

pub returns-clause-led : goal.returns-clause-led
returns-clause-led g c =
    led_letter _ _ _ _ _ _ _ _ _ c.in_ok-done.ensures.delivered (c.push_reserved.ensures ∙
    ap (λ bs. bs ++ None ∷ []) c.reserve_one.ensures.same)
