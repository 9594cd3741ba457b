-- The input of a line is put.
use Rattle.std.proofs.Common.{ap, ◌∙◌, ◌++◌, ◌∷◌, [], rules, subst}
use Rattle.cam_cluster.specs.SoFar.{IsBinding}
use Rattle.cam_cluster.proofs.AsSeen.{reads_of, works_of}
use Rattle.cam_cluster.proofs.DisksGoOn.{goes_on_still}
use Rattle.cam_cluster.proofs.Led.{led_by, unchanged_lines}
use Rattle.cam_cluster.proofs.PlacedNodes.{on_err}
use Rattle.cam_cluster.proofs.lines.Lines.lead.Goals as goal

pub returns-in_err-reserve_one-clause-disks : goal.returns-in_err-reserve_one-clause-disks
returns-in_err-reserve_one-clause-disks g c =
    goes_on_still

pub returns-in_err-reserve_one-clause-led : goal.returns-in_err-reserve_one-clause-led
returns-in_err-reserve_one-clause-led g c =
    search rules

pub returns-in_err-reserve_one-clause-as_before : goal.returns-in_err-reserve_one-clause-as_before
returns-in_err-reserve_one-clause-as_before g c =
    on_err _ _ (unchanged_lines _ _ _ _ _ _ (λ script st is keeps. keeps)
    c.reserve_one.ensures.same)

pub put-requires-clause-place : goal.put-requires-clause-place
put-requires-clause-place g c =
    c.requires.place

pub put-requires-clause-may : goal.put-requires-clause-may
put-requires-clause-may g c =
    c.requires.may

pub put-requires-clause-there : goal.put-requires-clause-there
put-requires-clause-there g c =
    c.requires.there

pub put-requires-clause-writable : goal.put-requires-clause-writable
put-requires-clause-writable g c =
    c.requires.writable

pub returns-in_err-done-clause-disks : goal.returns-in_err-done-clause-disks
returns-in_err-done-clause-disks g c =
    c.put.ensures.disks

pub returns-in_err-done-clause-led : goal.returns-in_err-done-clause-led
returns-in_err-done-clause-led g c =
    search rules

pub returns-in_err-done-clause-as_before : goal.returns-in_err-done-clause-as_before
returns-in_err-done-clause-as_before g c =
    on_err _ _ (unchanged_lines _ _ _ _ _ _ c.in_err-done.ensures.as_before
    c.reserve_one.ensures.same)

pub push_reserved-requires : goal.push_reserved-requires
push_reserved-requires g c =
    c.in_ok-reserve_one.ensures.room

pub returns-clause-disks : goal.returns-clause-disks
returns-clause-disks g c =
    c.put.ensures.disks

pub returns-clause-led : goal.returns-clause-led
returns-clause-led g c =
    led_by _ _ _ _ _ _ _ _ _ _ _ c.in_ok-done.ensures.put (rw (←
    c.as_slice.ensures.value) c.bound_after-binds.ensures) (c.push_reserved.ensures ∙ ap (λ bs. bs
    ++ c.bound_after-binds.result ∷ []) c.reserve_one.ensures.same)
