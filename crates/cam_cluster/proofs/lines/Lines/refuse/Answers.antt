-- A line is refused.
use Rattle.std.proofs.Common.{refl, ap, ◌∙◌, ◌++◌, ◌∷◌, [], None, rules}
use Rattle.cam_event.specs.declared.Mark.TheVariants as marks
use Rattle.cam_cluster.proofs.AsSeen.{reads_of, works_of}
use Rattle.cam_cluster.proofs.DisksGoOn.{goes_on_still}
use Rattle.cam_cluster.proofs.Led.{refused_by, same_works, unchanged_lines}
use Rattle.cam_cluster.proofs.PlacedNodes.{on_err}
use Rattle.cam_cluster.proofs.lines.Lines.refuse.Goals as goal

pub returns-in_err-reserve_one-clause-disks : goal.returns-in_err-reserve_one-clause-disks
returns-in_err-reserve_one-clause-disks g c =
    goes_on_still

pub returns-in_err-reserve_one-clause-refused : goal.returns-in_err-reserve_one-clause-refused
returns-in_err-reserve_one-clause-refused g c =
    search rules

pub returns-in_err-reserve_one-clause-as_before : goal.returns-in_err-reserve_one-clause-as_before
returns-in_err-reserve_one-clause-as_before g c =
    on_err _ _ (unchanged_lines _ _ _ _ _ _ (same_works _ _ _ c.reserve_one.ensures.same)
    refl)

pub returns-in_err-reserve_one-2-clause-disks : goal.returns-in_err-reserve_one-2-clause-disks
returns-in_err-reserve_one-2-clause-disks g c =
    goes_on_still

pub returns-in_err-reserve_one-2-clause-refused : goal.returns-in_err-reserve_one-2-clause-refused
returns-in_err-reserve_one-2-clause-refused g c =
    search rules

pub returns-in_err-reserve_one-2-clause-as_before :
    goal.returns-in_err-reserve_one-2-clause-as_before
returns-in_err-reserve_one-2-clause-as_before g c =
    on_err _ _ (unchanged_lines _ _ _ _ _ _ (same_works _ _ _ c.reserve_one.ensures.same)
    c.reserve_one-2.ensures.same)

pub push_reserved-requires : goal.push_reserved-requires
push_reserved-requires g c =
    c.in_ok-reserve_one.ensures.room

pub push_reserved-requires-2 : goal.push_reserved-requires-2
push_reserved-requires-2 g c =
    c.in_ok-reserve_one-2.ensures.room

pub returns-clause-disks : goal.returns-clause-disks
returns-clause-disks g c =
    goes_on_still

pub returns-clause-refused : goal.returns-clause-refused
returns-clause-refused g c =
    refused_by _ _ _ _ _ _ _ (c.push_reserved.ensures ∙ ap (λ ms. ms ++ marks.Refused
    c.args.line c.args.refusal ∷ []) c.reserve_one.ensures.same) (c.push_reserved-2.ensures ∙ ap (λ
    bs. bs ++ None ∷ []) c.reserve_one-2.ensures.same)
