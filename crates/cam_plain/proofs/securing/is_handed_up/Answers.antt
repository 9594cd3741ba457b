use Rattle.std.proofs.Common.{ap, ◌∙◌}
use Rattle.std.specs.List.{list_all}
use Rattle.cam_plain.specs.Legal.{history}
use Rattle.cam_plain.specs.Marks.{is_clear}
use Rattle.cam_plain.proofs.Marking.{marks_clear}
use Rattle.cam_plain.proofs.securing.is_handed_up.Goals as goal

pub returns : goal.returns
returns c =
    let L = history c.args.before.now.deeds.now in
    c.is_place_clear.ensures
    ∙ ap (list_all (is_clear L c.args.site c.args.family.now)) (c.requires.known.kept.marks c.args.site c.args.family.now)
    ∙ marks_clear c.args.before.now.objects.now L c.args.site c.args.family.now c.requires.unsecured
