use Rattle.std.proofs.Common.{◌≡◌, drop}
use Rattle.std.specs.List.{list_all}
use Rattle.cam_plain.specs.Legal.{history}
use Rattle.cam_plain.specs.Marks.{is_clear}
use Rattle.cam_plain.proofs.securing.all_clear.Given as goal

abbrev pub invariant-loop-mark : goal.invariant-loop-mark
invariant-loop-mark l =
    list_all (is_clear (history l.before.deeds.now) l.site l.family) (drop l.mark-index l.mark-items) ≡ list_all (is_clear (history l.before.deeds.now) l.site l.family) l.mark-items
