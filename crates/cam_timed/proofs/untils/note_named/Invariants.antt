use Rattle.std.proofs.Common.{◌≡◌, if◌then◌else◌, take}
use Rattle.std.specs.List.{list_any}
use Rattle.cam_names.specs.declared.name.Name.{Name}
use Rattle.cam_timed.specs.Moments.{names_first}
use Rattle.cam_timed.specs.Untils.{until_in}
use Rattle.cam_timed.proofs.untils.note_named.Given as goal

abbrev pub invariant-loop-deed : goal.invariant-loop-deed
invariant-loop-deed l =
    (a : Name) → until_in l.untils a ≡ (if list_any (names_first a) (take l.deed-index l.deed-items) then l.until else until_in l.fn.untils a)
