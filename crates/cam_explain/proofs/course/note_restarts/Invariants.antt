use Rattle.std.proofs.Common.{◌≡◌, ℕ, Some, take, if◌then◌else◌}
use Rattle.std.specs.List.{list_any}
use Rattle.std.specs.Ordering.{nat_cmp}
use Rattle.std.specs.BTreeMap.{get}
use Rattle.cam_event.specs.History.{is_crash}
use Rattle.cam_explain.proofs.course.note_restarts.Given as goal

abbrev pub invariant-loop-deed : goal.invariant-loop-deed
invariant-loop-deed l =
    (n : ℕ) → get nat_cmp l.restarts n
    ≡ (if list_any (is_crash n) (take l.deed-index l.deeds) then Some l.event else get nat_cmp l.fn.restarts n)
