use Rattle.std.proofs.Common.{◌≡◌, ℕ, None, drop}
use Rattle.std.specs.Ordering.{nat_cmp}
use Rattle.std.specs.BTreeMap.{get}
use Rattle.cam_explain.specs.Moments.{restart_from}
use Rattle.cam_explain.proofs.course.restarts_of.Given as goal

abbrev pub invariant-loop-number : goal.invariant-loop-number
invariant-loop-number l =
    (n : ℕ) → restart_from l.number (drop l.number l.trace) (get nat_cmp l.restarts n) n ≡ restart_from 0 l.trace None n
