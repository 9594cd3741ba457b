use Rattle.std.proofs.Common.{◌≡◌, ◌++◌, drop}
use Rattle.cam_names.specs.declared.name.Name.{Name}
use Rattle.cam_explain.specs.Moments.{moments_from, moments_in}
use Rattle.cam_explain.proofs.course.moments_of.Given as goal

abbrev pub invariant-loop-number : goal.invariant-loop-number
invariant-loop-number l =
    (a : Name) → moments_in l.all a ++ moments_from l.events l.number (drop l.number l.trace) a ≡ moments_from l.events 0 l.trace a
