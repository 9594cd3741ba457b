use Rattle.std.proofs.Common.{◌≡◌, ◌++◌, take}
use Rattle.std.specs.List.{flat_map}
use Rattle.cam_names.specs.declared.name.Name.{Name}
use Rattle.cam_explain.specs.Moments.{moments_in, of_deed}
use Rattle.cam_explain.proofs.course.add_deeds.Given as goal

abbrev pub invariant-loop-deed : goal.invariant-loop-deed
invariant-loop-deed l =
    (a : Name) → moments_in l.all a ≡ moments_in l.fn.all a ++ flat_map (of_deed a l.place.event l.place.line) (take l.deed-index l.deeds)
