use Rattle.std.proofs.Common.{◌≡◌, ◌++◌, map}
use Rattle.cam_event.specs.declared.Deed.TheVariants.{Inform}
use Rattle.cam_own.proofs.informs.inform.Given as goal

abbrev pub invariant-loop-name : goal.invariant-loop-name
invariant-loop-name l =
    l.deeds ++ map (λ a. Inform l.site a l.committed) l.name-iterator
    ≡ l.initial.deeds ++ map (λ a. Inform l.site a l.committed) l.names.keys
