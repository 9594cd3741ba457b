use Rattle.std.proofs.Common.{◌≡◌, false, ◌++◌, map, drop, reverse}
use Rattle.cam_event.specs.declared.Deed.TheVariants.{Inform}
use Rattle.cam_node.proofs.informs.inform_aborts.Given as goal

abbrev pub invariant-loop-place : goal.invariant-loop-place
invariant-loop-place l = l.deeds ≡ l.initial.deeds ++ map (λ a. Inform l.site a false) (reverse (drop l.place l.names.items))
