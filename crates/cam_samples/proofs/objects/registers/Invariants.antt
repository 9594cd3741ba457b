-- The objects of the nodes so far.
use Rattle.std.proofs.Common.{◌≡◌, map, take, pos}
use Rattle.cam_type.specs.declared.State.TheVariants.{Register}
use Rattle.cam_samples.proofs.objects.registers.Given as goal

abbrev pub invariant-loop-node : goal.invariant-loop-node
invariant-loop-node l = l.objects ≡ map (λ node. record { node = node; start = Register (pos 0) }) (take l.node-index l.nodes)
