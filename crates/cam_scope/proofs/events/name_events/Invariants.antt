use Rattle.std.proofs.Common.{◌≡◌, map, take}
use Rattle.cam_scope.proofs.events.name_events.Given as goal

abbrev pub invariant-loop-number : goal.invariant-loop-number
invariant-loop-number l = map (λ e. e.node) l.events ≡ map (λ e. e.node) (take l.number l.trace)
