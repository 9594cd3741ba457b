use Rattle.std.proofs.Common.{◌≡◌}
use Rattle.std.specs.List.{position_or_len}
use Rattle.cam_net.proofs.Next.{goes_within}
use Rattle.cam_net.proofs.net.Net.next.Given as goal

-- the least place of a letter that waits for one of the nodes so far, where it is not halted
abbrev pub invariant-loop-node : goal.invariant-loop-node
invariant-loop-node l = record { least : l.least ≡ position_or_len (goes_within l.halted l.node) l.self-inside.letters.items }
