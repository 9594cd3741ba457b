use Rattle.std.proofs.Common.{◌≡◌, ◌-◌, drop}
use Rattle.cam_know.specs.Known.{known_count}
use Rattle.cam_orphan.specs.Stale.{first_stale}
use Rattle.cam_orphan.proofs.stale.Given as goal

abbrev pub invariant-loop-node : goal.invariant-loop-node
invariant-loop-node l =
    first_stale (known_count l.know) 1 l.oldest ≡ first_stale (known_count l.know) l.node (drop (l.node - 1) l.oldest)
