-- Dependencies that are read are in their ranges.
use Rattle.std.proofs.Common.{sym, ◌∙◌, arith}
use Rattle.cam_bytes.proofs.TakenPairs.{took_deps}
use Rattle.cam_bytes.proofs.pairs.deps_at.Goals as goal

pub of-requires : goal.of-requires
of-requires c =
    (took_deps c.args.bytes.now c.args.at (c.in_ok-counts.counts, c.in_ok-counts.at) (λ i. omega (arith, c.type_inv.bytes i)) (sym c.counts_above_at.ensures.value ∙ c.in_ok-counts.was)).1
