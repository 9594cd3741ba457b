use Rattle.std.proofs.Common.{◌≡◌, ℕ, ◌||◌, take}
use Rattle.cam_names.specs.Dependencies.{has_pair}
use Rattle.cam_plain.proofs.dependencies.add_pairs.Given as goal

abbrev pub invariant-loop-pair : goal.invariant-loop-pair
invariant-loop-pair l = (s c : ℕ) → has_pair l.pairs s c ≡ (has_pair (take l.pair-index l.pair-items) s c || has_pair l.initial.pairs s c)
