-- Which events of a trace flags keep.
use Rattle.std.specs.Prelude.{ℕ, Bool, false, List, slice_get, unwrap_or}

-- whether the flag at a position is true; after the last flag none is
abbrev pub is_kept : List Bool → ℕ → Bool
is_kept flags i = unwrap_or (slice_get flags i) false
