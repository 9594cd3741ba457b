-- A table from names to their places in a list.
-- For private functions; where a name stands is `place_of` in cam_words.
use Rattle.std.specs.Prelude.{ℕ, Bool, List, Vec, bytes_eq, Option, Some, None, if◌then◌else◌}
use Rattle.std.specs.declared.alloc.Global.{Global}
use Rattle.std.specs.HashMap.{HashMap, get_by}

-- the place that the table has for this name
abbrev pub place_in : {S : Type 0} → HashMap (Vec ℕ Global) ℕ S → List ℕ → Option ℕ
place_in table name = get_by (λ k. bytes_eq name k.items) table

-- where a name stands once one more stands at this place: where it stood, or at this place if it is the same
abbrev pub or_at : ℕ → Bool → Option ℕ → Option ℕ
or_at place same (Some earlier) = Some earlier
or_at place same None = if same then Some place else None
