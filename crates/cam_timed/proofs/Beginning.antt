-- The machine keeps the run by time in which nothing has happened.
use Rattle.std.proofs.Common.{◌≡◌, ◌++◌, ℕ, zero, suc, List, [], ◌∷◌, length, Some, ap, subst}
use Rattle.std.specs.Prelude.{slice_get, unwrap_or}
use Rattle.std.specs.BTreeMap.{BTreeMap, is_at}
use Rattle.std.specs.Map.{lookup}
use Rattle.std.proofs.lemmas.Option.{same_Some}
use Rattle.cam_names.specs.declared.name.Name.{Name}
use Rattle.cam_names.specs.Names.{name_cmp}
use Rattle.cam_timed.specs.Untils.{TellsUntils}

-- What holds of each element with its place holds if one more that has it is put at the end.
pub each_push : {X : Type 0} (P : ℕ → X → Type 0) (xs : List X) (x : X)
    → ((k : ℕ) (y : X) → slice_get xs k ≡ Some y → P k y) → P (length xs) x
    → (k : ℕ) (y : X) → slice_get (xs ++ x ∷ []) k ≡ Some y → P k y
each_push P [] x each last zero y at = subst (P 0) (same_Some x y at) last
each_push P [] x each last (suc k) y at = cc
each_push P (z ∷ xs) x each last zero y at = each 0 y at
each_push P (z ∷ xs) x each last (suc k) y at =
    each_push (λ n. P (suc n)) xs x (λ n. each (suc n)) last k y at

-- An empty table has no quiesce moment, as if nothing was named.
pub none_named : (untils : BTreeMap Name ℕ) → untils.entries ≡ [] → TellsUntils [] untils
none_named untils none = λ a.
    ap (λ (es : List (Name × ℕ)). unwrap_or (lookup (is_at (name_cmp a)) es) 0) none
