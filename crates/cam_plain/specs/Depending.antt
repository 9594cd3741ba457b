-- The table of what each action depends on.
use Rattle.std.specs.Prelude.{◌≡◌, ℕ, ◌≤◌, ◌||◌, if◌then◌else◌, List, [], length, unwrap_or}
use Rattle.std.specs.BTreeMap.{BTreeMap, get}
use Rattle.cam_names.specs.declared.name.Name.{Name}
use Rattle.cam_names.specs.Names.{name_cmp, name_eq}
use Rattle.cam_names.specs.Dependencies.{has_pair}
use Rattle.cam_type.specs.declared.ObjectDecl.{ObjectDecl}
use Rattle.cam_event.specs.declared.Deed.{Deed}
use Rattle.cam_event.specs.Gained.{deps}

abbrev pub pairs_in : BTreeMap Name (List (ℕ × ℕ)) → Name → List (ℕ × ℕ)
pairs_in table a = unwrap_or (get name_cmp table a) []

-- the new table has these pairs besides at one action, and the old ones at each
abbrev pub AddsPairs : BTreeMap Name (List (ℕ × ℕ)) → Name → List (ℕ × ℕ)
    → BTreeMap Name (List (ℕ × ℕ)) → Type 0
AddsPairs old b more new =
    (a : Name) (s c : ℕ)
    → has_pair (pairs_in new a) s c
    ≡ (if name_eq a b then has_pair more s c || has_pair (pairs_in old a) s c
    else has_pair (pairs_in old a) s c)

-- The table has the pairs on which each action depends.
abbrev pub DependsOn : List ObjectDecl → List Deed → BTreeMap Name (List (ℕ × ℕ)) → Type 0
DependsOn objects L table =
    (a : Name) (s c : ℕ) → 1 ≤ length a
    → has_pair (pairs_in table a) s c ≡ has_pair (deps objects L a) s c
