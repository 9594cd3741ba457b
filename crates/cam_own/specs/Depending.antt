-- On which nodes each action depends, as it is kept: each at count 1.
use Rattle.std.specs.Prelude.{◌≡◌, ℕ, ◌≤◌, if◌then◌else◌, List, map, length, replicate, unwrap_or}
use Rattle.std.specs.HashMap.{HashMap, get}
use Rattle.cam_names.specs.declared.name.Name.{Name}
use Rattle.cam_names.specs.Names.{name_eq}
use Rattle.cam_names.specs.Dependencies.{as_counts, greater_counts}
use Rattle.cam_type.specs.declared.ObjectDecl.{ObjectDecl}
use Rattle.cam_event.specs.declared.Deed.{Deed}
use Rattle.cam_event.specs.Gained.{deps}

-- the nodes of pairs, each at count 1
abbrev pub at_one : List (ℕ × ℕ) → List (ℕ × ℕ)
at_one pairs = map (λ p. (p.0, 1)) pairs

abbrev pub nodes_of : List (ℕ × ℕ) → List ℕ
nodes_of pairs = as_counts (at_one pairs)

abbrev pub nodes_in : {S : Type 0} → HashMap Name (List ℕ) S → Name → List ℕ
nodes_in table a = unwrap_or (get name_eq table a) (replicate 8 0)

-- The table has the nodes on which each action depends.
abbrev pub KeepsDeps : {S : Type 0} → List ObjectDecl → List Deed → HashMap Name (List ℕ) S → Type 0
KeepsDeps objects L table =
    (a : Name) → 1 ≤ length a → nodes_in table a ≡ nodes_of (deps objects L a)

-- the new table has these nodes besides at one action
abbrev pub Depends : {S : Type 0} → Name → List ℕ → HashMap Name (List ℕ) S
    → HashMap Name (List ℕ) S → Type 0
Depends b more old new =
    (a : Name)
    → nodes_in new a
    ≡ (if name_eq a b then greater_counts (nodes_in old a) more else nodes_in old a)
