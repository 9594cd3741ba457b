-- Names of actions, none of them twice, in the order in which they came in.
use Rattle.std.specs.Prelude.{◌≡◌, ℕ, Bool, not, if◌then◌else◌, List, [], ◌∷◌, ◌++◌, filter}
use Rattle.std.specs.List.{list_any}
use Rattle.cam_names.specs.declared.name.Name.{Name}
use Rattle.cam_names.specs.Names.{name_eq}

-- what is seen of them: the names, and for how many more there is room
pub record NamesView : Type 0 where
  pub names : List Name
  pub spare : ℕ

abbrev pub has_name : List Name → Name → Bool
has_name names a = list_any (name_eq a) names

-- one more name, where it is not among them
abbrev pub with_name : List Name → Name → List Name
with_name names a = if has_name names a then names else names ++ a ∷ []

-- each of these names once, at its first place
abbrev pub once : List Name → List Name
once [] = []
once (a ∷ names) = a ∷ filter (λ b. not (name_eq a b)) (once names)

-- Where the old names were some names, each once, the new ones are these and the next, each once.
abbrev pub TakesIn : List Name → List Name → List Name → Type 0
TakesIn next old new = (before : List Name) → old ≡ once before → new ≡ once (before ++ next)

-- the keys of a table are these names
abbrev pub AreKeys : List Name → List Name → Type 0
AreKeys keys names = (a : Name) → list_any (name_eq a) keys ≡ has_name names a
