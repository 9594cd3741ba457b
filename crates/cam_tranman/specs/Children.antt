-- The open children of all actions, and how many of them each action has.
use Rattle.std.specs.Prelude.{◌≡◌, ℕ, ◌≤◌, if◌then◌else◌, List, length, unwrap_or, sum_by}
use Rattle.std.specs.HashMap.{HashMap, get}
use Rattle.cam_names.specs.declared.name.Name.{Name}
use Rattle.cam_names.specs.Names.{name_eq, is_child}

-- what is seen of them: the children, and for how many more there is room
pub record ChildrenView : Type 0 where
  pub names : List Name
  pub room : ℕ

-- how many of them are children of an action
abbrev pub number_of : Name → List Name → ℕ
number_of a names = sum_by (λ b. if is_child a b then 1 else 0) names

-- the number that is noted of an action
abbrev pub noted : {S : Type 0} → HashMap Name ℕ S → Name → ℕ
noted counts a = unwrap_or (get name_eq counts a) 0

-- The numbers are right.
abbrev pub AreCounted : {S : Type 0} → List Name → HashMap Name ℕ S → Type 0
AreCounted names counts = (a : Name) → 1 ≤ length a → noted counts a ≡ number_of a names
