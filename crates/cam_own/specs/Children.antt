-- The open children of each action, as they are kept.
use Rattle.std.specs.Prelude.{◌≡◌, Bool, false, not, if◌then◌else◌, List, [], ◌∷◌, ◌++◌, filter, unwrap_or}
use Rattle.std.specs.HashMap.{HashMap, get}
use Rattle.std.specs.Option.{option_map_or}
use Rattle.cam_names.specs.declared.name.Name.{Name}
use Rattle.cam_names.specs.Names.{name_eq, parent}
use Rattle.cam_event.specs.declared.Deed.{Deed}
use Rattle.cam_event.specs.declared.Deed.TheVariants.{Ask, Commit, Abort}

-- whether the action is the parent of the other
abbrev pub is_parent : Name → Name → Bool
is_parent a b = option_map_or (name_eq a) (parent b) false

-- a list without a name
abbrev pub without : Name → List Name → List Name
without b names = filter (λ c. not (name_eq b c)) names

-- the children that an action has asked for and that are not decided, in order, if each decision is
-- of a child of its parent
abbrev pub open_of : List Deed → Name → List Name
open_of [] a = []
open_of (Ask p b ∷ before) a = if name_eq a p then open_of before a ++ b ∷ [] else open_of before a
open_of (Commit b ∷ before) a =
    if is_parent a b then without b (open_of before a) else open_of before a
open_of (Abort b ∷ before) a =
    if is_parent a b then without b (open_of before a) else open_of before a
open_of (_ ∷ before) a = open_of before a

abbrev pub children_in : {S : Type 0} → HashMap Name (List Name) S → Name → List Name
children_in table a = unwrap_or (get name_eq table a) []

-- The table has them of each action.
abbrev pub KeepsChildren : {S : Type 0} → List Deed → HashMap Name (List Name) S → Type 0
KeepsChildren L table = (a : Name) → children_in table a ≡ open_of L a

-- the new table has this list at one action
abbrev pub Puts : {S : Type 0} → Name → List Name → HashMap Name (List Name) S
    → HashMap Name (List Name) S → Type 0
Puts b names old new =
    (a : Name) → children_in new a ≡ (if name_eq a b then names else children_in old a)
