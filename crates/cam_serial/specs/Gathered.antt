-- What is gathered for a serial list: the committed names, and the operations of each family.
use Rattle.std.specs.Prelude.{◌≡◌, Bool, false, if◌then◌else◌, ◌&&◌, ◌||◌, List, [], filter, Option, Some, None, unwrap_or}
use Rattle.std.specs.List.{list_all, flat_map}
use Rattle.std.specs.BTreeMap.{BTreeMap, get}
use Rattle.std.specs.BTreeSet.{BTreeSet, contains}
use Rattle.cam_names.specs.declared.name.Name.{Name}
use Rattle.cam_names.specs.Names.{name_cmp, name_eq, is_ancestor, ancestors, family}
use Rattle.cam_event.specs.declared.Deed.{Deed}
use Rattle.cam_event.specs.declared.Operation.{Operation}
use Rattle.cam_event.specs.History.{committed}
use Rattle.cam_serial.specs.Serial.{committed_tops}

-- The set has the actions that committed.
abbrev pub TellsCommitted : List Deed → BTreeSet Name → Type 0
TellsCommitted L names = (a : Name) → contains name_cmp names a ≡ committed L a

-- an ancestor of the reader, if there is one
abbrev pub is_above : Option Name → Name → Bool
is_above None u = false
is_above (Some a) u = is_ancestor u a

-- Every ancestor is in the set, but those that are also ancestors of the reader.
abbrev pub is_seen : BTreeSet Name → Option Name → Name → Bool
is_seen names reader b = list_all (λ u. is_above reader u || contains name_cmp names u) (ancestors b)

-- the operations of a family, as the table has them
abbrev pub group_in : BTreeMap Name (List Operation) → Name → List Operation
group_in groups f = unwrap_or (get name_cmp groups f) []

-- The table has of each family those of the operations all whose ancestors are in the set.
abbrev pub TellsGroups : BTreeSet Name → List Operation → BTreeMap Name (List Operation) → Type 0
TellsGroups names os groups = (f : Name) → group_in groups f ≡ filter (λ o. name_eq f (family o.action) && is_seen names None o.action) os

-- the groups of the committed top actions, one after another
abbrev pub joined : BTreeMap Name (List Operation) → List Deed → List Operation
joined groups L = flat_map (group_in groups) (committed_tops L)

-- those of the operations that are of the action's family, and are committed up to an ancestor of it
abbrev pub seen_of : BTreeSet Name → Name → List Operation → List Operation
seen_of names a os = filter (λ o. name_eq (family a) (family o.action) && is_seen names (Some a) o.action) os

-- what an action may see of its own family, where that has not committed
abbrev pub own_of : BTreeSet Name → Option Name → List Operation → List Operation
own_of names None os = []
own_of names (Some a) os = if contains name_cmp names (family a) then [] else seen_of names a os
