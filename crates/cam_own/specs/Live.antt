-- The live operations of each object, as they are kept.
use Rattle.std.specs.Prelude.{◌≡◌, ◌≤◌, ℕ, eqb, not, if◌then◌else◌, List, [], filter, unwrap_or}
use Rattle.std.specs.HashMap.{HashMap, get}
use Rattle.cam_names.specs.declared.name.Name.{Name}
use Rattle.cam_names.specs.Names.{is_ancestor}
use Rattle.cam_type.specs.declared.ObjectDecl.{ObjectDecl}
use Rattle.cam_event.specs.declared.Deed.{Deed}
use Rattle.cam_event.specs.declared.Operation.{Operation}
use Rattle.cam_event.specs.Live.{live_on, site_of}

abbrev pub operations_in : {S : Type 0} → HashMap ℕ (List Operation) S → ℕ → List Operation
operations_in live x = unwrap_or (get eqb live x) []

-- The table has those of each object of a node.
abbrev pub KeepsLive : {S : Type 0} → List ObjectDecl → List Deed
    → HashMap ℕ (List Operation) S → Type 0
KeepsLive objects L live =
    (x : ℕ) → 1 ≤ site_of objects x → operations_in live x ≡ live_on objects L x

-- the new table has this list at one object
abbrev pub Puts : {S : Type 0} → ℕ → List Operation → HashMap ℕ (List Operation) S
    → HashMap ℕ (List Operation) S → Type 0
Puts x operations old new =
    (y : ℕ) → operations_in new y ≡ (if eqb x y then operations else operations_in old y)

-- the operations but for those of an action and of all below it
abbrev pub without_below : Name → List Operation → List Operation
without_below a operations = filter (λ o. not (is_ancestor a o.action)) operations
