-- Which actions of a node are kept as those that may have a request.
use Rattle.std.specs.Prelude.{◌≡◌, ◌≤◌, ℕ, Bool, true, false, List, ◌∷◌, map, length}
use Rattle.std.specs.Prelude.{Option, Some, None}
use Rattle.std.specs.List.{list_any}
use Rattle.std.specs.BTreeMap.{BTreeMap, get}
use Rattle.std.specs.BTreeSet.{BTreeSet, contains}
use Rattle.cam_names.specs.declared.name.Name.{Name}
use Rattle.cam_names.specs.Names.{name_cmp, name_eq}
use Rattle.cam_event.specs.declared.Deed.{Deed}
use Rattle.cam_event.specs.declared.Deed.TheVariants.{Crash}
use Rattle.cam_event.specs.History.{created}
use Rattle.cam_event.specs.Carried.{deeds_of}
use Rattle.cam_event.specs.ByDeltas.{Received, as_carried}
use Rattle.cam_body.specs.declared.Next.{Next}
use Rattle.cam_body.specs.declared.Next.TheVariants as nexts
use Rattle.cam_body.specs.Work.{next}
use Rattle.cam_tranman.specs.Actions.{MayRunHere}
use Rattle.cam_storm_node.specs.declared.works.Work.{Work}
use Rattle.cam_storm_node.specs.declared.works.Works.{Works}

-- whether an action asks for something, by what it works at and has seen
abbrev pub is_request : Next → Bool
is_request (nexts.Request want) = true
is_request nexts.Wait = false
is_request nexts.Over = false

abbrev pub asks : Option Work → Bool
asks None = false
asks (Some work) = is_request (next work.body work.view)

-- It is kept of one action whether it asks for something, and nothing of another has changed.
abbrev pub IsNoted :
    Name → BTreeMap Name Work → BTreeSet Name → BTreeMap Name Work → BTreeSet Name → Type 0
IsNoted b old before new after =
    (a : Name)
    → (name_eq a b ≡ true → contains name_cmp after a ≡ asks (get name_cmp new a))
    × (name_eq a b ≡ false
    → (contains name_cmp after a ≡ contains name_cmp before a)
    × (get name_cmp new a ≡ get name_cmp old a))

-- An action that was created, may run at this node and asks for something is kept.
abbrev pub IsKept : ℕ → List Deed → BTreeMap Name Work → BTreeSet Name → Name → Type 0
IsKept s L works asking a =
    MayRunHere L s a → created L a ≡ true → asks (get name_cmp works a) ≡ true
    → contains name_cmp asking a ≡ true

-- So is each that was not stopped.
abbrev pub HaveAsked : ℕ → List Received → Works → Type 0
HaveAsked s own works =
    (a : Name) → 1 ≤ length a → contains name_cmp works.stopped a ≡ false
    → IsKept s (deeds_of (map as_carried own)) works.works works.asking a

abbrev pub is_any_crash : Deed → Bool
is_any_crash (Crash s) = true
is_any_crash _ = false

-- After an event with a crash none of the actions that were created may run.
abbrev pub EndsActions : ℕ → List Received → Received → Type 0
EndsActions s own c =
    list_any is_any_crash c.event.deeds ≡ true → (a : Name)
    → MayRunHere (deeds_of (map as_carried (c ∷ own))) s a
    → created (deeds_of (map as_carried (c ∷ own))) a ≡ true → ⊥
