-- What one more event of a node does to what it knows and has noted, so that both go on being what its history says.
use Rattle.std.specs.Prelude.{◌≡◌, ℕ, ◌≤◌, false, List, ◌∷◌, map, length, Option, Some, None}
use Rattle.cam_type.specs.declared.ObjectDecl.{ObjectDecl}
use Rattle.cam_know.specs.Order.{told_in_order}
use Rattle.cam_event.specs.declared.Deed.{Deed}
use Rattle.cam_event.specs.Inputs.{Input, Mail}
use Rattle.cam_event.specs.Rules.{rule}
use Rattle.cam_event.specs.ByKnowledge.{held_sight, node_step, learned_by}
use Rattle.cam_event.specs.Loads.{Load, PlacesFields, noted_at, with_load, load_to}
use Rattle.cam_event.specs.ByDeltas.{Received, as_carried, known, places_of, load_for}
use Rattle.cam_commit.specs.Steps.{is_restarting}

-- the event that comes next at a node for an input, with the letter that it hands over and what that carries
abbrev pub stepped : List ObjectDecl → ℕ → List Received → Input → Option Mail → Load → Received
stepped objects s history input mail load =
    record { event = node_step objects s (map as_carried history) input mail (told_in_order load.know); mail = mail; load = load }

-- the deeds that its rule makes, after the first Informs
abbrev pub ruled : List ObjectDecl → ℕ → List Received → Input → Option Mail → Load → List Deed
ruled objects s history input mail load = (rule objects (held_sight objects s (map as_carried history) (told_in_order load.know)) mail input).deeds

-- What is known after an event: with what its letter carried, what the deeds of its rule teach. The Informs teach nothing more.
abbrev pub KnowledgeGrows : Type 0
KnowledgeGrows =
    (objects : List ObjectDecl) (s : ℕ) (history : List Received) (input : Input) (mail : Option Mail) (load : Load)
    → known objects (stepped objects s history input mail load ∷ history)
    ≡ learned_by objects (map as_carried history) mail (with_load (known objects history) load) (ruled objects s history input mail load)

-- What is noted after an event: nothing after a restart; else what the letter says, where there was one.
abbrev pub noted_of : List ObjectDecl → ℕ → List Received → Option Mail → Load → PlacesFields
noted_of objects s history None load = places_of objects history
noted_of objects s history (Some mail) load =
    noted_at s (length (with_load (known objects history) load).outcomes) (places_of objects history) mail.from load

-- The sender of the letter, if there is one, is one of the eight nodes.
abbrev pub IsSentByNode : Option Mail → Type 0
IsSentByNode None = Unit {0}
IsSentByNode (Some mail) = (1 ≤ mail.from) × (mail.from ≤ 8)

abbrev pub PlacesGrow : Type 0
PlacesGrow =
    (objects : List ObjectDecl) (s : ℕ) (history : List Received) (input : Input) (mail : Option Mail) (load : Load)
    → is_restarting input ≡ false → IsSentByNode mail
    → places_of objects (stepped objects s history input mail load ∷ history) ≡ noted_of objects s history mail load

-- What a letter of the node carries then follows from what it knows and has noted.
abbrev pub LoadsFollow : Type 0
LoadsFollow =
    (objects : List ObjectDecl) (s r : ℕ) (history : List Received) → 1 ≤ r → r ≤ 8
    → load_for objects s history r ≡ load_to s (known objects history) (places_of objects history) r
