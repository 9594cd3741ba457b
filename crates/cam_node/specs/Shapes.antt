-- What the deeds of a rule may be: none, one that neither decides nor informs, or a decision and the Inform of it. So an event decides one
-- outcome at most; and a node was informed of exactly what it knows.
use Rattle.std.specs.Prelude.{◌≡◌, ℕ, Bool, true, false, List, [], ◌∷◌, map, Option}
use Rattle.cam_names.specs.declared.name.Name.{Name}
use Rattle.cam_type.specs.declared.ObjectDecl.{ObjectDecl}
use Rattle.cam_know.specs.Known.{knows_abort, knows_commit}
use Rattle.cam_event.specs.declared.Deed.{Deed}
use Rattle.cam_event.specs.declared.Deed.TheVariants.{Commit, Abort, Inform}
use Rattle.cam_event.specs.History.{informed}
use Rattle.cam_event.specs.Inputs.{Input, Mail}
use Rattle.cam_event.specs.Sights.{Sight}
use Rattle.cam_event.specs.Rules.{rule}
use Rattle.cam_event.specs.Carried.{deeds_of}
use Rattle.cam_event.specs.ByDeltas.{Received, as_carried, known}
use Rattle.cam_node.specs.Halting.{IsThrough}

abbrev pub is_mute : Deed → Bool
is_mute (Commit a) = false
is_mute (Abort a) = false
is_mute (Inform s a committed) = false
is_mute _ = true

pub data IsShaped (s : ℕ) : List Deed → Type 0 where
  Quiet : IsShaped s []
  Single : (d : Deed) → is_mute d ≡ true → IsShaped s (d ∷ [])
  Commits : (a : Name) → IsShaped s (Commit a ∷ Inform s a true ∷ [])
  Aborts : (a : Name) → IsShaped s (Abort a ∷ Inform s a false ∷ [])

abbrev pub RulesAreShaped : Type 0
RulesAreShaped = (objects : List ObjectDecl) (g : Sight) (mail : Option Mail) (input : Input) → IsShaped g.node (rule objects g mail input).deeds

-- Of each action of which a node knows the abort its site was informed, and of no other; so of the commits.
abbrev pub KnownIsInformed : Type 0
KnownIsInformed =
    (objects : List ObjectDecl) (s : ℕ) (history : List Received) → IsThrough objects s history → (a : Name)
    → (knows_abort (known objects history) a ≡ informed (deeds_of (map as_carried history)) s a false)
    × (knows_commit (known objects history) a ≡ informed (deeds_of (map as_carried history)) s a true)
