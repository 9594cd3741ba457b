-- An event of a node without a deed, for which no letter came: what is kept stays.
use Rattle.std.specs.Prelude.{◌≡◌, false, List, [], ◌∷◌, None}
use Rattle.cam_names.specs.declared.name.Name.{Name}
use Rattle.cam_names.specs.Dependencies.{AreCounts}
use Rattle.cam_type.specs.declared.ObjectDecl.{ObjectDecl}
use Rattle.cam_event.specs.Sights.{is_preparing_note}
use Rattle.cam_event.specs.Loads.{no_load}
use Rattle.cam_event.specs.ByDeltas.{Received}
use Rattle.cam_node.specs.Represents.{Node, Represents}
use Rattle.cam_node.specs.Calls.{AreSame}

pub record IsIdle (c : Received) : Type 0 where
  pub deeds : c.event.deeds ≡ []
  pub begins : (f : Name) → is_preparing_note f c.event.note ≡ false
  pub mail : c.mail ≡ None
  pub load : c.load ≡ no_load

-- THE LAW. A node that stands for a history stands for the longer one too.
abbrev pub IdleKeeps : Type 0
IdleKeeps =
    (objects : List ObjectDecl) (history : List Received) (c : Received) (old new : Node) → IsIdle c → AreCounts 1 old.know.counts → AreSame old new
    → Represents objects history old → Represents objects (c ∷ history) new
