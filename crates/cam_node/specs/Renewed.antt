-- A node without its disk as a restart makes it of what its log keeps: nothing runs, nothing is
-- noted, exactly the families that were held are
-- secured, and the site has their operations.
use Rattle.std.specs.Prelude.{◌≡◌, ℕ, List, [], ◌∷◌, None}
use Rattle.cam_type.specs.declared.ObjectDecl.{ObjectDecl}
use Rattle.cam_event.specs.declared.Deed.TheVariants.{Crash}
use Rattle.cam_event.specs.declared.Event.{Event}
use Rattle.cam_event.specs.declared.Note.TheVariants as notes
use Rattle.cam_event.specs.Loads.{no_places}
use Rattle.cam_locks.specs.Restored.{restored}
use Rattle.cam_commit.specs.Events.{AreRecovered, families_of}
use Rattle.cam_recman.specs.declared.Recovered.{Recovered}
use Rattle.cam_server.specs.Calls.{IsNew}
use Rattle.cam_tranman.specs.Calls.{AreSame, none_run}
use Rattle.cam_node.specs.Represents.{Node}

pub record IsRenewed (objects : List ObjectDecl) (s : ℕ) (kept : Recovered) (new : Node) : Type 0
  where
    pub number : new.number ≡ s
    pub count : new.count ≡ kept.count
    pub know : new.know ≡ kept.know
    pub places : new.places ≡ no_places
    pub actions : AreSame (none_run s kept.count) new.actions
    pub families : AreRecovered (families_of kept.held) new.families
    pub server : IsNew kept.count (restored objects s kept.held kept.know) new.server

-- the event of a restart
abbrev pub crash_of : ℕ → Event
crash_of s = record { node = s; got = None; deeds = Crash s ∷ []; sent = []; note = notes.Plain }
