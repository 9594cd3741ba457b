-- The serial law: what holds of the serial lists of a legal history, whether or not a run made it.
-- Each list replays (`Replays`), that for no action, where committed top actions ran one after
-- another in order of their Commits, and that for any action, orphan or not.
use Rattle.std.specs.Prelude.{◌≡◌, true, List, Option, Some, None}
use Rattle.cam_names.specs.declared.name.Name.{Name}
use Rattle.cam_type.specs.declared.ObjectDecl.{ObjectDecl}
use Rattle.cam_event.specs.declared.Deed.{Deed}
use Rattle.cam_event.specs.declared.Operation.{Operation}
use Rattle.cam_event.specs.History.{created}
use Rattle.cam_event.specs.Orphans.{orphan}
use Rattle.cam_serial.specs.Serial.{all_committed, Covers}

-- The list for no action covers each action that has committed with all its ancestors, and the
-- list for an action that was created and is no orphan covers it.
abbrev pub ViewIsCovered : List ObjectDecl → List Deed → Option Name → List Operation → Type 0
ViewIsCovered objects L None os = (a : Name) → all_committed L a ≡ true → Covers os L a
ViewIsCovered objects L (Some a) os = created L a ≡ true → orphan objects L a ≡ None → Covers os L a
