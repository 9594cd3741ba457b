-- A table of quiesce moments.
use Rattle.std.specs.Prelude.{◌≡◌, ℕ, List, unwrap_or}
use Rattle.std.specs.BTreeMap.{BTreeMap, get}
use Rattle.cam_names.specs.declared.name.Name.{Name}
use Rattle.cam_names.specs.Names.{name_cmp}
use Rattle.cam_timed.specs.declared.TimedEvent.{TimedEvent}
use Rattle.cam_timed.specs.Moments.{until_of}

-- the quiesce moment that a table has of an action
abbrev pub until_in : BTreeMap Name ℕ → Name → ℕ
until_in untils a = unwrap_or (get name_cmp untils a) 0

-- The table has the quiesce moment of each action that was named.
abbrev pub TellsUntils : List TimedEvent → BTreeMap Name ℕ → Type 0
TellsUntils t untils = (a : Name) → until_in untils a ≡ until_of t a
