-- Which events of a run have a log entry, and that each of them adds to what the log keeps.
--
-- A node appends an entry where its event has records (`cam_node/specs/Entries`). A run says of each
-- input whether its event appends one, by the event's deeds and the counts that its letter brings
-- (`cam_runs/specs/Halts`): this is the same. And what appends adds: an outcome that the node did
-- not know, a greater count, or a secured family. So a restart can tell by what the log holds
-- whether the entry of the event at which the node halted reached it.
use Rattle.std.specs.Prelude.{◌≡◌, ℕ, Bool, true, false, not, List, Option}
use Rattle.cam_type.specs.declared.ObjectDecl.{ObjectDecl}
use Rattle.cam_event.specs.declared.Event.{Event}
use Rattle.cam_event.specs.History.{is_empty}
use Rattle.cam_event.specs.Inputs.{Input, Mail, node_of}
use Rattle.cam_event.specs.Loads.{Load}
use Rattle.cam_event.specs.ByDeltas.{Received}
use Rattle.cam_event.specs.Readings.{by_knowledge}
use Rattle.cam_event.specs.Runs.{MayCome}
use Rattle.cam_event.specs.Taken.{IsRunTaking}
use Rattle.cam_commit.specs.Steps.{is_restarting}
use Rattle.cam_node.specs.Entries.{Holding, entry_records}
use Rattle.cam_node.specs.Found.{Adds, whole_step}
use Rattle.cam_runs.specs.Halts.{appends}
use Rattle.cam_histories.specs.Alike.{AreAlike}
use Rattle.cam_histories.specs.Laws.{history_of}
use Rattle.cam_histories.specs.Stepping.{IsPut}

-- the next event of an input's node, with what is put to it
abbrev pub next_whole : List ObjectDecl → List Event → Input → Option Mail → Load → Received
next_whole objects t input mail load =
    whole_step objects (node_of t input) (history_of objects t (node_of t input)) input mail load

-- The event has a record exactly if it appends an entry,
abbrev pub EntriesAreAppended : Type 0
EntriesAreAppended =
    (holds : Holding) (objects : List ObjectDecl) (taken : ℕ → Bool) (t : List Event)
    (input : Input) (mail : Option Mail) (load : Load)
    → IsRunTaking objects taken t → MayCome objects t input → IsPut objects t input mail load
    → is_empty (entry_records holds objects (history_of objects t (node_of t input))
    (next_whole objects t input mail load))
    ≡ not (appends (by_knowledge objects) t input)

-- and where it does, and is no restart, it adds to what the log keeps.
abbrev pub EntriesAdd : Type 0
EntriesAdd =
    (objects : List ObjectDecl) (taken : ℕ → Bool) (t : List Event) (input : Input)
    (mail : Option Mail) (load : Load)
    → IsRunTaking objects taken t → MayCome objects t input → IsPut objects t input mail load
    → is_restarting input ≡ false → appends (by_knowledge objects) t input ≡ true
    → Adds objects (history_of objects t (node_of t input)) (next_whole objects t input mail load)

-- What it adds does not go by the numbers of letters in the node's history.
abbrev pub AddsAlike : Type 0
AddsAlike =
    (objects : List ObjectDecl) (one other : List Received) (whole : Received)
    → AreAlike one other → Adds objects one whole → Adds objects other whole
