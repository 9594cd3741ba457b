-- What a step's entry makes of the log: what the log lists then, how many calls of the disk that
-- takes, and what a crash at any moment of the step leaves.
use Rattle.std.specs.Prelude.{◌≡◌, ◌⊎◌, ℕ, nat_lt, false, if◌then◌else◌, List, [], ◌∷◌, Option, Ok}
use Rattle.cam_type.specs.declared.ObjectDecl.{ObjectDecl}
use Rattle.cam_event.specs.declared.Event.{Event}
use Rattle.cam_event.specs.History.{is_empty}
use Rattle.cam_event.specs.Inputs.{Input, Mail}
use Rattle.cam_event.specs.Loads.{Load}
use Rattle.cam_event.specs.ByDeltas.{Received}
use Rattle.cam_log.specs.Moments.{Opened}
use Rattle.cam_log.specs.Spent.{Spent}
use Rattle.cam_recman.specs.declared.Record.{Record}
use Rattle.cam_node.specs.Entries.{Holding, entry_records}
use Rattle.cam_node.specs.Halting.{taken, taken_step}
use Rattle.cam_node.specs.Keeping.{KeepsHistory, KeepsNode, MayBePutThen}
use Rattle.cam_node.specs.Learning.{stepped}
use Rattle.cam_node.specs.Opened.{with_entry_of}
use Rattle.cam_node.specs.Planned.{HasEntry}
use Rattle.cam_node.specs.Represents.{Node}

-- An entry takes four calls of the disk. If there is no record, none is done.
abbrev pub SpentFor : List Record → Option ℕ → Option ℕ → Type 0
SpentFor [] before left = left ≡ before
SpentFor (one ∷ rest) before left = Spent 4 before left

-- What a log lists that is opened after so many calls of the append of these records' entry: the
-- third opens the gate of the entry.
abbrev pub listed_after : ℕ → List (List ℕ) → List Record → List (List ℕ)
listed_after calls before records =
    if nat_lt calls 3 then before else with_entry_of before records

-- The log lists the entry of the event after what it listed, or the same where the event has no
-- record; and the disk did the calls for that.
pub record HasAppended (objects : List ObjectDecl) (old : Node) (input : Input)
    (mail : Option Mail) (load : Load) (event : Event) (before now : List (List ℕ))
    (passes left : Option ℕ) : Type 0 where
  pub records : List Record
  pub entry : HasEntry objects old input mail load event records
  pub listed : now ≡ with_entry_of before records
  pub spent : SpentFor records passes left

-- It opens with entries that keep a history.
pub record OpensAs (objects : List ObjectDecl) (s : ℕ) (history : List Received) (opened : Opened)
    : Type 0 where
  pub entries : List (List ℕ)
  pub opens : opened ≡ Ok entries
  pub keeps : KeepsHistory objects s history entries

-- It opens with what keeps the history before the event, or that with what was taken of the event:
-- for each history for which the node and its log, which listed these entries, stood.
abbrev pub OpensAsEither : List ObjectDecl → Node → List (List ℕ) → Input → Option Mail → Load
    → Opened → Type 0
OpensAsEither objects old before input mail load opened =
    (history : List Received) → KeepsNode objects history old before
    → MayBePutThen objects old.number history input mail load
    → OpensAs objects old.number history opened
    ⊎ OpensAs objects old.number
    (taken_step objects old.number history input mail load ∷ history) opened

-- The same after so many calls of the event's append: from the third on it is that with the event.
abbrev pub history_after : ℕ → List Received → Received → List Received
history_after calls history halted = if nat_lt calls 3 then history else halted ∷ history

-- The append of the event's entry, which has a record, was cut off after so many calls.
pub record IsCutAfter (calls : ℕ) (objects : List ObjectDecl) (s : ℕ) (history : List Received)
    (whole : Received) (opened : Opened) : Type 0 where
  pub holds : Holding
  pub some : is_empty (entry_records holds objects history whole) ≡ false
  pub opens : OpensAs objects s (history_after calls history (taken whole)) opened

abbrev pub OpensAfter : ℕ → List ObjectDecl → Node → List (List ℕ) → Input → Option Mail → Load
    → Opened → Type 0
OpensAfter calls objects old before input mail load opened =
    (history : List Received) → KeepsNode objects history old before
    → MayBePutThen objects old.number history input mail load
    → IsCutAfter calls objects old.number history
    (stepped objects old.number history input mail load) opened
