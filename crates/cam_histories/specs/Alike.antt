-- Histories that differ in the numbers of their letters alone: a node, its log, a taken event and a
-- halt stand for the one as for the other.
use Rattle.std.specs.Prelude.{◌≡◌, ℕ, List, map}
use Rattle.cam_type.specs.declared.ObjectDecl.{ObjectDecl}
use Rattle.cam_event.specs.declared.Event.{Event}
use Rattle.cam_event.specs.ByDeltas.{Received}
use Rattle.cam_node.specs.Found.{IsHaltedAt, IsLogOfOneOf}
use Rattle.cam_node.specs.Halting.{IsTakenOf, IsThrough}
use Rattle.cam_node.specs.Keeping.{IsLogOf}
use Rattle.cam_node.specs.Log.{Logged}
use Rattle.cam_node.specs.Represents.{Node, Represents}
use Rattle.cam_runs.specs.Standing.{Standing}
use Rattle.cam_histories.specs.Found.{IsFound}
use Rattle.cam_histories.specs.Laws.{history_of}
use Rattle.cam_histories.specs.PutIn.{nameless}

abbrev pub AreAlike : List Received → List Received → Type 0
AreAlike one other = map nameless one ≡ map nameless other

abbrev pub NodesStandAlike : Type 0
NodesStandAlike =
    (objects : List ObjectDecl) (one other : List Received) (node : Node) → AreAlike one other
    → Represents objects one node → Represents objects other node

abbrev pub LogsKeepAlike : Type 0
LogsKeepAlike =
    (objects : List ObjectDecl) (s : ℕ) (one other : List Received) (logged : Logged)
    → AreAlike one other → IsLogOf objects s one logged → IsLogOf objects s other logged

abbrev pub TakenEventsAreAlike : Type 0
TakenEventsAreAlike =
    (objects : List ObjectDecl) (s : ℕ) (one other : List Received) (c : Received)
    → AreAlike one other → IsTakenOf objects s one c → IsTakenOf objects s other c

abbrev pub HistoriesGoThroughAlike : Type 0
HistoriesGoThroughAlike =
    (objects : List ObjectDecl) (s : ℕ) (one other : List Received) → AreAlike one other
    → IsThrough objects s one → IsThrough objects s other

-- A node that halted in a step after the one halted in that step after the other, and its log is as
-- well that of one of the two.
abbrev pub HaltsStandAlike : Type 0
HaltsStandAlike =
    (objects : List ObjectDecl) (one other : List Received) (whole : Received) (node : Node)
    (event : Event) → AreAlike one other → IsHaltedAt objects one whole node event
    → IsHaltedAt objects other whole node event

abbrev pub HaltedLogsKeepAlike : Type 0
HaltedLogsKeepAlike =
    (objects : List ObjectDecl) (s : ℕ) (one other : List Received) (whole : Received) (n : ℕ)
    (logged : Logged) → AreAlike one other → IsLogOfOneOf objects s one whole n logged
    → IsLogOfOneOf objects s other whole n logged

-- So are the histories of each other node where a halt is found to be taken.
abbrev pub OtherHistoriesStay : Type 0
OtherHistoriesStay =
    (objects : List ObjectDecl) (s m : ℕ) (before : List Event) (e : Event) (lost found : Standing)
    → IsFound s before e lost found → (s ≡ m → ⊥)
    → AreAlike (history_of objects lost.running.trace m)
    (history_of objects found.running.trace m)
