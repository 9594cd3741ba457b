-- Halts: which appends of log entries fail, by the lines that stop a disk.
--
-- An event that learns or decides an outcome, learns a greater count, secures a family or raises
-- its own count appends one log entry before any letter of it leaves. Where the append fails its
-- node halts: no letter of the event leaves, and the node does nothing until its next restart line.
-- The entry may be in the log all the same; then the event was taken, else it is lost.
use Rattle.std.specs.Prelude.{ℕ, ◌+◌, ◌-◌, eqb, nat_lt, Bool, ◌&&◌, ◌||◌, if◌then◌else◌, List, [], ◌∷◌, ◌++◌, Option, Some, None}
use Rattle.std.specs.List.{list_any}
use Rattle.cam_know.specs.Knowledge.{Knowledge}
use Rattle.cam_know.specs.Known.{nothing, known_count}
use Rattle.cam_event.specs.declared.Event.{Event}
use Rattle.cam_event.specs.Inputs.{Receives, node_of}
use Rattle.cam_event.specs.Inputs as inputs
use Rattle.cam_event.specs.Taken.{is_entered}
use Rattle.cam_event.specs.Readings.{Reading}

-- a halt: at which accepted input, counted from 0, and whether the log took its entry
pub record Halt : Type 0 where
  pub input : ℕ
  pub took : Bool

-- the halt at this input, if there is one
abbrev pub halt_at : List Halt → ℕ → Option Bool
halt_at [] k = None
halt_at (h ∷ hs) k = if eqb h.input k then Some h.took else halt_at hs k

-- What a letter brings, and whether a count of it is above the one that the node knows.
abbrev pub brought_by : Reading → List Event → inputs.Input → Knowledge
brought_by reading t (Receives letter) = (reading.carried t letter).know
brought_by reading t _ = nothing

abbrev pub learns_count : (ℕ → ℕ) → Knowledge → Bool
learns_count known brought =
    list_any (λ m. nat_lt (known m) (known_count brought m)) (1 ∷ 2 ∷ 3 ∷ 4 ∷ 5 ∷ 6 ∷ 7 ∷ 8 ∷ [])

-- whether the event of an input appends a log entry
abbrev pub appends : Reading → List Event → inputs.Input → Bool
appends reading t input =
    list_any is_entered (reading.next t input).deeds
    || learns_count (reading.sight t (node_of t input)).known_count (brought_by reading t input)

-- What the disks of a run went through, the newest first: the inputs, each with its node, its line,
-- whether its event appends an entry, and whether a later line restarts the node; lines that stop a
-- node's disk after some calls more; and restarts, which end such a stop.
pub data Turn : Type 0 where
  Input : (node line : ℕ) (appends restarted : Bool) → Turn
  Stop : (node calls : ℕ) → Turn
  Restart : (node : ℕ) → Turn

-- how many inputs were accepted
abbrev pub accepted : List Turn → ℕ
accepted [] = 0
accepted (Input s line appends restarted ∷ before) = accepted before + 1
accepted (Stop s calls ∷ before) = accepted before
accepted (Restart s ∷ before) = accepted before

-- How many calls of a node's disk still pass, where a line has stopped it: an append makes four.
-- The first append that the stop does not let pass whole ends the counting.
abbrev pub after_append : Option ℕ → Option ℕ
after_append None = None
after_append (Some left) = if nat_lt left 4 then None else Some (left - 4)

abbrev pub calls_left : List Turn → ℕ → Option ℕ
calls_left [] s = None
calls_left (Input m line appends restarted ∷ before) s =
    if eqb m s && appends then after_append (calls_left before s) else calls_left before s
calls_left (Stop m calls ∷ before) s = if eqb m s then Some calls else calls_left before s
calls_left (Restart m ∷ before) s = if eqb m s then None else calls_left before s

-- That append is the halt of the stop. It is taken exactly if its first three calls passed and a
-- later line restarts the node.
abbrev pub stopped_append : Option ℕ → Bool → Option Bool
stopped_append None restarted = None
stopped_append (Some left) restarted =
    if nat_lt left 4 then Some (eqb left 3 && restarted) else None

-- which inputs are halts: by what the disks went through, the input's node, whether its event
-- appends, whether the node is restarted later
abbrev pub Halting : Type 0
Halting = List Turn → ℕ → Bool → Bool → Option Bool

-- the inputs of a list
abbrev pub given : List Halt → Halting
given halts turns s appends restarted = halt_at halts (accepted turns)

-- those at which a stop ends
abbrev pub by_stops : Halting
by_stops turns s appends restarted =
    if appends then stopped_append (calls_left turns s) restarted else None

-- The halts of the lines that stop a disk, in order, each read from what went before it.
abbrev pub halt_of : ℕ → Option Bool → List Halt
halt_of k None = []
halt_of k (Some took) = record { input = k; took = took } ∷ []

abbrev pub stops_of : List Turn → List Halt
stops_of [] = []
stops_of (Input s line appends restarted ∷ before) =
    stops_of before ++ halt_of (accepted before) (by_stops before s appends restarted)
stops_of (Stop s calls ∷ before) = stops_of before
stops_of (Restart s ∷ before) = stops_of before
