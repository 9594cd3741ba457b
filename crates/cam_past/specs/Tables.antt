-- Tables of clocks, over a trace with the newest event first.
use Rattle.std.specs.Prelude.{◌≡◌, ℕ, ◌+◌, ◌-◌, ◌/◌, ◌%◌, ◌<◌, max, eqb, nat_lt, Bool, false, ◌&&◌, if◌then◌else◌, List, [], ◌∷◌, length, get_or, slice_get, Option, Some, None}
use Rattle.std.specs.Option.{unwrap_or}
use Rattle.cam_event.specs.declared.Event.{Event}
use Rattle.cam_event.specs.Pasts.{last_of, sender_of}
use Rattle.cam_past.specs.declared.clock.Clock.{Clock}

-- the node of an event, if there is one
abbrev pub node_at : List Event → ℕ → Option ℕ
node_at [] i = None
node_at (e ∷ before) i = if eqb i (length before) then Some e.node else node_at before i

-- what a function has at an event, 0 if there is no event
abbrev pub at_or_zero : (ℕ → ℕ) → Option ℕ → ℕ
at_or_zero f None = 0
at_or_zero f (Some j) = f j

-- One more than the number of the last event of node s in the past of event j, and 0 where none is there: the event's own node has
-- the event itself, and each other node the later one of what the node's last event and the sender of the letter have.
abbrev pub latest : List Event → ℕ → ℕ → ℕ
latest [] s j = 0
latest (e ∷ before) s j =
    if eqb j (length before)
    then (if eqb e.node s then length before + 1
    else max (at_or_zero (latest before s) (last_of before e.node)) (at_or_zero (latest before s) (sender_of e.got)))
    else latest before s j

-- the seat of a node, of 256: nodes 1 to 8 have the first eight
abbrev pub seat : ℕ → ℕ
seat s = if eqb s 0 then 255 else s - 1

abbrev pub table_of : ℕ → ℕ
table_of s = seat s / 8

abbrev pub place_of : ℕ → ℕ
place_of s = seat s % 8

-- what the clock of an event has at a place, 0 if there is no such event
abbrev pub latest_by : Option Clock → ℕ → ℕ
latest_by None place = 0
latest_by (Some clock) place = get_or clock.latest place 0

abbrev pub latest_at : List Clock → ℕ → ℕ → ℕ
latest_at clocks j place = latest_by (slice_get clocks j) place

abbrev pub latest_of : List Clock → Option ℕ → ℕ → ℕ
latest_of clocks None place = 0
latest_of clocks (Some j) place = latest_at clocks j place

-- what the clock of one more event has at a place, where its node's last event is given
abbrev pub next_latest : List Clock → ℕ → Option ℕ → Event → ℕ → ℕ
next_latest clocks table last e place =
    if eqb (table_of e.node) table && eqb (place_of e.node) place
    then length clocks + 1
    else max (latest_of clocks last place) (latest_of clocks (sender_of e.got) place)

-- The clocks have of each node of their table what is in the past of each event.
pub record IsTable (t : List Event) (table : ℕ) (clocks : List Clock) : Type 0 where
  pub long : length clocks ≡ length t
  pub told : (s j : ℕ) → s < 256 → table_of s ≡ table → latest_at clocks j (place_of s) ≡ latest t s j

pub record AreNodes (t : List Event) (nodes : List ℕ) : Type 0 where
  pub long : length nodes ≡ length t
  pub told : (i : ℕ) → slice_get nodes i ≡ node_at t i

-- each of the nodes has a place in so many tables
abbrev pub AreWithin : ℕ → List ℕ → Type 0
AreWithin count nodes = (i s : ℕ) → slice_get nodes i ≡ Some s → (s < 256) × (table_of s < count)

abbrev pub table_at : List (List Clock) → ℕ → List Clock
table_at tables number = unwrap_or (slice_get tables number) []

abbrev pub AreTables : List Event → ℕ → List (List Clock) → Type 0
AreTables t count tables = (number : ℕ) → number < count → IsTable t number (table_at tables number)

-- what the tables have of a node in the past of event j
abbrev pub latest_in : List (List Clock) → ℕ → ℕ → ℕ
latest_in tables s j = latest_at (table_at tables (table_of s)) j (place_of s)

-- whether nodes and tables tell that event i is in the past of event j
abbrev pub is_told_of : Option ℕ → List (List Clock) → ℕ → ℕ → Bool
is_told_of None tables i j = false
is_told_of (Some s) tables i j = nat_lt i (latest_in tables s j)

abbrev pub is_told : List ℕ → List (List Clock) → ℕ → ℕ → Bool
is_told nodes tables i j = is_told_of (slice_get nodes i) tables i j
