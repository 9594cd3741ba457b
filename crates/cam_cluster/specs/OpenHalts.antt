-- The halts of works that are undecided, and what a restart makes of events, halts and marks where
-- it finds that one was taken: its event stands at its place, and what is after it has numbers
-- greater by one. Numbers are those of 64 bits, the last of which stays.
use Rattle.std.specs.Prelude.{ℕ, ◌+◌, ◌-◌, ◌^◌, eqb, nat_lt, min, if◌then◌else◌, List, [], ◌∷◌, ◌++◌}
use Rattle.std.specs.Prelude.{drop, map, take, Option, Some, None, option_map}
use Rattle.cam_event.specs.declared.Event.{Event}
use Rattle.cam_event.specs.declared.LetterId.{LetterId}
use Rattle.cam_event.specs.declared.Mark.{Mark}
use Rattle.cam_histories.specs.Found.{with_mark_taken}
use Rattle.cam_cluster.specs.declared.works.undecided.OpenHalt.{OpenHalt}

-- one more
abbrev pub next_number : ℕ → ℕ
next_number k = min (2 ^ 64 - 1) (k + 1)

-- a letter, and an event with it, where an event was put in at this place
abbrev pub renumbered : ℕ → LetterId → LetterId
renumbered place letter =
    record {
      event = if nat_lt letter.event place then letter.event else next_number letter.event;
      place = letter.place;
    }

abbrev pub with_letter_renumbered : ℕ → Event → Event
with_letter_renumbered place e = record e { got = option_map (renumbered place) e.got }

-- the events, the oldest first, with one put in
abbrev pub put_in_at : ℕ → Event → List Event → List Event
put_in_at place e events =
    take place events ++ e ∷ map (with_letter_renumbered place) (drop place events)

-- the newest halt of a node
abbrev pub open_halt_of : ℕ → List OpenHalt → Option OpenHalt
open_halt_of s [] = None
open_halt_of s (h ∷ hs) = if eqb h.node s then Some h else open_halt_of s hs

-- The halts without that one. Those that are newer stand after its event.
abbrev pub behind_event : ℕ → OpenHalt → OpenHalt
behind_event place h =
    record {
      node = h.node;
      before = next_number h.before;
      got = option_map (renumbered place) h.got;
    }

abbrev pub open_beside : ℕ → ℕ → List OpenHalt → List OpenHalt
open_beside s place [] = []
open_beside s place (h ∷ hs) =
    if eqb h.node s then hs else behind_event place h ∷ open_beside s place hs

-- what was taken of an event, with the letter by its number of now
abbrev pub taken_with : Option LetterId → Event → Event
taken_with got e = record e { got = got; sent = [] }

-- what a restart makes of events, halts and marks, where the node's newest halt is this one
abbrev pub events_found : Option OpenHalt → Event → List Event → List Event
events_found None e events = events
events_found (Some h) e events = put_in_at h.before (taken_with h.got e) events

abbrev pub halts_found : ℕ → Option OpenHalt → List OpenHalt → List OpenHalt
halts_found s None hs = hs
halts_found s (Some h) hs = open_beside s h.before hs

abbrev pub marks_found : ℕ → Option OpenHalt → List Mark → List Mark
marks_found s None marks = marks
marks_found s (Some h) marks = with_mark_taken s marks
