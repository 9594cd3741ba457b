-- The numbers of letters, in order of sending.
use Rattle.std.specs.Prelude.{ℕ, ◌+◌, ◌-◌, ◌^◌, List, min, slice_get}
use Rattle.std.specs.Option.{option_map_or}
use Rattle.cam_event.specs.declared.LetterId.{LetterId}
use Rattle.cam_scope.specs.declared.events.NamedEvent.{NamedEvent}

-- a sum of 64 bits: the greatest number in place of one that is above it
abbrev pub sum_within : ℕ → ℕ → ℕ
sum_within a b = min (a + b) (2 ^ 64 - 1)

-- The number of a letter: one more than were sent before it, by its event's own count and its place there; 0 if there is no such event.
abbrev pub letter_number : List NamedEvent → LetterId → ℕ
letter_number events letter = option_map_or (λ e. sum_within (sum_within e.sent_before letter.place) 1) (slice_get events letter.event) 0
