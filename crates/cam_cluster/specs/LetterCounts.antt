-- How many letters were sent until each event stood.
use Rattle.std.specs.Prelude.{ℕ, ◌-◌, ◌^◌, List, [], ◌∷◌, ◌++◌, get_or, length, min, zero, suc}
use Rattle.cam_event.specs.declared.Event.{Event}
use Rattle.cam_runs.specs.Running.{letters}

-- as many letters as have numbers
abbrev pub most_letters : ℕ
most_letters = 2 ^ 32 - 1

-- Of each event of a trace how many letters were sent until it stood, its own with them, the oldest event first. An event that
-- sends none has the count of the one before it.
abbrev pub letter_counts : List Event → List ℕ
letter_counts [] = []
letter_counts (e ∷ before) =
    letter_counts before ++ min most_letters (length (letters (e ∷ before))) ∷ []

-- how many were sent before the event at a place, by the counts of the events
abbrev pub count_before : List ℕ → ℕ → ℕ
count_before counts zero = 0
count_before counts (suc place) = get_or counts place 0
