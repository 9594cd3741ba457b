-- How many of some runs lead to each end, by the ends of all runs, in order.
use Rattle.std.specs.Prelude.{ℕ, ◌+◌, Bool, List, [], ◌∷◌, ◌++◌, bytes_eq, length, if◌then◌else◌}
use Rattle.std.specs.List.{filter, list_any}
use Rattle.cam_sweep.specs.declared.tallying.Tallied.{Tallied}

-- an end by the place of the first run that leads there, and how many do
pub record Led : Type 0 where
  pub first : ℕ
  pub runs : ℕ

abbrev pub pair_of : Tallied → Led
pair_of t = record { first = t.first; runs = t.runs }

-- whether an end is one of these
abbrev pub is_among : List ℕ → List (List ℕ) → Bool
is_among end ends = list_any (bytes_eq end) ends

-- how many of these ends are this one
abbrev pub times : List ℕ → List (List ℕ) → ℕ
times end ends = length (filter (bytes_eq end) ends)

-- an end is told at the first run that leads there: none of the runs before does
abbrev pub told_at : List (List ℕ) → ℕ → List (List ℕ) → List ℕ → List Led
told_at all first before end =
    if is_among end before then [] else record { first = first; runs = times end all } ∷ []

-- the ends of the runs from a place on
abbrev pub tally_from : List (List ℕ) → ℕ → List (List ℕ) → List (List ℕ) → List Led
tally_from all first before [] = []
tally_from all first before (end ∷ ends) =
    told_at all first before end ++ tally_from all (first + 1) (before ++ end ∷ []) ends

abbrev pub tally : List (List ℕ) → List Led
tally ends = tally_from ends 0 [] ends
