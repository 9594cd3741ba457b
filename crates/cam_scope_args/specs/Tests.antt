-- Whether words are a form, word by word.
use Rattle.std.specs.Prelude.{ℕ, suc, drop, Bool, true, false, ◌&&◌, ◌||◌, not, List, [], ◌∷◌, bytes_eq, codes, if◌then◌else◌}
use Rattle.std.specs.List.{list_any}
use Rattle.cam_scope_args.specs.Forms.{is_dashed, is_number, is_option}

abbrev pub is_none : List (List ℕ) → Bool
is_none [] = true
is_none (word ∷ rest) = false

abbrev pub is_one_at_most : List (List ℕ) → Bool
is_one_at_most [] = true
is_one_at_most (word ∷ rest) = is_none rest

abbrev pub are_files : List (List ℕ) → Bool
are_files words = not (list_any is_dashed words)

-- two numbers, and nothing else
abbrev pub are_numbers : List (List ℕ) → Bool
are_numbers [] = false
are_numbers (seed ∷ []) = false
are_numbers (seed ∷ size ∷ []) = is_number seed && is_number size
are_numbers (seed ∷ size ∷ more ∷ rest) = false

-- two files
abbrev pub are_two : List (List ℕ) → Bool
are_two [] = false
are_two (a ∷ []) = false
are_two (a ∷ b ∷ []) = are_files (a ∷ b ∷ [])
are_two (a ∷ b ∷ c ∷ rest) = false

-- with how many options of a sweep words begin
abbrev pub leading_options : List (List ℕ) → ℕ
leading_options [] = 0
leading_options (word ∷ rest) = if is_option word then suc (leading_options rest) else 0

-- options, and then one file at most
abbrev pub is_swept : List (List ℕ) → Bool
is_swept words = is_one_at_most (drop (leading_options words) words)
    && are_files (drop (leading_options words) words)

-- a word that asks a question without an option
abbrev pub is_plain : List ℕ → Bool
is_plain word =
    if bytes_eq word (codes "explain") then true
    else if bytes_eq word (codes "columns") then true
    else if bytes_eq word (codes "draw") then true
    else if bytes_eq word (codes "shiviz") then true
    else if bytes_eq word (codes "orders") then true
    else false

-- an option and its value
abbrev pub is_lit : List ℕ → List ℕ → Bool
is_lit option value =
    if bytes_eq option (codes "--action") then not (is_dashed value)
    else if bytes_eq option (codes "--stop") then is_number value
    else false

abbrev pub is_kept : List ℕ → List ℕ → Bool
is_kept option value = if bytes_eq option (codes "--keep") then not (is_dashed value) else false

-- a word with an option and its value
abbrev pub takes_option : List ℕ → List ℕ → List ℕ → Bool
takes_option word option value =
    if bytes_eq word (codes "draw") then is_lit option value
    else if bytes_eq word (codes "shrink") then is_kept option value
    else false

-- a word, and what stands behind it: an option with its value before a file or behind it
abbrev pub is_asked : List ℕ → List (List ℕ) → Bool
is_asked word (option ∷ value ∷ []) = takes_option word option value
is_asked word (a ∷ b ∷ c ∷ []) =
    (takes_option word a b && are_files (c ∷ [])) || (takes_option word b c && are_files (a ∷ []))
is_asked word files = is_plain word && (is_one_at_most files && are_files files)

-- the first word, and what stands behind it
abbrev pub takes : List ℕ → List (List ℕ) → Bool
takes first rest =
    if bytes_eq first (codes "--help") then is_none rest
    else if bytes_eq first (codes "--version") then is_none rest
    else if bytes_eq first (codes "gen") then are_numbers rest
    else if bytes_eq first (codes "check") then are_files rest
    else if bytes_eq first (codes "sweep") then is_swept rest
    else if bytes_eq first (codes "compare") then are_two rest
    else is_asked first rest

abbrev pub is_form : List (List ℕ) → Bool
is_form [] = false
is_form (first ∷ rest) = takes first rest
