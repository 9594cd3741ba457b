-- When a script keeps its expectations: each is a fact of its run, and each refused line is expected.
use Rattle.std.specs.Prelude.{◌≡◌, ℕ, Bool, ◌||◌, List, [], ◌∷◌, ◌++◌, bytes_eq, codes, decimal, String, string_bytes, true, if◌then◌else◌}
use Rattle.std.specs.List.{list_all, list_any}
use Rattle.std.specs.BTreeSet.{BTreeSet, contains_text}
use Rattle.cam_event.specs.declared.Mark.{Mark}
use Rattle.cam_event.specs.declared.Mark.TheVariants as marks
use Rattle.cam_sentences.specs.Labels.{label}
use Rattle.cam_expect.specs.declared.expected.Expectation.{Expectation}
use Rattle.cam_expect.specs.declared.findings.Finding.{Finding}

-- the run comes to what is expected
abbrev pub is_met : {Y : Type 0} → BTreeSet (String Y) → Expectation → Bool
is_met facts e = contains_text facts (string_bytes e.text)

-- the line of an expectation that is not met
abbrev pub missed : {Y : Type 0} → BTreeSet (String Y) → Expectation → List ℕ
missed facts e = if is_met facts e then [] else e.line ∷ []

abbrev pub refused_text : ℕ → List ℕ
refused_text line = codes "line " ++ decimal line ++ codes " refused"

abbrev pub labelled_text : ℕ → List ℕ → List ℕ
labelled_text line name = refused_text line ++ codes " " ++ name

-- an expectation of one text or the other
abbrev pub is_of : List ℕ → List ℕ → Expectation → Bool
is_of plain labelled e = bytes_eq (string_bytes e.text) plain || bytes_eq (string_bytes e.text) labelled

-- a line that is refused is expected with its reason or without
abbrev pub is_expected : List Expectation → ℕ → List ℕ → Bool
is_expected es line name = list_any (is_of (refused_text line) (labelled_text line name)) es

abbrev pub unexpected_line : List Expectation → ℕ → List ℕ → List ℕ
unexpected_line es line name = if is_expected es line name then [] else line ∷ []

-- a mark is no refusal, or one that is expected
abbrev pub is_allowed : List Expectation → Mark → Bool
is_allowed es (marks.Refused line refusal) = is_expected es line (label refusal)
is_allowed es _ = true

abbrev pub line_of : Mark → ℕ
line_of (marks.Refused line refusal) = line
line_of (marks.Cut line letter fault at) = line
line_of (marks.Halted line node taken) = line

-- the line of a mark that is not allowed: it was refused, and nothing expects that
abbrev pub unexpected : List Expectation → Mark → List ℕ
unexpected es mark = if is_allowed es mark then [] else line_of mark ∷ []

abbrev pub found_at : Finding → ℕ
found_at f = f.line

-- The script keeps its expectations.
abbrev pub Holds : {Y : Type 0} → BTreeSet (String Y) → List Expectation → List Mark → Type 0
Holds facts es ms = (list_all (is_met facts) es ≡ true) × (list_all (is_allowed es) ms ≡ true)
