-- A fact of one run as a line behind a mark, if the other run does not have it.
use Rattle.std.specs.Prelude.{ℕ, List, [], ◌∷◌, ◌++◌, String, string_bytes, if◌then◌else◌}
use Rattle.std.specs.BTreeSet.{BTreeSet, contains_text}

abbrev pub alone : {Y : Type 0} → List ℕ → BTreeSet (String Y) → String Y → List ℕ
alone mark others fact =
    if contains_text others (string_bytes fact) then []
    else mark ++ string_bytes fact ++ 10 ∷ []
