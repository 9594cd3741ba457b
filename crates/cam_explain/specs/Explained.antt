-- A run in words.
use Rattle.std.specs.Prelude.{ℕ, List, [], ◌∷◌, ◌++◌, reverse}
use Rattle.cam_event.specs.declared.RunRecord.{RunRecord}
use Rattle.cam_event.specs.Pasts.{plain_all}
use Rattle.cam_report.specs.Report.{values_from}
use Rattle.cam_scope.specs.declared.scope.Scope.{Scope}
use Rattle.cam_script.specs.declared.Script.{Script}
use Rattle.cam_explain.specs.Moments.{told}
use Rattle.cam_explain.specs.Stories.{actions_text}
use Rattle.cam_explain.specs.Marks.{marks_text}
use Rattle.cam_explain.specs.Stops.{stops_from}
use Rattle.cam_explain.specs.Notes.{letters_from, notes_from}

-- a part behind an empty line, unless it is empty or the first
abbrev pub with_part : List ℕ → List ℕ → List ℕ
with_part text [] = text
with_part [] (b ∷ bs) = b ∷ bs
with_part (c ∷ text) (b ∷ bs) = c ∷ text ++ 10 ∷ b ∷ bs

-- The run of a script, whose lines are given: what each action did and saw, and for what it waits if it is open; the marks of lines; the
-- stops, with the letters that led to each; the notes of events; the letters that no event received; the values of the objects.
abbrev pub explained : List (List ℕ) → Script → Scope → RunRecord → List ℕ
explained source script scope run =
    let course = told scope.events run.trace in
    let deeds = plain_all (reverse run.trace) in
    with_part (with_part (with_part (with_part (with_part
    (actions_text script scope course deeds)
    (marks_text source script scope course run.marks))
    (stops_from scope (reverse run.trace) 0 run.trace))
    (notes_from scope 0 run.trace))
    (letters_from 1 scope.letters))
    (values_from script.objects deeds 0 script.labels)
