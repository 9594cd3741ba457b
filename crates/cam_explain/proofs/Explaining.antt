-- The parts of a text, one behind the other, are the text of the run.
use Rattle.std.proofs.Common.{◌≡◌, ℕ, List, [], reverse, sym, ap, ◌∙◌}
use Rattle.std.specs.List.{flat_map}
use Rattle.cam_event.specs.declared.Deed.{Deed}
use Rattle.cam_event.specs.declared.RunRecord.{RunRecord}
use Rattle.cam_event.specs.History.{after}
use Rattle.cam_event.specs.Pasts.{plain_all}
use Rattle.cam_report.specs.Report.{values_from}
use Rattle.cam_report.proofs.Settling.{history_back, plain_deeds}
use Rattle.cam_scope.specs.declared.scope.Scope.{Scope}
use Rattle.cam_script.specs.declared.Script.{Script}
use Rattle.cam_explain.specs.Moments.{Told, told}
use Rattle.cam_explain.specs.Stories.{actions_text}
use Rattle.cam_explain.specs.Marks.{marks_text}
use Rattle.cam_explain.specs.Stops.{stops_from}
use Rattle.cam_explain.specs.Notes.{letters_from, notes_from}
use Rattle.cam_explain.specs.Explained.{explained, with_part}

pub explaining : (source : List (List ℕ)) (script : Script) (scope : Scope) (run : RunRecord) (course : Told) (ds : List Deed) (t1 t2 t3 t4 t5 : List ℕ)
    → course ≡ told scope.events run.trace
    → ds ≡ flat_map (λ e. e.deeds) run.trace
    → t1 ≡ actions_text script scope course (reverse ds)
    → t2 ≡ with_part t1 (marks_text source script scope course run.marks)
    → t3 ≡ with_part t2 (stops_from scope (reverse run.trace) 0 run.trace)
    → t4 ≡ with_part (with_part t3 (notes_from scope 0 run.trace)) (letters_from 1 scope.letters)
    → t5 ≡ with_part t4 (values_from script.objects (after [] ds) 0 script.labels)
    → t5 ≡ explained source script scope run
explaining source script scope run course ds t1 t2 t3 t4 t5 same deeds e1 e2 e3 e4 e5 =
    let all : reverse ds ≡ plain_all (reverse run.trace) = ap (λ (xs : List Deed). reverse xs) deeds ∙ sym (plain_deeds run.trace) in
    let values : after [] ds ≡ plain_all (reverse run.trace) = history_back ds ∙ all in
    let p1 : t1 ≡ actions_text script scope (told scope.events run.trace) (plain_all (reverse run.trace)) =
    e1 ∙ (λ i. actions_text script scope (same i) (all i)) in
    let p2 : t2 ≡ with_part (actions_text script scope (told scope.events run.trace) (plain_all (reverse run.trace)))
    (marks_text source script scope (told scope.events run.trace) run.marks) =
    e2 ∙ (λ i. with_part (p1 i) (marks_text source script scope (same i) run.marks)) in
    e5 ∙ (λ i. with_part ((e4 ∙ (λ j. with_part (with_part ((e3 ∙ (λ k. with_part (p2 k) (stops_from scope (reverse run.trace) 0 run.trace))) j)
    (notes_from scope 0 run.trace)) (letters_from 1 scope.letters))) i) (values_from script.objects (values i) 0 script.labels))
