-- What is told of the marks of a run: refused lines, letters that came cut short, and halts.
use Rattle.std.specs.Prelude.{ℕ, eqb, Bool, true, false, if◌then◌else◌, List, [], ◌∷◌, ◌++◌, Option, Some, None, codes, decimal}
use Rattle.std.specs.List.{flat_map}
use Rattle.cam_event.specs.declared.LetterFault.{LetterFault}
use Rattle.cam_event.specs.declared.LineRefusal.{LineRefusal}
use Rattle.cam_event.specs.declared.Mark.{Mark}
use Rattle.cam_event.specs.declared.Mark.TheVariants as marks
use Rattle.cam_scope.specs.declared.scope.Scope.{Scope}
use Rattle.cam_scope.specs.Source.{column_of, line_of}
use Rattle.cam_script.specs.declared.Script.{Script}
use Rattle.cam_script.specs.declared.Act.{Act}
use Rattle.cam_script.specs.declared.Step.{Step}
use Rattle.cam_sentences.specs.Labels.{label}
use Rattle.cam_sentences.specs.Sentences.{fault_text, refusal_text}
use Rattle.cam_explain.specs.Moments.{Told}
use Rattle.cam_explain.specs.Pointed.{pointed_text}
use Rattle.cam_explain.specs.Reasons.{against_text, pointed_by}

-- the act of the step in a line
abbrev pub act_in : List Step → ℕ → Option Act
act_in [] line = None
act_in (s ∷ ss) line = if eqb s.line line then Some s.act else act_in ss line

-- a refused line with a caret at its word, the rule, and what stood against it
abbrev pub refused_act : List (List ℕ) → Script → Scope → Told → ℕ → LineRefusal → Act → List ℕ
refused_act source script scope course line refusal act =
    pointed_text (line_of source line) (column_of (line_of source line) (pointed_by act refusal))
    ++ ((codes "  " ++ (label refusal ++ codes ": ")) ++ (refusal_text refusal ++ (codes "\n" ++ against_text script scope course line act refusal)))

abbrev pub refused_line : List (List ℕ) → Script → Scope → Told → ℕ → LineRefusal → Act → List ℕ
refused_line source script scope course line refusal act =
    (codes "line " ++ (decimal line ++ codes " is refused:\n")) ++ refused_act source script scope course line refusal act

abbrev pub refused_text : List (List ℕ) → Script → Scope → Told → ℕ → LineRefusal → Option Act → List ℕ
refused_text source script scope course line refusal None = []
refused_text source script scope course line refusal (Some act) = refused_line source script scope course line refusal act

abbrev pub taken_text : Bool → List ℕ
taken_text true = codes "The entry had reached its log, so its event stands.\n"
taken_text false = codes "The entry did not reach its log, so there is no event.\n"

abbrev pub cut_text : ℕ → ℕ → LetterFault → ℕ → List ℕ
cut_text line letter fault at =
    (codes "line " ++ (decimal line ++ codes ": letter ")) ++ ((decimal letter ++ codes " comes cut short, and cannot be read at byte ")
    ++ ((decimal at ++ codes ". ") ++ (fault_text fault ++ codes "\n")))

abbrev pub halt_text : ℕ → ℕ → Bool → List ℕ
halt_text line node taken =
    (codes "line " ++ (decimal line ++ codes ": node ")) ++ ((decimal node ++ codes " halts, since its disk was stopped. ") ++ taken_text taken)

abbrev pub mark_text : List (List ℕ) → Script → Scope → Told → Mark → List ℕ
mark_text source script scope course (marks.Refused line refusal) =
    refused_text source script scope course line refusal (act_in script.steps line)
mark_text source script scope course (marks.Cut line letter fault at) = cut_text line letter fault at
mark_text source script scope course (marks.Halted line node taken) = halt_text line node taken

-- The marks, in order of lines.
abbrev pub marks_text : List (List ℕ) → Script → Scope → Told → List Mark → List ℕ
marks_text source script scope course ms = flat_map (mark_text source script scope course) ms
