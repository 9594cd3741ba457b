-- Worked answers, from the bytes of a script to the bytes of its text.
use Rattle.std.specs.Prelude.{ℕ, List, [], ◌∷◌, ◌++◌, codes, flat_map}
use Rattle.cam_script.specs.Grammar.{read_script}
use Rattle.cam_run.specs.declared.question.Question.TheVariants.{Report}
use Rattle.cam_run.specs.Answer.{IsOfScript}
use Rattle.cam_run.specs.Disks.{DisksLeft}

-- lines, each with its LF
abbrev pub text : List (List ℕ) → List ℕ
text lines = flat_map (λ l. l ++ 10 ∷ []) lines

-- Two actions at one node and a register. A writes, and B reads: B is kept from it by A.
abbrev pub busy_lines : List (List ℕ)
busy_lines =
    codes "nodes 1" ∷ codes "object x 1 register 0" ∷ codes "begin A 1" ∷ codes "begin B 1" ∷ codes "call A x write 5"
    ∷ codes "deliver 1" ∷ codes "deliver 2" ∷ codes "call B x read" ∷ codes "deliver 3" ∷ codes "deliver 4" ∷ []

-- what each of them sees of that
abbrev pub writer_lines : List (List ℕ)
writer_lines = codes "action 1.1.1 open" ∷ codes "  created" ∷ codes "  called 1 x write 5" ∷ codes "  got 1 ok" ∷ []

abbrev pub reader_lines : List (List ℕ)
reader_lines = codes "action 1.1.2 open" ∷ codes "  created" ∷ codes "  called 1 x read" ∷ codes "  got 1 busy 1.1.1" ∷ []

-- A calls once more, and its letter is never delivered.
abbrev pub open_call : List ℕ
open_call = text (busy_lines ++ codes "call A x read" ∷ [])

abbrev pub open_call_report : List ℕ
open_call_report = text (writer_lines ++ (codes "  called 2 x read" ∷ reader_lines) ++ codes "value x 0" ∷ [])

-- B calls twice more: the second of these lines, with a call still open, is refused.
abbrev pub refused_call : List ℕ
refused_call = text (busy_lines ++ codes "call B x read" ∷ codes "call B x read" ∷ [])

abbrev pub refused_call_report : List ℕ
refused_call_report = text (writer_lines ++ reader_lines ++ codes "  called 2 x read" ∷ codes "refused 12 L5" ∷ codes "value x 0" ∷ [])

-- A letter that asks for a swap is delivered twice: it is performed once, and its second arrival sends the kept reply again, as letter 3.
-- That reply comes first; the first reply, letter 2, comes late.
abbrev pub repeated_letter : List ℕ
repeated_letter =
    text
    (codes "nodes 1" ∷ codes "object x 1 register 7" ∷ codes "begin A 1" ∷ codes "call A x swap 5" ∷ codes "deliver 1" ∷ codes "deliver 1"
    ∷ codes "deliver 3" ∷ codes "deliver 2" ∷ codes "call A x read" ∷ codes "deliver 4" ∷ codes "deliver 5" ∷ [])

abbrev pub repeated_letter_report : List ℕ
repeated_letter_report =
    text
    (codes "action 1.1.1 open" ∷ codes "  created" ∷ codes "  called 1 x swap 5" ∷ codes "  got 1 value 7" ∷ codes "  called 2 x read"
    ∷ codes "  got 2 value 5" ∷ codes "value x 7" ∷ [])

-- The disk of A's node stops after three calls, in the append of A's commit. Its next restart finds
-- the commit in the log, and the other node learns of it by its query.
abbrev pub stopped_commit : List ℕ
stopped_commit =
    text
    (codes "nodes 2" ∷ codes "object x 2 register 0" ∷ codes "begin A 1" ∷ codes "call A x write 5"
    ∷ codes "drain" ∷ codes "commit A 0" ∷ codes "deliver 3" ∷ codes "deliver 4"
    ∷ codes "deliver 5" ∷ codes "deliver 6" ∷ codes "stop 1 3" ∷ codes "deliver 7"
    ∷ codes "restart 1" ∷ codes "query 2 A" ∷ codes "drain" ∷ [])

abbrev pub stopped_commit_report : List ℕ
stopped_commit_report =
    text
    (codes "action 1.1.1 committed" ∷ codes "  created" ∷ codes "  called 1 x write 5"
    ∷ codes "  got 1 ok" ∷ codes "  commit 0" ∷ codes "halted 12 1 taken" ∷ codes "value x 5" ∷ [])

-- The third line begins with no known word.
abbrev pub unknown_line : List ℕ
unknown_line = text (codes "nodes 1" ∷ [] ∷ codes "foo" ∷ [])

abbrev pub unknown_line_text : List ℕ
unknown_line_text = text (codes "refused 3 1 S3" ∷ [])

-- no disk fails
abbrev pub none : DisksLeft
none =
    record {
      failed = λ s. ⊥;
      keep = λ script halts. Unit {0};
      keep_storm = λ storm t. Unit {0};
    }

-- The answers are these statuses and texts.
pub record AreWorked : Type 0 where
  pub open_call_is_shown : IsOfScript Report (read_script open_call) none 0 open_call_report
  pub refused_call_is_marked : IsOfScript Report (read_script refused_call) none 0 refused_call_report
  pub repeated_letter_is_performed_once : IsOfScript Report (read_script repeated_letter) none 0 repeated_letter_report
  pub stopped_commit_is_taken : IsOfScript Report (read_script stopped_commit) none 0 stopped_commit_report
  pub unknown_line_is_refused : IsOfScript Report (read_script unknown_line) none 3 unknown_line_text
