-- The grammar of scripts by time: the script that the bytes spell, or their first fault, in the order
-- and with the causes of a script without time. `nodes`, `object`, `call`, `commit`, `abort`,
-- `giveup`, `deliver`, `lose`, `drain`, `tell` and `query` are read as there; `begin` and `ask` have
-- a quiesce moment at their end; `tick` and `expire` are new. Every other first word is unknown.
use Rattle.std.specs.Prelude.{ℕ, ◌+◌, Bool, true, false, not, nat_le, List, [], ◌∷◌, ◌++◌, codes, length, Result, Ok, Err, if◌then◌else◌}
use Rattle.cam_words.specs.declared.fault.ScriptFault.{ScriptFault}
use Rattle.cam_words.specs.declared.fault.ScriptFault.TheVariants.{Bad}
use Rattle.cam_words.specs.declared.cause.Cause.TheVariants as causes
use Rattle.cam_words.specs.declared.word.Word.{Word}
use Rattle.cam_words.specs.Lines.{bad_byte, lines_of}
use Rattle.cam_words.specs.Words.{◌>>=◌, or_refuse, refuse_if, next_word, text_of, is_missing, looked_up}
use Rattle.cam_script.specs.declared.Script.{Script}
use Rattle.cam_script.specs.declared.Binding.{Binding}
use Rattle.cam_script.specs.declared.Binding.TheVariants as bindings
use Rattle.cam_script.specs.declared.Form.{Form}
use Rattle.cam_script.specs.declared.Form.TheVariants as lines
use Rattle.cam_script.specs.declared.Section.{Section}
use Rattle.cam_script.specs.declared.Section.TheVariants as sections
use Rattle.cam_script.specs.SoFar.{SoFar, nothing, with_variable_at}
use Rattle.cam_script.specs.Order.{section_of, is_too_many}
use Rattle.cam_script.specs.Grammar.{outside, begins_with_hash, all_allowed, read_end}
use Rattle.cam_timed.specs.declared.TimedAct.{TimedAct}
use Rattle.cam_timed.specs.declared.TimedStep.{TimedStep}
use Rattle.cam_timed.specs.declared.TimedScript.{TimedScript}
use Rattle.cam_timed.specs.declared.forms.TimedForm.{TimedForm}
use Rattle.cam_timed.specs.declared.forms.TimedForm.TheVariants as forms
use Rattle.cam_timed.specs.declared.reading.TimedSoFar.{TimedSoFar}
use Rattle.cam_timed.specs.TimedLines.{begin_by_time, ask_by_time, timed_act_line}

-- the first words, each with the line that it begins
abbrev pub timed_forms : List (List ℕ × TimedForm)
timed_forms =
    (codes "nodes", forms.Nodes) ∷ (codes "object", forms.Object) ∷ (codes "begin", forms.Begin)
    ∷ (codes "ask", forms.Ask) ∷ (codes "tick", forms.Tick) ∷ (codes "expire", forms.Expire)
    ∷ (codes "call", forms.Untimed lines.Call) ∷ (codes "commit", forms.Untimed lines.Commit)
    ∷ (codes "abort", forms.Untimed lines.Abort) ∷ (codes "giveup", forms.Untimed lines.GiveUp)
    ∷ (codes "deliver", forms.Untimed lines.Deliver) ∷ (codes "lose", forms.Untimed lines.Lose)
    ∷ (codes "drain", forms.Untimed lines.Drain) ∷ (codes "tell", forms.Untimed lines.Tell)
    ∷ (codes "query", forms.Untimed lines.Query) ∷ []

-- before the first line
abbrev pub timed_nothing : TimedSoFar
timed_nothing = record { declared = nothing; steps = [] }

-- After a step come steps; before the first one a line may come as without time.
abbrev pub behind : Section → List TimedStep → Section
behind section [] = section
behind section (step ∷ steps) = sections.AtSteps

-- where a line may come
abbrev pub timed_section : TimedSoFar → Section
timed_section d = behind (section_of d.declared) d.steps

-- First comes `nodes`, once; `object` comes before every step.
abbrev pub timed_may_stand : Section → TimedForm → Bool
timed_may_stand sections.AtNodes forms.Nodes = true
timed_may_stand sections.AtNodes _ = false
timed_may_stand sections.AtDeclarations forms.Nodes = false
timed_may_stand sections.AtDeclarations _ = true
timed_may_stand sections.AtSteps forms.Nodes = false
timed_may_stand sections.AtSteps forms.Object = false
timed_may_stand sections.AtSteps _ = true
timed_may_stand _ _ = false

-- object 65, step 513
abbrev pub is_timed_full : TimedSoFar → TimedForm → ℕ → List ℕ → Bool
is_timed_full d forms.Nodes at line = false
is_timed_full d forms.Object at line = is_too_many d.declared lines.Object at line
is_timed_full d _ at line = nat_le 512 (length d.steps)

-- with other declarations
abbrev pub declaring : TimedSoFar → SoFar → TimedSoFar
declaring d declared = record d { declared = declared }

-- after a declaration
abbrev pub declares : TimedSoFar → SoFar → Result TimedSoFar ScriptFault
declares d declared = Ok (declaring d declared)

-- after a step that binds no variable, in the line of this number
abbrev pub with_timed : TimedSoFar → ℕ → TimedAct → TimedSoFar
with_timed d number act =
    record d { steps = d.steps ++ record { line = number; act = act } ∷ [] }

-- after a step that binds this variable
abbrev pub with_bound : TimedSoFar → ℕ → List ℕ → Binding → TimedAct → TimedSoFar
with_bound d number name binding act =
    with_timed (declaring d (with_variable_at d.declared name (length d.steps) binding)) number act

-- after a step, by what its line says
abbrev pub timed_step : TimedSoFar → ℕ → TimedAct → Result TimedSoFar ScriptFault
timed_step d number act = Ok (with_timed d number act)

-- and after one that binds the variable of this word
abbrev pub timed_bound :
    TimedSoFar → Binding → ℕ → List ℕ → Word × TimedAct → Result TimedSoFar ScriptFault
timed_bound d binding number line said =
    Ok (with_bound d number (text_of said.0 line) binding said.1)

-- after a line that declares, which is read as without time
abbrev pub declared_by : TimedSoFar → Form → ℕ → ℕ → List ℕ → Result TimedSoFar ScriptFault
declared_by d form number at line =
    outside d.declared form number at line >>= declares d

-- what is kept after a line of this form
abbrev pub read_form : TimedSoFar → TimedForm → ℕ → ℕ → List ℕ → Result TimedSoFar ScriptFault
read_form d forms.Nodes number at line = declared_by d lines.Nodes number at line
read_form d forms.Object number at line = declared_by d lines.Object number at line
read_form d forms.Begin number at line =
    begin_by_time d.declared number at line >>= timed_bound d bindings.Begin number line
read_form d forms.Ask number at line =
    ask_by_time d.declared number at line >>= timed_bound d bindings.Ask number line
read_form d form number at line =
    timed_act_line d.declared form number at line >>= timed_step d number

-- a line whose first word is this one
unfoldable pub with_first_word : TimedSoFar → ℕ → Word → List ℕ → Result TimedSoFar ScriptFault
with_first_word d number first line = do
  form ← or_refuse (looked_up timed_forms (text_of first line)) number first.start causes.UnknownWord
  placed ← refuse_if (not (timed_may_stand (timed_section d) form)) number first.start causes.Misplaced
  room ← refuse_if (is_timed_full d form first.end line) number first.start causes.TooMany
  read_form d form number first.end line

-- A line without words, or whose first word begins with `#`, is skipped.
abbrev pub by_first_word : TimedSoFar → ℕ → Word → List ℕ → Result TimedSoFar ScriptFault
by_first_word d number first line =
    if is_missing first then Ok d
    else if begins_with_hash (text_of first line) then Ok d
    else with_first_word d number first line

-- what is kept after a line
unfoldable pub read_timed_line : TimedSoFar → ℕ → List ℕ → Result TimedSoFar ScriptFault
read_timed_line d number line = do
  allowed ← all_allowed (bad_byte 0 line) number
  by_first_word d number (next_word 0 line) line

-- the script, with its declarations
abbrev pub with_declarations : List TimedStep → Script → Result TimedScript ScriptFault
with_declarations steps script = Ok (record { script = script; steps = steps })

-- the script at the end, if the line of this number is the one after the last
abbrev pub read_timed_end : TimedSoFar → ℕ → Result TimedScript ScriptFault
read_timed_end d number = read_end d.declared number >>= with_declarations d.steps

-- the script of these lines, the first of which has this number, after what was read so far
abbrev pub read_timed_lines : TimedSoFar → ℕ → List (List ℕ) → Result TimedScript ScriptFault
read_timed_lines d number [] = read_timed_end d number
read_timed_lines d number (line ∷ lines) =
    read_timed_line d number line >>= λ next. read_timed_lines next (number + 1) lines

-- the script by time that the bytes spell, or the first fault
abbrev pub read_timed : List ℕ → Result TimedScript ScriptFault
read_timed bytes =
    if nat_le (length bytes) 262144 then read_timed_lines timed_nothing 1 (lines_of bytes)
    else Err (Bad 1 1 causes.TooLong)
