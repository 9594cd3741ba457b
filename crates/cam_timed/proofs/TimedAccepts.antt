-- Whatever the grammar of scripts by time accepts is a script by time.
use Rattle.std.proofs.Common.{◌≡◌, ◌+◌, ℕ, Bool, true, false, not, List, [], ◌∷◌, ◌++◌, Option, Some, None, length, if◌then◌else◌, refl, ap, subst, arith}
use Rattle.std.specs.Prelude.{◌==◌, nat_le, Result, Ok, Err, IfOk}
use Rattle.cam_type.specs.declared.ObjectDecl.{ObjectDecl}
use Rattle.cam_words.specs.declared.fault.ScriptFault.{ScriptFault}
use Rattle.cam_words.specs.declared.cause.Cause.TheVariants as causes
use Rattle.cam_words.specs.declared.word.Word.{Word}
use Rattle.cam_words.specs.Lines.{bad_byte}
use Rattle.cam_words.specs.Words.{◌>>=◌, refuse, or_refuse, refuse_if, next_word, text_of, is_missing, looked_up}
use Rattle.cam_script.specs.declared.Binding.TheVariants as bindings
use Rattle.cam_script.specs.declared.Form.TheVariants as lines
use Rattle.cam_script.specs.declared.Section.TheVariants as sections
use Rattle.cam_script.specs.declared.Step.{Step}
use Rattle.cam_script.specs.SoFar.{Writing}
use Rattle.cam_script.specs.Declarations.{nodes_line, object_line}
use Rattle.cam_script.specs.Order.{section_by, section_outside, is_full_script, is_too_many_by}
use Rattle.cam_script.specs.Grammar.{outside, begins_with_hash, all_allowed, script_by}
use Rattle.cam_script.specs.Law.{IsScript}
use Rattle.cam_script.specs.Parse.{Gives}
use Rattle.cam_script.proofs.Holds.{Holds, then_holds, then_any, not_refused}
use Rattle.cam_script.proofs.StatementLines.{nodes_hold, object_holds}
use Rattle.cam_script.proofs.Stands.{after_nodes, after_object}
use Rattle.cam_script.proofs.Accepts.{lines_hold}
use Rattle.cam_timed.specs.declared.TimedStep.{TimedStep}
use Rattle.cam_timed.specs.declared.TimedScript.{TimedScript}
use Rattle.cam_timed.specs.declared.forms.TimedForm.{TimedForm}
use Rattle.cam_timed.specs.declared.forms.TimedForm.TheVariants as forms
use Rattle.cam_timed.specs.declared.reading.TimedSoFar.{TimedSoFar}
use Rattle.cam_timed.specs.TimedRange.{EachInRange, IsTimedScript}
use Rattle.cam_timed.specs.TimedLines.{begin_by_time, ask_by_time, timed_act_line}
use Rattle.cam_timed.specs.TimedGrammar.{timed_forms, timed_nothing, behind, timed_section, timed_may_stand, is_timed_full, declares, timed_step, timed_bound, read_form, with_first_word, read_timed_line, with_declarations, read_timed_lines}
use Rattle.cam_timed.proofs.TimedRanges.{begin_in_range, ask_in_range, act_in_range}
use Rattle.cam_timed.proofs.TimedStands.{without_variables, TimedStands, placed, timed_nothing_stands, after_timed, after_bound}

-- What the place of a line says of what comes before it.
nodes_first : (b : Bool) (untimed : List Step) (steps : List TimedStep) → timed_may_stand (behind (if b then sections.AtNodes else section_outside untimed) steps) forms.Nodes ≡ true → b ≡ true
nodes_first true untimed steps h = refl
nodes_first false [] [] h = absurd (grind (arith, h))
nodes_first false (u ∷ us) [] h = absurd (grind (arith, h))
nodes_first false untimed (s ∷ steps) h = absurd (grind (arith, h))

no_step_before : (b : Bool) (untimed : List Step) (steps : List TimedStep) → timed_may_stand (behind (if b then sections.AtNodes else section_outside untimed) steps) forms.Object ≡ true → (b ≡ false) × (steps ≡ [])
no_step_before true untimed [] h = absurd (grind (arith, h))
no_step_before false untimed [] h = (refl, refl)
no_step_before b untimed (s ∷ steps) h = absurd (grind (arith, h))

no_steps_in_range : (objects : List ObjectDecl) (steps : List TimedStep) → steps ≡ [] → EachInRange objects steps steps
no_steps_in_range objects [] e = tt
no_steps_in_range objects (s ∷ steps) e = absurd (grind (arith, e))

-- where a line comes, once it is outside bodies
stands_so : (d : TimedSoFar) (form : TimedForm) → d.declared.writing ≡ None → timed_may_stand (timed_section d) form ≡ true → timed_may_stand (behind (if d.declared.script.nodes == 0 then sections.AtNodes else section_outside d.declared.script.steps) d.steps) form ≡ true
stands_so d form outside h = subst (λ (w : Option Writing). timed_may_stand (behind (section_by d.declared.script.nodes w d.declared.script.steps) d.steps) form ≡ true) outside h

-- Declarations.
nodes_stand : (d : TimedSoFar) (number at : ℕ) (line : List ℕ) → TimedStands d → timed_may_stand (timed_section d) forms.Nodes ≡ true → Holds TimedStands (read_form d forms.Nodes number at line)
nodes_stand d number at line s stand =
    then_holds (λ declared. TimedStands (record d { declared = declared })) TimedStands (outside d.declared lines.Nodes number at line) (declares d)
    (then_holds _ _ (nodes_line number at line) _ (nodes_hold number at line) (λ n h.
    record {
      declared =
          after_nodes (without_variables d.declared) n
          (s.declared.fresh (nodes_first (d.declared.script.nodes == 0) d.declared.script.steps d.steps (stands_so d forms.Nodes s.outside stand))) h.0 h.1;
      no_untimed = s.no_untimed;
      outside = s.outside;
      begun = s.begun;
      range = s.range;
      room = s.room;
    }))
    (λ declared h. h)

object_stand : (d : TimedSoFar) (number at : ℕ) (line : List ℕ) → TimedStands d → timed_may_stand (timed_section d) forms.Object ≡ true → is_timed_full d forms.Object at line ≡ false → Holds TimedStands (read_form d forms.Object number at line)
object_stand d number at line s stand room =
    let before = no_step_before (d.declared.script.nodes == 0) d.declared.script.steps d.steps (stands_so d forms.Object s.outside stand) in
    let free : is_full_script d.declared lines.Object at line ≡ false = subst (λ (w : Option Writing). is_too_many_by w d.declared lines.Object at line ≡ false) s.outside room in
    then_holds (λ declared. TimedStands (record d { declared = declared })) TimedStands (outside d.declared lines.Object number at line) (declares d)
    (then_holds _ _ (object_line d.declared.script.labels d.declared.script.nodes number at line) _ (object_holds d.declared.script.labels d.declared.script.nodes number at line) (λ said h.
    record {
      declared =
          after_object (without_variables d.declared) (text_of said.0 line) said.1 s.declared s.outside s.no_untimed before.0 free h;
      no_untimed = s.no_untimed;
      outside = s.outside;
      begun = s.begun;
      range = no_steps_in_range (d.declared.script.objects ++ said.1 ∷ []) d.steps before.1;
      room = s.room;
    }))
    (λ declared h. h)

-- A line by its form.
step_form_stands : (d : TimedSoFar) (form : TimedForm) (number at : ℕ) (line : List ℕ) → TimedStands d → nat_le 512 (length d.steps) ≡ false → Holds TimedStands (timed_act_line d.declared form number at line >>= timed_step d number)
step_form_stands d form number at line s room =
    then_holds _ TimedStands (timed_act_line d.declared form number at line) (timed_step d number) (act_in_range d.declared d.steps (placed d s) s.begun form number at line) (λ act fits.
    after_timed d number act s room fits)

form_stands : (d : TimedSoFar) (form : TimedForm) (number at : ℕ) (line : List ℕ) → TimedStands d → timed_may_stand (timed_section d) form ≡ true → is_timed_full d form at line ≡ false → Holds TimedStands (read_form d form number at line)
form_stands d forms.Nodes number at line s stand room = nodes_stand d number at line s stand
form_stands d forms.Object number at line s stand room = object_stand d number at line s stand room
form_stands d forms.Begin number at line s stand room =
    then_holds _ TimedStands (begin_by_time d.declared number at line) (timed_bound d bindings.Begin number line) (begin_in_range d.declared d.steps (placed d s) number at line) (λ said fits.
    after_bound d number (text_of said.0 line) bindings.Begin said.1 s room fits.0 (λ e. fits.1))
form_stands d forms.Ask number at line s stand room =
    then_holds _ TimedStands (ask_by_time d.declared number at line) (timed_bound d bindings.Ask number line) (ask_in_range d.declared d.steps (placed d s) number at line) (λ said fits.
    after_bound d number (text_of said.0 line) bindings.Ask said.1 s room fits (λ e. absurd (grind (arith, e))))
form_stands d forms.Tick number at line s stand room = step_form_stands d forms.Tick number at line s room
form_stands d forms.Expire number at line s stand room = step_form_stands d forms.Expire number at line s room
form_stands d (forms.Untimed form) number at line s stand room = step_form_stands d (forms.Untimed form) number at line s room

truly : (b : Bool) → not b ≡ false → b ≡ true
truly true h = refl
truly false h = absurd (grind (arith, h))

word_stands : (d : TimedSoFar) (number : ℕ) (first : Word) (line : List ℕ) → TimedStands d → Holds TimedStands (with_first_word d number first line)
unfolding with_first_word
word_stands d number first line s =
    then_any TimedStands (or_refuse (looked_up timed_forms (text_of first line)) number first.start causes.UnknownWord) _ (λ form.
    then_holds (λ _. not (timed_may_stand (timed_section d) form) ≡ false) TimedStands (refuse_if (not (timed_may_stand (timed_section d) form)) number first.start causes.Misplaced) _ (not_refused (not (timed_may_stand (timed_section d) form)) number first.start causes.Misplaced) (λ _ stand.
    then_holds (λ _. is_timed_full d form first.end line ≡ false) TimedStands (refuse_if (is_timed_full d form first.end line) number first.start causes.TooMany) _ (not_refused (is_timed_full d form first.end line) number first.start causes.TooMany) (λ _ room.
    form_stands d form number first.end line s (truly (timed_may_stand (timed_section d) form) stand) room)))

either_stands : (b : Bool) (d : TimedSoFar) (x : Result TimedSoFar ScriptFault) → TimedStands d → Holds TimedStands x → Holds TimedStands (if b then Ok d else x)
either_stands true d x s h = s
either_stands false d x s h = h

line_stands : (d : TimedSoFar) (number : ℕ) (line : List ℕ) → TimedStands d → Holds TimedStands (read_timed_line d number line)
unfolding read_timed_line
line_stands d number line s =
    let first = next_word 0 line in
    then_any TimedStands (all_allowed (bad_byte 0 line) number) _ (λ _.
    either_stands (is_missing first) d (if begins_with_hash (text_of first line) then Ok d else with_first_word d number first line) s
    (either_stands (begins_with_hash (text_of first line)) d (with_first_word d number first line) s (word_stands d number first line s)))

-- The whole.
by_nodes : (b : Bool) (number : ℕ) (d : TimedSoFar) → TimedStands d → Holds IsScript (if b then refuse number 0 causes.Misplaced else Ok d.declared.script) → Holds IsTimedScript ((if b then refuse number 0 causes.Misplaced else Ok d.declared.script) >>= with_declarations d.steps)
by_nodes true number d s h = tt
by_nodes false number d s h =
    record { declarations = h; no_untimed = s.no_untimed; step_limit = s.room; in_range = s.range }

ends : (w : Option Writing) (number : ℕ) (d : TimedSoFar) → TimedStands d → Holds IsScript (script_by w number (without_variables d.declared)) → Holds IsTimedScript (script_by w number d.declared >>= with_declarations d.steps)
ends (Some w) number d s h = tt
ends None number d s h = by_nodes (d.declared.script.nodes == 0) number d s h

lines_stand : (lines : List (List ℕ)) (d : TimedSoFar) (number : ℕ) → TimedStands d → Holds IsTimedScript (read_timed_lines d number lines)
lines_stand [] d number s = ends d.declared.writing number d s (lines_hold [] (without_variables d.declared) number s.declared)
lines_stand (line ∷ lines) d number s =
    then_holds TimedStands IsTimedScript (read_timed_line d number line) _ (line_stands d number line s) (λ next t. lines_stand lines next (number + 1) t)

pub gives_script : (lines : List (List ℕ)) (result : Result TimedScript ScriptFault) → Gives result (read_timed_lines timed_nothing 1 lines) → IfOk result IsTimedScript
gives_script lines (Ok script) e = subst (Holds IsTimedScript) e (lines_stand lines timed_nothing 1 timed_nothing_stands)
gives_script lines (Err fault) e = tt

-- After a line that was read the lines go on with what was read.
pub goes_on : (d next : TimedSoFar) (number : ℕ) (line : List ℕ) (lines : List (List ℕ)) → read_timed_line d number line ≡ Ok next → read_timed_lines d number (line ∷ lines) ≡ read_timed_lines next (number + 1) lines
goes_on d next number line lines e = ap (λ r. r >>= λ n. read_timed_lines n (number + 1) lines) e

pub next_stands : (d next : TimedSoFar) (number : ℕ) (line : List ℕ) → TimedStands d → read_timed_line d number line ≡ Ok next → TimedStands next
next_stands d next number line s e = subst (Holds TimedStands) e (line_stands d number line s)
