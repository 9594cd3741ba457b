-- What holds of all that the lines of a script by time say: each is in range.
use Rattle.std.proofs.Common.{◌≡◌, ℕ, true, List, Option, Some, None, refl}
use Rattle.std.specs.Prelude.{slice_get, option_and_then}
use Rattle.cam_words.specs.declared.cause.Cause.TheVariants as causes
use Rattle.cam_words.specs.declared.word.Word.{Word}
use Rattle.cam_words.specs.Words.{or_refuse, text_of, word_at, end_at, place_of}
use Rattle.cam_words.specs.Numbers.{node_at, new_name_at}
use Rattle.cam_script.specs.declared.Binding.{Binding}
use Rattle.cam_script.specs.declared.Binding.TheVariants as bindings
use Rattle.cam_script.specs.declared.Use.TheVariants as uses
use Rattle.cam_script.specs.SoFar.{SoFar, Variable, variable_names}
use Rattle.cam_script.specs.Variables.{against, variable_of, usable, variable_at}
use Rattle.cam_script.proofs.Holds.{Holds, IfThere, then_holds, then_any, read_there}
use Rattle.cam_script.proofs.Readers.{node_there}
use Rattle.cam_timed.specs.declared.TimedStep.{TimedStep}
use Rattle.cam_timed.specs.declared.forms.TimedForm.{TimedForm}
use Rattle.cam_timed.specs.declared.forms.TimedForm.TheVariants as forms
use Rattle.cam_timed.specs.TimedRange.{is_begin, begins_at, ActInRange}
use Rattle.cam_timed.specs.TimedLines.{moment_word, begin_by_time, ask_by_time, tick_line, expire_line, timed_act_line}
use Rattle.cam_timed.proofs.Placed.{node_in_range, IsPlaced}
use Rattle.cam_timed.proofs.UntimedRanges.{untimed_in_range}

-- Each variable of a begin stands for one.
abbrev pub AreBegun : List Variable → List TimedStep → Type 0
AreBegun variables steps =
    (i : ℕ) (v : Variable) → slice_get variables i ≡ Some v → v.binding ≡ bindings.Begin → begins_at steps v.step ≡ true

abbrev IsBegun : List TimedStep → Variable → Type 0
IsBegun steps v = v.binding ≡ bindings.Begin → begins_at steps v.step ≡ true

begun_at : (variables : List Variable) (steps : List TimedStep) (i : ℕ) (o : Option Variable) → slice_get variables i ≡ o → AreBegun variables steps → IfThere (IsBegun steps) o
begun_at variables steps i (Some v) e begun = begun i v e
begun_at variables steps i None e begun = tt

begun_there : (variables : List Variable) (steps : List TimedStep) → AreBegun variables steps → (o : Option ℕ) → IfThere (IsBegun steps) (option_and_then (λ place. slice_get variables place) o)
begun_there variables steps begun (Some i) = begun_at variables steps i (slice_get variables i) refl begun
begun_there variables steps begun None = tt

usable_begun : (steps : List TimedStep) (b : Binding) (step number : ℕ) (word : Word) → (b ≡ bindings.Begin → begins_at steps step ≡ true) → Holds (λ r. begins_at steps r.0 ≡ true) (usable (against uses.Begun b) step number word)
usable_begun steps bindings.Begin step number word h = h refl
usable_begun steps bindings.Start step number word h = tt
usable_begun steps bindings.Ask step number word h = tt

begun_holds : (variables : List Variable) (steps : List TimedStep) → AreBegun variables steps → (number at : ℕ) (line : List ℕ) → Holds (λ r. begins_at steps r.0 ≡ true) (variable_at uses.Begun variables number at line)
unfolding variable_at
begun_holds variables steps begun number at line =
    then_any _ (word_at number at line) _ (λ word.
    then_holds (IsBegun steps) _ (or_refuse (variable_of variables (text_of word line)) number word.start causes.Undeclared) _
    (read_there (IsBegun steps) (variable_of variables (text_of word line)) number word.start causes.Undeclared (begun_there variables steps begun (place_of (variable_names variables) (text_of word line))))
    (λ v h. usable_begun steps v.binding v.step number word h))

-- The lines with a quiesce moment, `tick` and `expire`.
pub begin_in_range : (d : SoFar) (steps : List TimedStep) → IsPlaced d → (number at : ℕ) (line : List ℕ) → Holds (λ said. ActInRange d.script.objects steps said.1 × (is_begin said.1 ≡ true)) (begin_by_time d number at line)
unfolding begin_by_time
begin_in_range d steps is number at line =
    then_any _ (new_name_at (variable_names d.variables) number at line) _ (λ name.
    then_holds _ _ (node_at d.script.nodes number name.end line) _ (node_there d.script.nodes number name.end line) (λ node h.
    then_any _ (moment_word number node.1 line) _ (λ until.
    then_any _ (end_at number until.1 line) _ (λ _. (node_in_range d.script.nodes node.0 is.eight h.0, refl)))))

pub ask_in_range : (d : SoFar) (steps : List TimedStep) → IsPlaced d → (number at : ℕ) (line : List ℕ) → Holds (λ said. ActInRange d.script.objects steps said.1) (ask_by_time d number at line)
unfolding ask_by_time
ask_in_range d steps is number at line =
    then_any _ (variable_at uses.Request d.variables number at line) _ (λ parent.
    then_any _ (new_name_at (variable_names d.variables) number parent.1 line) _ (λ name.
    then_holds _ _ (node_at d.script.nodes number name.end line) _ (node_there d.script.nodes number name.end line) (λ node h.
    then_any _ (moment_word number node.1 line) _ (λ until.
    then_any _ (end_at number until.1 line) _ (λ _. node_in_range d.script.nodes node.0 is.eight h.0)))))

tick_in_range : (d : SoFar) (steps : List TimedStep) → IsPlaced d → (number at : ℕ) (line : List ℕ) → Holds (ActInRange d.script.objects steps) (tick_line d number at line)
unfolding tick_line
tick_in_range d steps is number at line =
    then_holds _ _ (node_at d.script.nodes number at line) _ (node_there d.script.nodes number at line) (λ node h.
    then_any _ (moment_word number node.1 line) _ (λ moment.
    then_any _ (end_at number moment.1 line) _ (λ _. node_in_range d.script.nodes node.0 is.eight h.0)))

expire_in_range : (d : SoFar) (steps : List TimedStep) → AreBegun d.variables steps → (number at : ℕ) (line : List ℕ) → Holds (ActInRange d.script.objects steps) (expire_line d number at line)
unfolding expire_line
expire_in_range d steps begun number at line =
    then_holds _ _ (variable_at uses.Begun d.variables number at line) _ (begun_holds d.variables steps begun number at line) (λ action h.
    then_any _ (end_at number action.1 line) _ (λ _. h))

-- each step that binds no variable
pub act_in_range : (d : SoFar) (steps : List TimedStep) → IsPlaced d → AreBegun d.variables steps → (form : TimedForm) (number at : ℕ) (line : List ℕ) → Holds (ActInRange d.script.objects steps) (timed_act_line d form number at line)
act_in_range d steps is begun forms.Tick number at line = tick_in_range d steps is number at line
act_in_range d steps is begun forms.Expire number at line = expire_in_range d steps begun number at line
act_in_range d steps is begun (forms.Untimed form) number at line = untimed_in_range d steps is form number at line
act_in_range d steps is begun _ number at line = tt
