-- What the steps of a script by time say that are read as without time: each is in range.
use Rattle.std.proofs.Common.{◌≡◌, ℕ, true, List, Some, None, length, arith}
use Rattle.std.specs.Prelude.{Result, Ok, Err}
use Rattle.cam_type.specs.declared.ObjectDecl.{ObjectDecl}
use Rattle.cam_type.specs.Objects.{is_fit}
use Rattle.cam_words.specs.declared.fault.ScriptFault.{ScriptFault}
use Rattle.cam_words.specs.declared.cause.Cause.TheVariants as causes
use Rattle.cam_words.specs.Words.{next_word, text_of, end_at, place_of}
use Rattle.cam_words.specs.Numbers.{node_at, value_at, declared_at}
use Rattle.cam_script.specs.declared.Act.{Act}
use Rattle.cam_script.specs.declared.Act.TheVariants as untimed
use Rattle.cam_script.specs.declared.Form.{Form}
use Rattle.cam_script.specs.declared.Form.TheVariants as lines
use Rattle.cam_script.specs.declared.Use.TheVariants as uses
use Rattle.cam_script.specs.SoFar.{SoFar}
use Rattle.cam_script.specs.Operations.{kind_at, op_at, as_op}
use Rattle.cam_script.specs.Variables.{variable_at}
use Rattle.cam_script.specs.Steps.{call_line, commit_line, abort_line, giveup_line, go_line, deliver_line, cut_line, lose_line, restart_line, drain_line, play_line, tell_line, query_line, stop_line}
use Rattle.cam_script.specs.Grammar.{act_line}
use Rattle.cam_script.specs.Law.{is_node, may_use, act_holds}
use Rattle.cam_script.proofs.Holds.{Holds, IfThere, then_holds, then_any, read_there}
use Rattle.cam_script.proofs.Appended.{left, right}
use Rattle.cam_script.proofs.Readers.{node_there, declared_holds, place_below, op_holds_at}
use Rattle.cam_script.proofs.StepLines.{Fits, object_op, deliver_fits, cut_fits, lose_fits, restart_fits, drain_fits, play_fits, tell_fits, stop_fits}
use Rattle.cam_timed.specs.declared.TimedStep.{TimedStep}
use Rattle.cam_timed.specs.TimedRange.{ActInRange}
use Rattle.cam_timed.specs.TimedLines.{with_time, untimed_line}
use Rattle.cam_timed.proofs.Placed.{node_in_range, site_in_range, IsPlaced}

-- Steps that are read as without time: what a script by time has of them is in range.
abbrev Serves : List ObjectDecl → List TimedStep → Act → Type 0
Serves objects steps act = IfThere (ActInRange objects steps) (with_time act)

serves :
    (d : SoFar) (steps : List TimedStep) → IsPlaced d → (act : Act)
    → act_holds d.script.nodes d.script.objects (length d.script.bodies) d.script.steps act ≡ true
    → Serves d.script.objects steps act
serves d steps is (untimed.Begin node) h = tt
serves d steps is (untimed.Start node body) h = tt
serves d steps is (untimed.Ask parent node) h = tt
serves d steps is (untimed.Call action object op) h =
    let fit =
    right (may_use d.script.steps uses.Request action) (is_fit d.script.objects object op) h in
    (fit, site_in_range d.script.nodes d.script.objects object op is.eight is.placed fit)
serves d steps is (untimed.Commit action value) h = tt
serves d steps is (untimed.Abort action) h = tt
serves d steps is (untimed.GiveUp action child) h = tt
serves d steps is (untimed.Go action) h = tt
serves d steps is (untimed.Deliver letter) h = tt
serves d steps is (untimed.Cut letter bytes) h = tt
serves d steps is (untimed.Lose letter) h = tt
serves d steps is (untimed.Restart node) h = tt
serves d steps is untimed.Drain h = tt
serves d steps is untimed.Play h = tt
serves d steps is (untimed.Tell node to) h =
    let from = left (is_node d.script.nodes node) (is_node d.script.nodes to) h in
    let there = right (is_node d.script.nodes node) (is_node d.script.nodes to) h in (
      node_in_range d.script.nodes node is.eight from,
      node_in_range d.script.nodes to is.eight there,
    )
serves d steps is (untimed.Query node action) h =
    node_in_range d.script.nodes node is.eight
    (left (is_node d.script.nodes node) (may_use d.script.steps uses.Query action) h)
serves d steps is (untimed.Stop node calls) h = tt

fits_serve :
    (d : SoFar) (steps : List TimedStep) → IsPlaced d → (x : Result Act ScriptFault)
    → Holds (Fits d None 1) x → Holds (Serves d.script.objects steps) x
fits_serve d steps is (Ok act) fits = serves d steps is act fits.holds
fits_serve d steps is (Err fault) fits = tt

call_serves :
    (d : SoFar) (steps : List TimedStep) → IsPlaced d → (number at : ℕ) (line : List ℕ)
    → Holds (Serves d.script.objects steps) (call_line d number at line)
unfolding call_line
call_serves d steps is number at line =
    then_any _ (variable_at uses.Request d.variables number at line) _ (λ action.
    then_holds (λ r. place_of d.script.labels (text_of (next_word action.1 line) line) ≡ Some r.0) _
    (declared_at d.script.labels number action.1 line) _
    (declared_holds d.script.labels number action.1 line) (λ object k.
    then_holds _ _ (op_at value_at (kind_at d.script.objects object.0) number object.1 line) _
    (op_holds_at (kind_at d.script.objects object.0) number object.1 line) (λ op f.
    then_any _ (end_at number op.1 line) _ (λ _.
    let below = place_below d.script.labels (text_of (next_word action.1 line) line) object.0 k in
    let same = is.labels in
    let fit = object_op d.script.objects object.0 (as_op op.0) (omega (arith, below, same)) f in (
      fit,
      site_in_range d.script.nodes d.script.objects object.0 (as_op op.0) is.eight is.placed fit,
    )))))

commit_serves :
    (d : SoFar) (steps : List TimedStep) (number at : ℕ) (line : List ℕ)
    → Holds (Serves d.script.objects steps) (commit_line d number at line)
unfolding commit_line
commit_serves d steps number at line =
    then_any _ (variable_at uses.Request d.variables number at line) _ (λ action.
    then_any _ (value_at number action.1 line) _ (λ value.
    then_any _ (end_at number value.1 line) _ (λ _. tt)))

abort_serves :
    (d : SoFar) (steps : List TimedStep) (number at : ℕ) (line : List ℕ)
    → Holds (Serves d.script.objects steps) (abort_line d number at line)
unfolding abort_line
abort_serves d steps number at line =
    then_any _ (variable_at uses.Request d.variables number at line) _ (λ action.
    then_any _ (end_at number action.1 line) _ (λ _. tt))

giveup_serves :
    (d : SoFar) (steps : List TimedStep) (number at : ℕ) (line : List ℕ)
    → Holds (Serves d.script.objects steps) (giveup_line d number at line)
unfolding giveup_line
giveup_serves d steps number at line =
    then_any _ (variable_at uses.Request d.variables number at line) _ (λ action.
    then_any _ (variable_at uses.Request d.variables number action.1 line) _ (λ child.
    then_any _ (end_at number child.1 line) _ (λ _. tt)))

go_serves :
    (d : SoFar) (steps : List TimedStep) (number at : ℕ) (line : List ℕ)
    → Holds (Serves d.script.objects steps) (go_line d number at line)
unfolding go_line
go_serves d steps number at line =
    then_any _ (variable_at uses.Go d.variables number at line) _ (λ action.
    then_any _ (end_at number action.1 line) _ (λ _. tt))

query_serves :
    (d : SoFar) (steps : List TimedStep) → IsPlaced d → (number at : ℕ) (line : List ℕ)
    → Holds (Serves d.script.objects steps) (query_line d number at line)
unfolding query_line
query_serves d steps is number at line =
    then_holds _ _ (node_at d.script.nodes number at line) _
    (node_there d.script.nodes number at line) (λ node h.
    then_any _ (variable_at uses.Query d.variables number node.1 line) _ (λ action.
    then_any _ (end_at number action.1 line) _
    (λ _. node_in_range d.script.nodes node.0 is.eight h.0)))

act_serves :
    (d : SoFar) (steps : List TimedStep) → IsPlaced d
    → (form : Form) (number at : ℕ) (line : List ℕ)
    → Holds (Serves d.script.objects steps) (act_line d form number at line)
act_serves d steps is lines.Call number at line = call_serves d steps is number at line
act_serves d steps is lines.Commit number at line = commit_serves d steps number at line
act_serves d steps is lines.Abort number at line = abort_serves d steps number at line
act_serves d steps is lines.GiveUp number at line = giveup_serves d steps number at line
act_serves d steps is lines.Go number at line = go_serves d steps number at line
act_serves d steps is lines.Deliver number at line =
    fits_serve d steps is (deliver_line number at line) (deliver_fits d number at line)
act_serves d steps is lines.Cut number at line =
    fits_serve d steps is (cut_line number at line) (cut_fits d number at line)
act_serves d steps is lines.Lose number at line =
    fits_serve d steps is (lose_line number at line) (lose_fits d number at line)
act_serves d steps is lines.Restart number at line =
    fits_serve d steps is (restart_line d number at line) (restart_fits d number at line)
act_serves d steps is lines.Drain number at line =
    fits_serve d steps is (drain_line number at line) (drain_fits d number at line)
act_serves d steps is lines.Play number at line =
    fits_serve d steps is (play_line number at line) (play_fits d number at line)
act_serves d steps is lines.Tell number at line =
    fits_serve d steps is (tell_line d number at line) (tell_fits d number at line)
act_serves d steps is lines.Query number at line = query_serves d steps is number at line
act_serves d steps is lines.Stop number at line =
    fits_serve d steps is (stop_line d number at line) (stop_fits d number at line)
act_serves d steps is _ number at line = tt

pub untimed_in_range :
    (d : SoFar) (steps : List TimedStep) → IsPlaced d
    → (form : Form) (number at : ℕ) (line : List ℕ)
    → Holds (ActInRange d.script.objects steps) (untimed_line d form number at line)
unfolding untimed_line
untimed_in_range d steps is form number at line =
    then_holds (Serves d.script.objects steps) _ (act_line d form number at line) _
    (act_serves d steps is form number at line) (λ act h.
    read_there (ActInRange d.script.objects steps) (with_time act) number 0 causes.Misplaced h)
