-- A line that is refused: both readings refuse it, and it comes to no more.
use Rattle.std.proofs.Common.{◌≡◌, ℕ, List, length, Some, sym, ap, ◌∙◌}
use Rattle.std.specs.Prelude.{slice_get}
use Rattle.std.proofs.lemmas.Option.{none-some, same_Some}
use Rattle.cam_event.specs.declared.LineRefusal.{LineRefusal}
use Rattle.cam_event.specs.Readings.{by_knowledge, by_pasts}
use Rattle.cam_node.specs.Log.{Logged}
use Rattle.cam_runs.specs.Halts.{Halt, given}
use Rattle.cam_runs.specs.HaltedLines.{Led, Passed, Refused, act}
use Rattle.cam_runs.proofs.HaltedWhole.{halted_lines_agree}
use Rattle.cam_runs.proofs.Range.{script_in_range}
use Rattle.cam_script.specs.declared.Step.{Step}
use Rattle.cam_histories.specs.Lines.{line_refusal, refused_by}
use Rattle.cam_histories.proofs.Lines.{lines_are_tested}
use Rattle.cam_cluster.specs.Between.{KeepsBetween}
use Rattle.cam_cluster.specs.Seen.{Seen, later_steps, setting_in}
use Rattle.cam_cluster.specs.SoFar.{LinesFields}

-- both readings refuse the same
pub refusals_agree : (seen : Seen) (lines : LinesFields) (may : ℕ → Logged → Type 0) (step : Step)
    (all : List Halt) → KeepsBetween seen lines may
    → slice_get seen.script.steps (length seen.standing.running.bound) ≡ Some step
    → line_refusal (by_knowledge seen.script.objects) seen.standing step.act
    ≡ line_refusal (by_pasts seen.script.objects) seen.standing step.act
refusals_agree seen lines may step all keeps next =
    sym
    (lines_are_tested (setting_in by_knowledge seen all step) seen.script.bodies seen.standing
    step.act)
    ∙ ap refused_by
    (halted_lines_agree seen.script seen.standing step (given all) (later_steps seen)
    (script_in_range seen.script keeps.is_script) keeps.keeps.runs.under next)
    ∙ lines_are_tested (setting_in by_pasts seen all step) seen.script.bodies seen.standing
    step.act

-- what a line comes to that is refused
pub by_refusal : (p : Passed) (refusal : LineRefusal) → refused_by p ≡ Some refusal
    → p ≡ Refused refusal
by_refusal (Refused r) refusal is = ap Refused (same_Some r refusal is)
by_refusal (Led new binds) refusal is = absurd (none-some refusal is)

pub refused_step : (seen : Seen) (step : Step) (refusal : LineRefusal)
    → line_refusal (by_knowledge seen.script.objects) seen.standing step.act ≡ Some refusal
    → act (setting_in by_knowledge seen seen.halts step) seen.script.bodies seen.standing step.act
    ≡ Refused refusal
refused_step seen step refusal test =
    by_refusal _ _ (lines_are_tested (setting_in by_knowledge seen seen.halts step)
    seen.script.bodies seen.standing step.act ∙ test)
