-- The course of a script in range, place by place: what is left to do leads to the script's run,
-- and variables of begins stand for top actions.
use Rattle.std.proofs.Common.{◌≡◌, inl, inr, ◌<◌, ◌≤◌, ℕ, zero, suc, ◌+◌, true, false, List, [], ◌∷◌, ◌++◌, length, drop, get_or, reverse, Option, Some, None, slice_get, refl, sym, ap, ◌∙◌, subst, length-append}
use Rattle.std.specs.Option.{option_map_or}
use Rattle.std.proofs.lemmas.List.{drop_all, drop_more}
use Rattle.std.proofs.lemmas.Option.{same_Some, slice_get-get_or}
use Rattle.cam_names.specs.declared.name.Name.{Name}
use Rattle.cam_names.specs.Names.{is_top}
use Rattle.cam_type.specs.declared.ObjectDecl.{ObjectDecl}
use Rattle.cam_timed.specs.declared.TimedAct.{TimedAct}
use Rattle.cam_timed.specs.declared.TimedAct.TheVariants as acts
use Rattle.cam_timed.specs.declared.TimedEvent.{TimedEvent}
use Rattle.cam_timed.specs.declared.TimedStep.{TimedStep}
use Rattle.cam_timed.specs.declared.TimedScript.{TimedScript}
use Rattle.cam_timed.specs.declared.course.Course.{Course}
use Rattle.cam_timed.specs.Machine.{run_of}
use Rattle.cam_timed.specs.Records.{IsRecordOf}
use Rattle.cam_timed.specs.TimedRange.{is_begin, ActInRange, EachInRange, IsTimedInRange}
use Rattle.cam_timed.specs.TimedRuns.{IsTimedRun}
use Rattle.cam_timed.specs.TimedRunning.{TimedRunning, timed_start, by_time}
use Rattle.cam_timed.specs.TimedScripts.{TimedLineOutcome, Refused, GoesOn, timed_act, after_line, run_steps, timed_run}
use Rattle.cam_timed.specs.Courses.{KeepsRunning, IsCourse, Follows, MayTake}
use Rattle.cam_timed.proofs.ScriptRuns.{IsLed, Bound, bound_at, line_led, slice_snoc}

-- the course of a script at a place
pub record CourseAt (script : TimedScript) (at : ℕ) (c : Course) : Type 0 where
  pub running : TimedRunning
  pub keeps : KeepsRunning script.script.objects running c
  pub rest :
      run_steps (by_time script.script.objects) (drop at script.steps) running ≡ timed_run script
  pub tops : Bound script.steps running.bound
  pub size : length running.bound ≡ at

-- before the first line
pub starts : (script : TimedScript) (c : Course)
    → ((objects : List ObjectDecl) → KeepsRunning objects timed_start c) → CourseAt script 0 c
starts script c keeps =
    record {
      running = timed_start;
      keeps = keeps script.script.objects;
      rest = refl;
      tops = λ v a begins h. cc;
      size = refl;
    }

-- it is the course of some run
pub of_some : (script : TimedScript) (at : ℕ) (c : Course) → CourseAt script at c
    → IsCourse script.script.objects c
of_some script at c course = (course.running, course.keeps)

-- what each line of a script in range owes
line_in_range : (objects : List ObjectDecl) (all steps : List TimedStep) (at : ℕ) (step : TimedStep)
    → EachInRange objects all steps → slice_get steps at ≡ Some step
    → ActInRange objects all step.act
line_in_range objects all [] at step range here = cc
line_in_range objects all (s ∷ steps) zero step range here =
    subst (λ (x : TimedStep). ActInRange objects all x.act) (same_Some s step here) range.0
line_in_range objects all (s ∷ steps) (suc at) step range here =
    line_in_range objects all steps at step range.1 here

-- each line may be taken at its place
may : (objects : List ObjectDecl) (steps : List TimedStep) (bound : List (Option Name))
    (act : TimedAct) → Bound steps bound → ActInRange objects steps act → MayTake objects bound act
may objects steps bound (acts.Begin s until) tops range = range
may objects steps bound (acts.Ask p m until) tops range = range
may objects steps bound (acts.Call v x op) tops range = range
may objects steps bound (acts.Commit v value) tops range = tt
may objects steps bound (acts.Abort v) tops range = tt
may objects steps bound (acts.GiveUp v w) tops range = tt
may objects steps bound (acts.Deliver k) tops range = tt
may objects steps bound (acts.Lose k) tops range = tt
may objects steps bound acts.Drain tops range = tt
may objects steps bound (acts.Tell s to) tops range = range
may objects steps bound (acts.Query s v) tops range = range
may objects steps bound (acts.Tick s moment) tops range = range
may objects steps bound (acts.Expire v) tops range =
    λ a is. tops v a range (bound_at (slice_get bound v) a is)

-- one more variable
bound_next : (steps : List TimedStep) (at : ℕ) (step : TimedStep) (bound : List (Option Name))
    (binds : Option Name) → slice_get steps at ≡ Some step → length bound ≡ at
    → (is_begin step.act ≡ true → (a : Name) → binds ≡ Some a → is_top a ≡ true)
    → Bound steps bound → Bound steps (bound ++ binds ∷ [])
bound_next steps at step bound binds here size new old v a begins h =
    elim (slice_snoc bound binds (Some a) v h) [
      | inl before ↦ old v a begins before
      | inr last ↦
          new
          (sym (ap (λ (o : Option TimedStep). option_map_or (λ s. is_begin s.act) o false)
          (ap (slice_get steps) (last.0 ∙ size) ∙ here)) ∙ begins)
          a last.1
    ]

-- what the variables stand for after a line
tops_next : (objects : List ObjectDecl) (steps : List TimedStep) (at : ℕ) (step : TimedStep)
    (r : TimedRunning) (taken : TimedLineOutcome) → slice_get steps at ≡ Some step
    → length r.bound ≡ at → Bound steps r.bound → IsLed objects r step.act taken
    → Bound steps (after_line r step.line taken).bound
    × (length (after_line r step.line taken).bound ≡ at + 1)
tops_next objects steps at step r (Refused refusal) here size tops led = (
  bound_next steps at step r.bound None here size (λ y a h. cc) tops,
  length-append r.bound (None ∷ []) ∙ ap (λ (n : ℕ). n + 1) size,
)
tops_next objects steps at step r (GoesOn running binds) here size tops led = (
  bound_next steps at step running.bound binds here (ap length led.1 ∙ size) led.2
      (subst (Bound steps) (sym led.1) tops),
  length-append running.bound (binds ∷ []) ∙ ap (λ (n : ℕ). n + 1) (ap length led.1 ∙ size),
)

module _ (script : TimedScript) (range : IsTimedInRange script) (items : List TimedStep)
    (same : items ≡ script.steps) (at : ℕ) (none : TimedStep) (below : at < length items)
    (c : Course) (course : CourseAt script at c) where
  abbrev step : TimedStep
  step = get_or items at none

  here : slice_get script.steps at ≡ Some step
  here =
      subst (λ (steps : List TimedStep). slice_get steps at ≡ Some step) same
      (slice_get-get_or items at none below)

  in_range : ActInRange script.script.objects script.steps step.act
  in_range = line_in_range script.script.objects script.steps script.steps at step range here

  -- the line at the place may be taken,
  pub may_take : MayTake script.script.objects c.bound step.act
  may_take =
      subst (λ bound. MayTake script.script.objects bound step.act) (sym course.keeps.bound)
      (may script.script.objects script.steps course.running.bound step.act course.tops in_range)

  -- and the course is then at the next
  pub goes_on : (new : Course)
      → Follows script.script.objects
      (λ r. after_line r step.line (timed_act (by_time script.script.objects) r step.act)) c new
      → CourseAt script (at + 1) new
  goes_on new follows =
      record {
        running = next;
        keeps = follows course.running course.keeps;
        rest =
            sym (ap (λ (steps : List TimedStep).
            run_steps (by_time script.script.objects) steps course.running) left)
            ∙ course.rest;
        tops = tops.0;
        size = tops.1;
      }
    where
      taken : TimedLineOutcome
      taken = timed_act (by_time script.script.objects) course.running step.act

      next : TimedRunning
      next = after_line course.running step.line taken

      left : drop at script.steps ≡ step ∷ drop (at + 1) script.steps
      left =
          subst (λ (steps : List TimedStep). drop at steps ≡ step ∷ drop (at + 1) steps) same
          (drop_more items at none below)

      tops : Bound script.steps next.bound × (length next.bound ≡ at + 1)
      tops =
          tops_next script.script.objects script.steps at step course.running taken here course.size
          course.tops
          (line_led script.script.objects script.steps course.running step.act
          course.keeps.machine.run in_range
          (λ v a begins names.
          course.tops v a begins (bound_at (slice_get course.running.bound v) a names)))

-- at the end it is the run of the script
module _ (script : TimedScript) (items : List TimedStep) (all : items ≡ script.steps) (at : ℕ)
    (over : length items ≤ at) (c : Course) (course : CourseAt script at c)
    (trace : List TimedEvent) (is : reverse trace ≡ run_of c.machine) where
  same : course.running ≡ timed_run script
  same =
      sym (ap (λ (steps : List TimedStep).
      run_steps (by_time script.script.objects) steps course.running)
      (subst (λ (steps : List TimedStep). drop at steps ≡ []) all (drop_all at items over)))
      ∙ course.rest

  -- whose record this is,
  pub made : IsRecordOf script (record { trace = trace; marks = c.marks })
  made =
      record {
        trace = is ∙ course.keeps.machine.trace ∙ ap (λ (r : TimedRunning). r.trace) same;
        marks = course.keeps.marks ∙ ap (λ (r : TimedRunning). r.marks) same;
      }

  -- and a run by time
  pub made_run : IsTimedRun script.script.objects (reverse trace)
  made_run =
      subst (IsTimedRun script.script.objects) (sym (is ∙ course.keeps.machine.trace))
      course.keeps.machine.run
