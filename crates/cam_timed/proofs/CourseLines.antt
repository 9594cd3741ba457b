-- What a line of a course by time comes to: it is refused, or the event of its input happens.
use Rattle.std.proofs.Common.{◌≡◌, ℕ, List, [], ◌∷◌, ◌++◌, Option, Some, None, refl, sym, ap, ◌∙◌, subst}
use Rattle.cam_names.specs.declared.name.Name.{Name}
use Rattle.cam_names.specs.Names.{family}
use Rattle.cam_type.specs.declared.ObjectDecl.{ObjectDecl}
use Rattle.cam_event.specs.declared.LineRefusal.{LineRefusal}
use Rattle.cam_event.specs.declared.LineRefusal.TheVariants as refusals
use Rattle.cam_event.specs.Inputs.{Queries}
use Rattle.cam_event.specs.Refusals.{query_refusal}
use Rattle.cam_timed.specs.declared.TimedAct.TheVariants as acts
use Rattle.cam_timed.specs.declared.TimedEvent.{TimedEvent}
use Rattle.cam_timed.specs.declared.TimedMark.{TimedMark}
use Rattle.cam_timed.specs.declared.course.Course.{Course}
use Rattle.cam_timed.specs.declared.course.LineOutcome.{LineOutcome}
use Rattle.cam_timed.specs.declared.course.LineOutcome.TheVariants as line_outcomes
use Rattle.cam_timed.specs.declared.machine.Machine.{Machine}
use Rattle.cam_timed.specs.declared.refusing.TimedRefusal.{TimedRefusal}
use Rattle.cam_timed.specs.declared.refusing.TimedRefusal.TheVariants.{Untimed}
use Rattle.cam_timed.specs.Machine.{KeepsTimedRun, run_of}
use Rattle.cam_timed.specs.TimedRefusals.{untimed}
use Rattle.cam_timed.specs.TimedRules.{TimedInput, WithoutTime, timed_next}
use Rattle.cam_timed.specs.TimedRunning.{TimedRunning, by_time, with_event}
use Rattle.cam_timed.specs.TimedRuns.{sight_here}
use Rattle.cam_timed.specs.TimedScripts.{TimedLineOutcome, Refused, GoesOn, timed_act, mark_of, after_line, unless_refused, of_variable, variable, named_in, newest_deeds}
use Rattle.cam_timed.specs.Courses.{KeepsRunning, IsCourse, IsLineOutcome, variable_in}

-- The machine keeps its own events.
pub kept : (objects : List ObjectDecl) (c : Course) → IsCourse objects c
    → KeepsTimedRun objects (run_of c.machine) c.machine
kept objects c some =
    subst (λ t. KeepsTimedRun objects t c.machine) (sym some.1.machine.trace) some.1.machine

module _ (objects : List ObjectDecl) (r : TimedRunning) (c : Course)
    (keeps : KeepsRunning objects r c) where
  -- what is said of the events of the machine is said of those of the run
  pub said : {X : Type 0} (x : X) (f : List TimedEvent → X) → x ≡ f (run_of c.machine)
      → x ≡ f r.trace
  said x f e = e ∙ ap f keeps.machine.trace

  -- a machine with the event of an input keeps the run with it
  pub with_input : (machine : Machine) (input : TimedInput)
      → KeepsTimedRun objects
      (timed_next objects (run_of c.machine) input ∷ run_of c.machine) machine
      → KeepsRunning objects (with_event (by_time objects) r input) (record c { machine = machine })
  with_input machine input put =
      record {
        machine =
            subst (λ t. KeepsTimedRun objects (timed_next objects t input ∷ t) machine)
            keeps.machine.trace put;
        delivered = keeps.delivered;
        lost = keeps.lost;
        first = keeps.first;
        marks = keeps.marks;
        bound = keeps.bound;
      }

  -- a line that something refuses is refused as that says
  pub refused_so : (refusal : TimedRefusal) (o : Option TimedRefusal) (taken : TimedLineOutcome)
      → Some refusal ≡ o
      → IsLineOutcome objects r (unless_refused o taken) c (line_outcomes.Refused refusal)
  refused_so refusal o taken e =
      subst (λ x. IsLineOutcome objects r (unless_refused x taken) c (line_outcomes.Refused refusal)) e
      (refl, keeps)

  -- a line whose variable stands for no action is refused
  pub unbound_so : (v : ℕ) (line : Name → TimedLineOutcome) → None ≡ variable_in c.bound v
      → IsLineOutcome objects r (of_variable (variable r v) line) c
      (line_outcomes.Refused (Untimed refusals.Unbound))
  unbound_so v line e =
      subst
      (λ o. IsLineOutcome objects r (of_variable o line) c (line_outcomes.Refused (Untimed refusals.Unbound)))
      (e ∙ ap (λ bound. variable_in bound v) keeps.bound) (refl, keeps)

  -- else it is that of the action
  pub bound_so : (v : ℕ) (line : Name → TimedLineOutcome) (a : Name) (new : Course) (given : LineOutcome)
      → Some a ≡ variable_in c.bound v → IsLineOutcome objects r (line a) new given
      → IsLineOutcome objects r (of_variable (variable r v) line) new given
  bound_so v line a new given e taken =
      subst (λ o. IsLineOutcome objects r (of_variable o line) new given)
      (e ∙ ap (λ bound. variable_in bound v) keeps.bound) taken

  -- a line that nothing refuses goes on
  pub led_so : (o : Option TimedRefusal) (running : TimedRunning) (binds given : Option Name)
      (new : Course) → None ≡ o → given ≡ binds → KeepsRunning objects running new
      → IsLineOutcome objects r (unless_refused o (GoesOn running binds)) new (line_outcomes.GoesOn given)
  led_so o running binds given new e same stands =
      subst (λ x. IsLineOutcome objects r (unless_refused x (GoesOn running binds)) new (line_outcomes.GoesOn given)) e
      (same, stands)

-- the newest event of a machine is that of the run that it keeps
pub named_so : (objects : List ObjectDecl) (r : TimedRunning) (c : Course) (given : Option Name)
    → KeepsRunning objects r c → given ≡ named_in (newest_deeds (run_of c.machine))
    → given ≡ named_in (newest_deeds r.trace)
named_so objects r c given keeps e =
    said objects r c keeps given (λ t. named_in (newest_deeds t)) e

-- A query goes by the family of its action.
module _ (objects : List ObjectDecl) (r : TimedRunning) (c : Course)
    (keeps : KeepsRunning objects r c) (node v : ℕ) (a f : Name)
    (names : Some a ≡ variable_in c.bound v) (is : f ≡ family a) where
  abbrev against : Name → Option LineRefusal
  against g = query_refusal (sight_here objects r.trace node) g

  abbrev line : Name → TimedLineOutcome
  line b =
      unless_refused (untimed (against (family b)) None)
      (GoesOn (with_event (by_time objects) r (WithoutTime (Queries node (family b)) 0)) None)

  -- what the machine says against it is said against the line
  same_against : (o : Option LineRefusal)
      → o ≡ query_refusal (sight_here objects (run_of c.machine) node) f
      → untimed o None ≡ untimed (against (family a)) None
  same_against o e =
      ap (λ x. untimed x None)
      (said objects r c keeps o (λ t. query_refusal (sight_here objects t node) f) e
      ∙ ap against is)

  pub query_refused : (refusal : LineRefusal)
      → Some refusal ≡ query_refusal (sight_here objects (run_of c.machine) node) f
      → IsLineOutcome objects r (timed_act (by_time objects) r (acts.Query node v)) c
      (line_outcomes.Refused (Untimed refusal))
  query_refused refusal e =
      bound_so objects r c keeps v line a c (line_outcomes.Refused (Untimed refusal)) names
      (refused_so objects r c keeps (Untimed refusal) (untimed (against (family a)) None)
      (GoesOn (with_event (by_time objects) r (WithoutTime (Queries node (family a)) 0)) None)
      (same_against (Some refusal) e))

  pub query_led : (machine : Machine)
      → None ≡ query_refusal (sight_here objects (run_of c.machine) node) f
      → KeepsTimedRun objects
      (timed_next objects (run_of c.machine) (WithoutTime (Queries node f) 0) ∷ run_of c.machine) machine
      → IsLineOutcome objects r (timed_act (by_time objects) r (acts.Query node v))
      (record c { machine = machine }) (line_outcomes.GoesOn None)
  query_led machine e put =
      bound_so objects r c keeps v line a (record c { machine = machine }) (line_outcomes.GoesOn None) names
      (led_so objects r c keeps (untimed (against (family a)) None)
      (with_event (by_time objects) r (WithoutTime (Queries node (family a)) 0)) None None
      (record c { machine = machine }) (same_against None e) refl
      (with_input objects r c keeps machine (WithoutTime (Queries node (family a)) 0)
      (subst (λ g. KeepsTimedRun objects
      (timed_next objects (run_of c.machine) (WithoutTime (Queries node g) 0) ∷ run_of c.machine) machine)
      is put)))

-- what is kept after a line that is refused
pub refused_line : (objects : List ObjectDecl) (r : TimedRunning) (line : ℕ) (taken : TimedLineOutcome)
    (c : Course) (refusal : TimedRefusal) (left : List TimedMark) (bound : List (Option Name))
    → IsLineOutcome objects r taken c (line_outcomes.Refused refusal)
    → left ≡ c.marks ++ mark_of line refusal ∷ [] → bound ≡ c.bound ++ None ∷ []
    → KeepsRunning objects (after_line r line taken) (record c { marks = left; bound = bound })
refused_line objects r line (Refused refusal) c given left bound taken more one =
    record {
      machine = taken.1.machine;
      delivered = taken.1.delivered;
      lost = taken.1.lost;
      first = taken.1.first;
      marks = more ∙ (λ i. taken.1.marks i ++ mark_of line (taken.0 i) ∷ []);
      bound = one ∙ ap (λ bs. bs ++ None ∷ []) taken.1.bound;
    }
refused_line objects r line (GoesOn running binds) c given left bound taken more one = absurd taken

-- and after one that has led on
pub led_line : (objects : List ObjectDecl) (r : TimedRunning) (line : ℕ) (taken : TimedLineOutcome)
    (c : Course) (binds : Option Name) (bound : List (Option Name))
    → IsLineOutcome objects r taken c (line_outcomes.GoesOn binds) → bound ≡ c.bound ++ binds ∷ []
    → KeepsRunning objects (after_line r line taken) (record c { bound = bound })
led_line objects r line (Refused refusal) c given bound taken one = absurd taken
led_line objects r line (GoesOn running binds) c given bound taken one =
    record {
      machine = taken.1.machine;
      delivered = taken.1.delivered;
      lost = taken.1.lost;
      first = taken.1.first;
      marks = taken.1.marks;
      bound = one ∙ (λ i. taken.1.bound i ++ taken.0 i ∷ []);
    }
