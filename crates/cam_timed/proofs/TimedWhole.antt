-- The headline of runs by time, put together.
use Rattle.std.proofs.Common.{◌≡◌, ℕ, Bool, true, false, List, None, length, if◌then◌else◌, refl}
use Rattle.std.specs.Prelude.{nat_le, Result, Ok, Err, IfOk}
use Rattle.std.proofs.lemmas.Bool.{false_from_ne_true}
use Rattle.cam_event.specs.declared.Event.{Event}
use Rattle.cam_event.specs.History.{informed}
use Rattle.cam_event.specs.Pasts.{plain_all, every}
use Rattle.cam_type.specs.declared.ObjectDecl.{ObjectDecl}
use Rattle.cam_plain.specs.Legal.{Legal}
use Rattle.cam_plain.proofs.Deciding.{one_outcome, informed_committed, informed_aborted}
use Rattle.cam_serial.proofs.Laws.{replay, view_is_covered}
use Rattle.cam_cut.proofs.Holds.{every_closed}
use Rattle.cam_words.specs.declared.fault.ScriptFault.{ScriptFault}
use Rattle.cam_words.specs.declared.fault.ScriptFault.TheVariants.{Bad}
use Rattle.cam_words.specs.declared.cause.Cause.TheVariants as causes
use Rattle.cam_words.specs.Lines.{lines_of}
use Rattle.cam_timed.specs.declared.TimedScript.{TimedScript}
use Rattle.cam_timed.specs.Moments.{events}
use Rattle.cam_timed.specs.TimedRuns.{IsTimedRun}
use Rattle.cam_timed.specs.TimedScripts.{timed_run}
use Rattle.cam_timed.specs.TimedRange.{IsTimedInRange}
use Rattle.cam_timed.specs.TimedGrammar.{timed_nothing, read_timed_lines}
use Rattle.cam_timed.specs.TimedHeadline.{HasTimedRun, TimedHeadline}
use Rattle.cam_timed.proofs.Laws.{timed_sets_are_legal}
use Rattle.cam_timed.proofs.ScriptRuns.{scripts_make_runs, each_script_view}
use Rattle.cam_timed.proofs.TimedAccepts.{gives_script}

-- the run of a script in range
has_timed_run : (script : TimedScript) → IsTimedInRange script → HasTimedRun script
has_timed_run script range = record {
  is_run = run;
  legal = legal;
  committed = replay objects (plain_all t) None legal;
  kept = view_is_covered objects (plain_all t) None legal;
  views = each_script_view script range;
  agree = λ s r a commits.
      false_from_ne_true (informed (plain_all t) r a false) (λ aborts.
      one_outcome objects (plain_all t) a legal
      (informed_committed objects (plain_all t) s a legal commits)
      (informed_aborted objects (plain_all t) r a legal aborts));
}
  where
    objects : List ObjectDecl
    objects = script.script.objects

    t : List Event
    t = events (timed_run script).trace

    run : IsTimedRun objects (timed_run script).trace
    run = scripts_make_runs script range

    legal : Legal objects (plain_all t)
    legal = timed_sets_are_legal objects (timed_run script).trace every run (every_closed t)

-- of a script that these lines spell
of_lines : (lines : List (List ℕ)) → IfOk (read_timed_lines timed_nothing 1 lines) HasTimedRun
of_lines lines = by (read_timed_lines timed_nothing 1 lines) refl
  where
    by : (read : Result TimedScript ScriptFault) → read_timed_lines timed_nothing 1 lines ≡ read
        → IfOk read HasTimedRun
    by (Ok script) is = has_timed_run script (gives_script lines (Ok script) is).in_range
    by (Err fault) is = tt

pub timed_headline_holds : TimedHeadline
timed_headline_holds bytes = by (nat_le (length bytes) 262144)
  where
    by : (short : Bool)
        → IfOk
        (if short then read_timed_lines timed_nothing 1 (lines_of bytes)
        else Err (Bad 1 1 causes.TooLong))
        HasTimedRun
    by true = of_lines (lines_of bytes)
    by false = tt
