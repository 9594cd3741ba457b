-- The headline of runs by time, from the bytes of a script to the views of its actions.
--
-- For all bytes that spell a script by time its run is a run by time; each action in it, whatever
-- became of its ancestors, has its view in a legal history in which it is no orphan; committed top
-- actions replay serially in order of their commits, in a list that has what each got; and no two
-- nodes were informed of different outcomes.
use Rattle.std.specs.Prelude.{◌≡◌, ℕ, true, false, List, None, IfOk}
use Rattle.cam_names.specs.declared.name.Name.{Name}
use Rattle.cam_event.specs.History.{informed}
use Rattle.cam_event.specs.Pasts.{plain_all}
use Rattle.cam_plain.specs.Legal.{Legal}
use Rattle.cam_serial.specs.Serial.{serial, all_committed, Replays, Covers}
use Rattle.cam_timed.specs.declared.TimedScript.{TimedScript}
use Rattle.cam_timed.specs.Moments.{events}
use Rattle.cam_timed.specs.TimedRuns.{IsTimedRun}
use Rattle.cam_timed.specs.TimedScripts.{timed_run}
use Rattle.cam_timed.specs.TimedGrammar.{read_timed}
use Rattle.cam_timed.specs.Law.{ViewsAreSound}

-- What holds of the run by time of a script.
pub record HasTimedRun (script : TimedScript) : Type 0 where
  -- It is a run by time: each event is the next one by the rules, for an input that may come then.
  pub is_run : IsTimedRun script.script.objects (timed_run script).trace
  -- The deeds of all its events are a legal history of plain nested transactions.
  pub legal : Legal script.script.objects (plain_all (events (timed_run script).trace))
  -- The operations of committed top actions replay in order of the commits.
  pub committed :
      Replays script.script.objects
      (serial script.script.objects (plain_all (events (timed_run script).trace)) None)
  -- Each answer that an action got which has committed with all its ancestors is that of its
  -- operation in this list.
  pub kept :
      (a : Name) → all_committed (plain_all (events (timed_run script).trace)) a ≡ true
      → Covers
      (serial script.script.objects (plain_all (events (timed_run script).trace)) None)
      (plain_all (events (timed_run script).trace)) a
  -- Each action that was created in it has its view in a legal history in which it is no orphan,
  -- and whose serial list for it replays and has each answer that it got.
  pub views : ViewsAreSound script
  -- No two nodes were informed of different outcomes of an action.
  pub agree :
      (s r : ℕ) (a : Name)
      → informed (plain_all (events (timed_run script).trace)) s a true ≡ true
      → informed (plain_all (events (timed_run script).trace)) r a false ≡ false

-- So it is of all bytes that the grammar accepts.
abbrev pub TimedHeadline : Type 0
TimedHeadline = (bytes : List ℕ) → IfOk (read_timed bytes) HasTimedRun
