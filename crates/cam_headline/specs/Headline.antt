-- The headline, from the bytes of a script to the views of its actions.
--
-- For every script the report is that of the one run that the step rules give, with the halts of
-- its stop lines; for each action, orphan or not, the events before its last event, read as plain
-- nested transactions, are a legal execution in which it is no orphan and has the same view;
-- committed top actions replay serially in order of their commits; and no two nodes hold different
-- outcomes of an action; and what a log recovers that keeps a node's history is what the node kept.
-- So it is whichever inputs are halts.
use Rattle.std.specs.Prelude.{◌≡◌, ◌≤◌, ℕ, Bool, true, false, List, reverse, Some, None, IfOk}
use Rattle.cam_names.specs.declared.name.Name.{Name}
use Rattle.cam_type.specs.declared.ObjectDecl.{ObjectDecl}
use Rattle.cam_know.specs.Known.{knows_abort, knows_commit}
use Rattle.cam_event.specs.declared.Event.{Event}
use Rattle.cam_event.specs.declared.Deed.{Deed}
use Rattle.cam_event.specs.declared.RunRecord.{RunRecord}
use Rattle.cam_event.specs.History.{created}
use Rattle.cam_event.specs.Orphans.{orphan}
use Rattle.cam_event.specs.Views.{view}
use Rattle.cam_event.specs.Pasts.{plain_all}
use Rattle.cam_event.specs.Readings.{by_pasts, by_knowledge}
use Rattle.cam_event.specs.Runs.{IsRun}
use Rattle.cam_event.specs.Taken.{IsRunTaking}
use Rattle.cam_plain.specs.Legal.{Legal}
use Rattle.cam_serial.specs.Serial.{serial, all_committed, Replays, Covers}
use Rattle.cam_cut.specs.Witness.{witness}
use Rattle.cam_delta.specs.Laws.{known_by, node_history}
use Rattle.cam_node.specs.Kept.{IsKept}
use Rattle.cam_node.specs.Log.{Logged, KeepsLog}
use Rattle.cam_script.specs.declared.Script.{Script}
use Rattle.cam_script.specs.Grammar.{read_script}
use Rattle.cam_runs.specs.Running.{Running, has_number}
use Rattle.cam_runs.specs.Run.{run}
use Rattle.cam_runs.specs.Halts.{Halting, by_stops}
use Rattle.cam_runs.specs.Standing.{Standing}
use Rattle.cam_runs.specs.HaltedLines.{run_halting}
use Rattle.cam_runs.specs.HaltedLaws.{IsHaltedRun}
use Rattle.cam_runs.specs.Stops.{HasNoStop}
use Rattle.cam_report.specs.Report.{report}
use Rattle.cam_report.specs.Traces.{trace_text, witness_text}
use Rattle.cam_report.specs.Records.{record_report, record_trace}

-- the run of a script by the pasts of events, in which these inputs are halts; and its events, the
-- newest first
abbrev pub halted_run : Script → Halting → Standing
halted_run script halts = run_halting by_pasts halts script

abbrev pub halted_events : Script → Halting → List Event
halted_events script halts = (halted_run script halts).running.trace

-- the one run of a script: its halts are those that its stop lines make
abbrev pub one_run : Script → Running
one_run script = (halted_run script by_stops).running

abbrev pub events : Script → List Event
events script = halted_events script by_stops

-- the record of a run, as the calls that write texts see it: its events, the oldest first, and its
-- marks
abbrev pub record_of : Running → RunRecord
record_of running = record { trace = reverse running.trace; marks = running.marks }

-- the record that the program has: that of the run by what nodes hold
abbrev pub held_record : Script → Halting → RunRecord
held_record script halts = record_of (run_halting by_knowledge halts script).running

-- What a run owes an action, by the deeds L of the events before the action's last event.
pub record IsPlainFor (objects : List ObjectDecl) (t : List Event) (a : Name) (L : List Deed) : Type 0
  where
    -- The deeds, read as plain nested transactions, are a legal history.
    pub legal : Legal objects L
    -- The action is no orphan in it.
    pub no_orphan : orphan objects L a ≡ None
    -- It has in it the view that it has in the whole run.
    pub same_view : view L a ≡ view (plain_all t) a
    -- The operations of committed top actions in order of their commits, and after them those that
    -- the action may see of its own family, replay one after another from the start states.
    pub replays : Replays objects (serial objects L (Some a))
    -- Each answer that the action got is that of its operation in this list.
    pub covers : Covers (serial objects L (Some a)) L a

-- What each run promises over these objects, whatever made it: that of a script, with halts or
-- without, and that which is gathered from threads.
pub record KeepsPromises (objects : List ObjectDecl) (t : List Event) : Type 0 where
  -- The deeds of all its events are a legal history of plain nested transactions.
  pub legal : Legal objects (plain_all t)
  -- The operations of committed top actions replay in order of the commits.
  pub committed : Replays objects (serial objects (plain_all t) None)
  -- Each answer that an action got which has committed with all its ancestors is that of its
  -- operation in this list.
  pub kept :
      (a : Name) → all_committed (plain_all t) a ≡ true
      → Covers (serial objects (plain_all t) None) (plain_all t) a
  -- Each action that was created in it, orphan or not, has its view in a legal history that
  -- replays.
  pub views :
      (a : Name) → created (plain_all t) a ≡ true → IsPlainFor objects t a (witness t a)
  -- No two nodes hold different outcomes of an action.
  pub agree :
      (s r : ℕ) (a : Name)
      → knows_commit (known_by objects t s) a ≡ true → knows_abort (known_by objects t r) a ≡ false
  -- A log that keeps a node's history gives what the node keeps over a restart.
  pub restarts :
      (s : ℕ) (logged : Logged) → KeepsLog objects s (node_history objects t s) logged
      → IsKept objects t s logged.count logged.know logged.held

-- Each run keeps them,
abbrev pub RunsKeepPromises : Type 0
RunsKeepPromises =
    (objects : List ObjectDecl) (t : List Event) → IsRun objects t → KeepsPromises objects t

-- and so does each run in which nodes halt, with taken events at these positions.
abbrev pub HaltedRunsKeepPromises : Type 0
HaltedRunsKeepPromises =
    (objects : List ObjectDecl) (taken : ℕ → Bool) (t : List Event)
    → IsRunTaking objects taken t → KeepsPromises objects t

-- What holds of the run of a script in which these inputs are halts.
pub record HasHaltedRun (script : Script) (halts : Halting) : Type 0 where
  -- The run by what nodes hold, which the program makes, is the run by the pasts of events: events,
  -- marks and variables, and which nodes are halted.
  pub held : run_halting by_knowledge halts script ≡ halted_run script halts
  -- It is a run: each event is the next one by the step rules, for an input that may come then, or
  -- what was taken of it where its node halted.
  pub is_run : IsHaltedRun script (halted_run script halts)
  -- So it keeps what each run promises.
  pub promises : KeepsPromises script.objects (halted_events script halts)
  -- The report of the record that the program has is the report of this run.
  pub reported :
      record_report script (held_record script halts)
      ≡ report script.objects script.labels (halted_events script halts)
      (halted_run script halts).running.marks
  -- So is its trace, and the text of each witness.
  pub traced :
      record_trace script (held_record script halts)
      ≡ trace_text script.labels (halted_events script halts)
      (halted_run script halts).running.marks
  pub witnessed :
      (a : Name)
      → witness_text script.labels (witness (reverse (held_record script halts).trace) a)
      ≡ witness_text script.labels (witness (halted_events script halts) a)

-- So it is of the one run of a script, of all bytes that the grammar accepts;
abbrev pub HasOneRun : Script → Type 0
HasOneRun script = HasHaltedRun script by_stops

abbrev pub Headline : Type 0
Headline = (bytes : List ℕ) → IfOk (read_script bytes) HasOneRun

-- and whichever inputs are halts, taken or lost.
abbrev pub HaltedHeadline : Type 0
HaltedHeadline =
    (bytes : List ℕ)
    → IfOk (read_script bytes) (λ script. (halts : Halting) → HasHaltedRun script halts)

-- What may be recovered from the disk of a node that is not halted at the end of the one run of a
-- script is what the node kept. `may_recover` is what the disk of each node opens as.
abbrev pub LeavesLogs : Script → (ℕ → Logged → Type 0) → Type 0
LeavesLogs script may_recover =
    (s : ℕ) (logged : Logged) → 1 ≤ s → s ≤ script.nodes
    → has_number (halted_run script by_stops).halted s ≡ false → may_recover s logged
    → IsKept script.objects (events script) s logged.count logged.know logged.held

-- Of a script without a line that stops a disk the one run is the run without halts.
abbrev pub NoStopIsTheRun : Type 0
NoStopIsTheRun =
    (script : Script) → HasNoStop script → one_run script ≡ run by_pasts script
