-- How long runs are: what a script's lines cost, 512 at most, bounds the events of its run.
--
-- An input that a line gives, or a request that a body makes, has one event. Its letters weigh 81 at
-- most, and a delivery of a letter lowers the weight of the letters that wait: so there are 81 more
-- events at most until none waits. A request of a body counts among the steps of a script.
use Rattle.std.specs.Prelude.{◌≡◌, ℕ, ◌≤◌, ◌*◌, Bool, List, ◌++◌, length}
use Rattle.cam_names.specs.declared.name.Name.{Name}
use Rattle.cam_type.specs.declared.ObjectDecl.{ObjectDecl}
use Rattle.cam_event.specs.declared.Event.{Event}
use Rattle.cam_event.specs.Readings.{by_knowledge, by_pasts}
use Rattle.cam_event.specs.Taken.{IsRunTaking}
use Rattle.cam_script.specs.declared.Script.{Script}
use Rattle.cam_script.specs.declared.Statement.{Statement}
use Rattle.cam_script.specs.declared.Step.{Step}
use Rattle.cam_script.specs.Law.{IsScript}
use Rattle.cam_runs.specs.HaltedPlaying.{go_in_round, rounds}
use Rattle.cam_runs.specs.Halts.{accepted, Halting}
use Rattle.cam_runs.specs.HaltedLines.{run_halting}
use Rattle.cam_runs.specs.PlaysEnd.{standing_after}
use Rattle.cam_runs.specs.Run.{run}
use Rattle.cam_runs.specs.Running.{letters}
use Rattle.cam_runs.specs.Standing.{deliveries, start, Setting, Standing}

-- 41,984: one event and 81 for its letters, for each of 512 steps
abbrev pub most_events : ℕ
most_events = 82 * 512

-- Nodes accepted no more inputs than this, and there are no more events than inputs.
pub record IsShort (st : Standing) : Type 0 where
  pub inputs : accepted st.turns ≤ most_events
  pub events : length st.running.trace ≤ accepted st.turns

-- After each line of an accepted script it is so, whichever inputs are halts;
abbrev pub BeginningsAreShort : Type 0
BeginningsAreShort =
    (script : Script) (halts : Halting) (earlier later : List Step) → IsScript script
    → script.steps ≡ earlier ++ later
    → IsShort (standing_after (by_pasts script.objects) halts script.bodies earlier later start)

-- so it is at its end, by both readings,
abbrev pub HaltedRunsAreShort : Type 0
HaltedRunsAreShort =
    (script : Script) (halts : Halting) → IsScript script
    → IsShort (run_halting by_pasts halts script) × IsShort (run_halting by_knowledge halts script)

-- and of the run without halts.
abbrev pub RunsAreShort : Type 0
RunsAreShort =
    (script : Script) → IsScript script
    → (length (run by_pasts script).trace ≤ most_events)
    × (length (run by_knowledge script).trace ≤ most_events)

-- Nor are there many letters: each weighs 1 at least, so an event sends 81 at most.
abbrev pub LettersAreFew : Type 0
LettersAreFew =
    (objects : List ObjectDecl) (taken : ℕ → Bool) (t : List Event) → IsRunTaking objects taken t
    → length (letters t) ≤ 81 * length t

-- Within a line the number of inputs only grows, so it is bounded at each moment as it is at the
-- line's end.
abbrev pub InputsOnlyGrow : Type 0
InputsOnlyGrow =
    (c : Setting) (bodies : List (List Statement)) (names : List Name) (n : ℕ) (st : Standing)
    → (accepted st.turns ≤ accepted (deliveries c n st).turns)
    × (accepted st.turns ≤ accepted (go_in_round c bodies names st).turns)
    × (accepted st.turns ≤ accepted (rounds c bodies n st).turns)
