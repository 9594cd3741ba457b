-- A node of a cluster restarts: what that makes of the works.
use Rattle.std.specs.Prelude.{◌≡◌, ℕ, ◌+◌, Bool, true, List, Option, Some, None, Result, Ok, Err}
use Rattle.cam_base.specs.declared.memory.NoMemory.{NoMemory}
use Rattle.cam_event.specs.declared.Event.{Event}
use Rattle.cam_event.specs.Inputs.{Restarts}
use Rattle.cam_event.specs.Readings.{by_knowledge}
use Rattle.cam_node.specs.Log.{Logged}
use Rattle.cam_runs.specs.Halts.{Halting}
use Rattle.cam_runs.specs.HaltedLines.{act, after_line, setting}
use Rattle.cam_runs.specs.Running.{has_number}
use Rattle.cam_runs.specs.Standing.{Standing, Setting, ended_halt, put}
use Rattle.cam_runs.specs.UnderHalts.{IsNextStep, IsUnderHalts}
use Rattle.cam_script.specs.declared.Act.TheVariants as acts
use Rattle.cam_script.specs.declared.Script.{Script}
use Rattle.cam_script.specs.declared.Step.{Step}
use Rattle.cam_script.specs.Law.{IsScript}
use Rattle.cam_histories.specs.Found.{IsBeyond}
use Rattle.cam_histories.specs.InputLaws.{held_setting, halt_of}
use Rattle.cam_cluster.specs.declared.works.failing.Ending.TheVariants as endings
use Rattle.cam_cluster.specs.declared.works.restart.Restart.{Restart}
use Rattle.cam_cluster.specs.declared.works.restart.Restart.TheVariants as ends
use Rattle.cam_cluster.specs.SoFar.{KeepsLines, LinesFields}
use Rattle.cam_cluster.specs.Stopping.{stopped_at}
use Rattle.cam_cluster.specs.Works.{WorksFields, IsUnfailing, KeepsRun}

-- the run with the restart after it, and what is said of that as a halt
abbrev pub with_restart : Script → Halting → ℕ → (ℕ → Bool) → Standing → ℕ → Standing
with_restart script halts line restarted st s =
    put (held_setting script.objects halts line restarted) (ended_halt st s) (Restarts s)

abbrev pub restart_halt : Script → Halting → ℕ → (ℕ → Bool) → Standing → ℕ → Option Bool
restart_halt script halts line restarted st s =
    halt_of (held_setting script.objects halts line restarted) (ended_halt st s) (Restarts s)

-- The log has the event at which the node halted: they keep each run in which that halt was taken,
-- with the restart after it. It comes only if the node was halted.
pub record HasFoundHalt (place : ℕ) (old : WorksFields) (might_read : ℕ → Logged → Type 0)
    (new : WorksFields) (may_read : ℕ → Logged → Type 0) : Type 0 where
  pub halted :
      (script : Script) (st : Standing) → IsScript script → KeepsRun script st old might_read
      → has_number st.halted (place + 1) ≡ true
  pub stands :
      (script : Script) (st found : Standing) (k : ℕ) (before : List Event) (e : Event)
      (halts : Halting) (line : ℕ) (restarted : ℕ → Bool)
      → IsScript script → KeepsRun script st old might_read → IsUnderHalts script found
      → IsBeyond script.objects k (place + 1) before e st found
      → restart_halt script halts line restarted found (place + 1) ≡ None
      → KeepsRun script (with_restart script halts line restarted found (place + 1)) new may_read

-- Of each run that the works kept, where the restart stands: if nothing was found they keep the run
-- with the restart after it, and else the run in which the halt was taken. Where it failed the
-- run has to end.
abbrev pub HasRestartedAs : ℕ → WorksFields → (ℕ → Logged → Type 0) → Restart → WorksFields
    → (ℕ → Logged → Type 0) → Type 0
HasRestartedAs place old might_read ends.Stood new may_read =
    (script : Script) (st : Standing) (halts : Halting) (line : ℕ) (restarted : ℕ → Bool)
    → IsScript script → KeepsRun script st old might_read
    → restart_halt script halts line restarted st (place + 1) ≡ None
    → KeepsRun script (with_restart script halts line restarted st (place + 1)) new may_read
HasRestartedAs place old might_read ends.Found new may_read =
    HasFoundHalt place old might_read new may_read
HasRestartedAs place old might_read ends.Failed new may_read = new.failed.ends ≡ endings.Nothing → ⊥

-- Where its disk has not failed by itself, a restart of a node that is halted finds the event exactly
-- if the stop of its disk let three calls pass.
abbrev pub FindsByStop : Option ℕ → Restart → Type 0
FindsByStop calls ends.Stood = calls ≡ Some 3 → ⊥
FindsByStop calls ends.Found = calls ≡ Some 3
FindsByStop calls ends.Failed = Unit {0}

abbrev pub HasFoundByStop : ℕ → WorksFields → (ℕ → Logged → Type 0) → Restart → Type 0
HasFoundByStop place old might_read done =
    (script : Script) (st : Standing) → IsScript script → KeepsRun script st old might_read
    → IsUnfailing old.failed old.nodes (place + 1) → has_number st.halted (place + 1) ≡ true
    → FindsByStop (stopped_at st.turns (place + 1)) done

-- The same over what the lines keep, where the restart is the run's next step.
pub record IsFoundEnded (script : Script) (st : Standing) (c : Setting) (s : ℕ) (new : LinesFields)
    (may_read : ℕ → Logged → Type 0) : Type 0 where
  pub halted : has_number st.halted s ≡ true
  pub stands :
      (found : Standing) (k : ℕ) (before : List Event) (e : Event)
      → IsUnderHalts script found → IsBeyond script.objects k s before e st found
      → halt_of c (ended_halt found s) (Restarts s) ≡ None
      → KeepsLines script (after_line found c.line (act c script.bodies found
      (acts.Restart s))) new may_read

-- A restart is never refused. Of each run whose next step it is: what the lines keep then, by how it
-- ended.
abbrev pub IsRestartEnded : Script → Standing → Setting → ℕ → LinesFields
    → (ℕ → Logged → Type 0) → Result Restart NoMemory → Type 0
IsRestartEnded script st c s new may_read (Ok ends.Stood) =
    halt_of c (ended_halt st s) (Restarts s) ≡ None
    → KeepsLines script (after_line st c.line (act c script.bodies st
    (acts.Restart s))) new may_read
IsRestartEnded script st c s new may_read (Ok ends.Found) =
    IsFoundEnded script st c s new may_read
IsRestartEnded script st c s new may_read (Ok ends.Failed) =
    new.works.failed.ends ≡ endings.Nothing → ⊥
IsRestartEnded script st c s new may_read (Err wanting) = KeepsLines script st new may_read

-- THE CLAUSE of `restart`, over what nodes hold, at a node whose disk tells what it holds.
abbrev pub IsRestartLine : ℕ → LinesFields → (ℕ → Logged → Type 0) → LinesFields
    → (ℕ → Logged → Type 0) → Result Restart NoMemory → Type 0
IsRestartLine s old might_read new may_read result =
    (script : Script) (st : Standing) (halts : Halting) (line : ℕ) (later : List Step)
    → IsScript script → KeepsLines script st old might_read
    → IsNextStep script st (record { line = line; act = acts.Restart s })
    → IsRestartEnded script st
    (setting (by_knowledge script.objects) halts
    (record { line = line; act = acts.Restart s }) later)
    s new may_read result
