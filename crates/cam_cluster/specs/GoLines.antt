-- The line `go`: the action that a variable stands for makes the next request of its body, if it
-- makes one now.
use Rattle.std.specs.Prelude.{◌≡◌, ℕ, List, Option, Some, None, Result, Ok, Err, is_some}
use Rattle.cam_names.specs.declared.name.Name.{Name}
use Rattle.cam_event.specs.declared.LineRefusal.{LineRefusal}
use Rattle.cam_event.specs.Readings.{by_knowledge}
use Rattle.cam_node.specs.Log.{Logged}
use Rattle.cam_runs.specs.Halts.{Halting}
use Rattle.cam_runs.specs.HaltedLines.{Refused, act, after_line, setting}
use Rattle.cam_runs.specs.Requests.{variable}
use Rattle.cam_runs.specs.Standing.{Standing, Setting}
use Rattle.cam_runs.specs.UnderHalts.{IsNextStep}
use Rattle.cam_script.specs.declared.Act.TheVariants as acts
use Rattle.cam_script.specs.declared.Script.{Script}
use Rattle.cam_script.specs.declared.Statement.{Statement}
use Rattle.cam_script.specs.declared.Step.{Step}
use Rattle.cam_script.specs.Law.{IsScript}
use Rattle.cam_histories.specs.Lines.{line_refusal}
use Rattle.cam_cluster.specs.declared.LineFault.{LineFault}
use Rattle.cam_cluster.specs.declared.LineFault.TheVariants as line_faults
use Rattle.cam_cluster.specs.declared.works.Put.{Put}
use Rattle.cam_cluster.specs.declared.workers.Workers.{Workers}
use Rattle.cam_cluster.specs.Goes.{IsSaidOf, is_request, next_of}
use Rattle.cam_cluster.specs.SoFar.{IsRefused, KeepsLines, LinesFields}
use Rattle.cam_cluster.specs.VariableLines.{AreAtNodes}
use Rattle.cam_cluster.specs.Workers.{AreWorkers}

-- The lines so far and the workers are those of what stands.
pub record KeepsLinesAtWork (script : Script) (st : Standing) (so_far : LinesFields)
    (may_read : ℕ → Logged → Type 0) (at_work : Workers) : Type 0 where
  pub lines : KeepsLines script st so_far may_read
  pub workers : AreWorkers st at_work

-- Some run of a script with these bodies is kept whose next line is this `go`, and whose variables
-- stand for actions of the script's nodes.
pub record IsGoOfSome (line v : ℕ) (bodies : List (List Statement)) (lines : LinesFields)
    (may_read : ℕ → Logged → Type 0) (workers : Workers) : Type 0 where
  pub script : Script
  pub standing : Standing
  pub is_script : IsScript script
  pub bodies_are : bodies ≡ script.bodies
  pub keeps : KeepsLinesAtWork script standing lines may_read workers
  pub next : IsNextStep script standing (record { line = line; act = acts.Go v })
  pub placed : AreAtNodes script.nodes standing.running.bound

-- The line leads on: no test refuses it, and the action made its next request, if it makes one.
pub record HasGoneOn (script : Script) (st : Standing) (c : Setting) (v : ℕ) (done : Option Put)
    (new : LinesFields) (may_read : ℕ → Logged → Type 0) (workers : Workers) : Type 0 where
  pub name : Name
  pub at : variable st.running v ≡ Some name
  pub passed : line_refusal (by_knowledge script.objects) st (acts.Go v) ≡ None
  pub made : is_some done ≡ is_request (next_of script.bodies st name)
  pub stands :
      IsSaidOf c st name (next_of script.bodies st name) done
      → KeepsLinesAtWork script (after_line st c.line (act c script.bodies st (acts.Go v))) new
      may_read workers

-- It is refused.
pub record IsGoRefused (script : Script) (st : Standing) (c : Setting) (v : ℕ) (refusal :
    LineRefusal)
    (new : LinesFields) (may_read : ℕ → Logged → Type 0) (at_work : Workers) : Type 0 where
  pub refused : IsRefused script st c.line (acts.Go v) refusal new may_read
  pub workers : AreWorkers (after_line st c.line (Refused refusal)) at_work

-- how the line ends
abbrev pub IsGoEnded : Script → Standing → Setting → ℕ → LinesFields → (ℕ → Logged → Type 0)
    → Workers → Result (Option Put) LineFault → Type 0
IsGoEnded script st c v new may_read workers (Ok done) =
    HasGoneOn script st c v done new may_read workers
IsGoEnded script st c v new may_read workers (Err (line_faults.Refused refusal)) =
    IsGoRefused script st c v refusal new may_read workers
IsGoEnded script st c v new may_read workers (Err line_faults.NoMemory) =
    KeepsLinesAtWork script st new may_read workers

-- THE CLAUSE of the line `go`, over what nodes hold: for each run whose next step it is.
abbrev pub IsLineOfGo : ℕ → ℕ → List (List Statement) → LinesFields → (ℕ → Logged → Type 0)
    → Workers → LinesFields → (ℕ → Logged → Type 0) → Workers → Result (Option Put) LineFault
    → Type 0
IsLineOfGo line v bodies old might_read old_workers new may_read workers result =
    (script : Script) (st : Standing) (halts : Halting) (later : List Step)
    → IsScript script → bodies ≡ script.bodies
    → KeepsLinesAtWork script st old might_read old_workers
    → IsNextStep script st (record { line = line; act = acts.Go v })
    → IsGoEnded script st
    (setting (by_knowledge script.objects) halts (record { line = line; act = acts.Go v }) later)
    v new may_read workers result
