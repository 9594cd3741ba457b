-- The line `go`, refused: what its tests say and what stands then.
use Rattle.std.proofs.Common.{◌≡◌, ℕ, List, [], Err, Some, refl, sym, subst}
use Rattle.cam_event.specs.declared.LineRefusal.{LineRefusal}
use Rattle.cam_event.specs.Readings.{by_knowledge}
use Rattle.cam_node.specs.Log.{Logged}
use Rattle.cam_runs.specs.Halts.{Halting}
use Rattle.cam_runs.specs.HaltedLines.{Refused, act, after_line, setting}
use Rattle.cam_runs.specs.Standing.{Standing}
use Rattle.cam_script.specs.declared.Act.TheVariants as acts
use Rattle.cam_script.specs.declared.Script.{Script}
use Rattle.cam_script.specs.declared.Statement.{Statement}
use Rattle.cam_script.specs.declared.Step.{Step}
use Rattle.cam_script.specs.Law.{IsScript}
use Rattle.cam_histories.specs.Lines.{line_refusal}
use Rattle.cam_cluster.specs.declared.LineFault.{LineFault}
use Rattle.cam_cluster.specs.declared.LineFault.TheVariants as line_faults
use Rattle.cam_cluster.specs.declared.workers.Workers.{Workers}
use Rattle.cam_cluster.specs.GoLines.{IsLineOfGo, KeepsLinesAtWork}
use Rattle.cam_cluster.specs.InputLines.{IsRefusedAs}
use Rattle.cam_cluster.specs.SoFar.{IsRefused, LinesFields}
use Rattle.cam_cluster.specs.Workers.{AreWorkers}
use Rattle.cam_cluster.proofs.TriedLine.{refused_line}
use Rattle.cam_cluster.proofs.WorkersStand.{workers_stay}

module _ (line v : ℕ) (bodies : List (List Statement)) (old new : LinesFields)
    (might may : ℕ → Logged → Type 0) (before : Workers) where
  still_at_work : (st : Standing) (why : LineRefusal) → AreWorkers st before
      → AreWorkers (after_line st line (Refused why)) before
  still_at_work st why are = workers_stay _ _ _ [] refl refl are

  -- a line that is refused
  pub refused_so : (why : LineRefusal) (fault : LineFault)
      → ((script : Script) (st : Standing) → IsScript script
      → KeepsLinesAtWork script st old might before
      → (line_refusal (by_knowledge script.objects) st (acts.Go v) ≡ Some why)
      × ((halts : Halting) (later : List Step) → act (setting (by_knowledge script.objects) halts
      (record { line = line; act = acts.Go v }) later) script.bodies st (acts.Go v) ≡ Refused
      why))
      → IsRefusedAs line why old might new may fault
      → IsLineOfGo line v bodies old might before new may before (Err fault)
  refused_so why line_faults.NoMemory tests has script st halts later is bodies_are keeps next =
      record { lines = has script st is keeps.lines; workers = keeps.workers }
  refused_so why (line_faults.Refused told) tests has script st halts later is bodies_are keeps
      next =
      let test = tests script st is keeps in record {
        refused =
            subst (λ (r : LineRefusal). IsRefused script st line (acts.Go v) r new may) (sym has.0)
            (refused_line script st halts later line (acts.Go v) why old new might may is
            keeps.lines
            next test.0 (test.1 halts later) has.1);
        workers = still_at_work st told keeps.workers;
      }
