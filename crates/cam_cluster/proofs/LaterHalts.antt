-- Halts at later inputs change nothing of the lines so far.
use Rattle.std.proofs.Common.{◌≡◌, ℕ, zero, suc, ◌<◌, ◌≤◌, List, [], ◌∷◌, ◌++◌, refl, sym}
use Rattle.std.proofs.Common.{ap, arith}
use Rattle.std.specs.List.{AllByRecursion}
use Rattle.std.proofs.lemmas.Bool.{ne_eqb}
use Rattle.cam_event.specs.Readings.{Reading}
use Rattle.cam_script.specs.declared.Statement.{Statement}
use Rattle.cam_script.specs.declared.Step.{Step}
use Rattle.cam_runs.specs.Halts.{Halt, halt_at, Input, accepted, Halting, given}
use Rattle.cam_runs.specs.Standing.{Standing, start}
use Rattle.cam_runs.specs.HaltedLines.{act, after_line, setting}
use Rattle.cam_runs.proofs.HaltGrows.{AgreeOn, Runs, stays, runs_then}
use Rattle.cam_runs.proofs.LinesGrow.{act_runs}
use Rattle.cam_cluster.specs.FoundHalts.{LaterHaltsStay}
use Rattle.cam_cluster.specs.Seen.{run_first, run_of_lines}
use Rattle.cam_cluster.proofs.LastInputs.{accepted_more}

-- Two ways to tell halts that agree on the lines so far give the same.
first_run : (reading : Reading) (f g : Halting) (bodies : List (List Statement)) (n : ℕ)
    (steps : List Step) (st : Standing)
    → Runs f g st (run_first reading f bodies n steps st) (run_first reading g bodies n steps st)
first_run reading f g bodies zero steps st = stays _ _ _
first_run reading f g bodies (suc n) [] st = stays _ _ _
first_run reading f g bodies (suc n) (step ∷ steps) st =
    let one : Standing =
    after_line st step.line (act (setting reading f step steps) bodies st step.act) in
    let line = act_runs (setting reading f step steps) _ _ bodies _ step.line step.act in
    runs_then _ _ _ _ _ (run_first reading f bodies n steps) (run_first reading g bodies n
    steps) (record { grows = line.grows; same = λ h. ap (after_line st step.line) (line.same h) })
    (first_run reading f g bodies n steps one)

-- A list has nothing to say of an input before all of its own.
pub later_says : (more halts : List Halt) (n k : ℕ)
    → AllByRecursion (λ (h : Halt). n ≤ h.input) more
    → k < n → halt_at halts k ≡ halt_at (more ++ halts) k
later_says [] halts n k all low = refl
later_says (h ∷ more) halts n k all low =
    let high = all.0 in
    rw (ne_eqb h.input k (λ e. omega (arith, e, high, low))) (later_says more halts n k all.1 low)

pub later_halts_stay : LaterHaltsStay
later_halts_stay reading script more halts n all =
    sym ((first_run (reading script.objects) _ _ script.bodies n script.steps start).same agree)
  where
    end : Standing
    end = run_of_lines reading script halts n

    agree : AgreeOn (given halts) (given (more ++ halts)) end.turns
    agree others past s line w again is =
        later_says more halts (accepted end.turns) (accepted past) all
        (let long = accepted_more others (Input s line w again ∷ past) in
        let same = ap accepted is in
        omega (arith, long, same))
