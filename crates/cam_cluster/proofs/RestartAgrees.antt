-- Halts that agree with the lines that stop disks go on agreeing after a restart, which finds the
-- event of a halt just where the stop let it be taken.
use Rattle.std.proofs.Common.{◌≡◌, inl, inr, ℕ, zero, suc, ◌+◌, ◌-◌, ◌≤◌, eqb, Bool, true, false}
use Rattle.std.proofs.Common.{◌&&◌, if◌then◌else◌, List, [], ◌∷◌, drop, Option, Some, None}
use Rattle.std.proofs.Common.{is_some, refl, sym, ap, ◌∙◌, subst, arith, true≢false, eqb-true}
use Rattle.std.specs.Prelude.{slice_get}
use Rattle.std.specs.List.{list_any}
use Rattle.std.proofs.lemmas.Bool.{and_parts, eq-eqb, or_left}
use Rattle.std.proofs.lemmas.Bool.Decides.{eqb_tells}
use Rattle.std.proofs.lemmas.Option.{same_Some}
use Rattle.cam_event.specs.Readings.{Reading, by_pasts}
use Rattle.cam_node.specs.Log.{Logged}
use Rattle.cam_runs.specs.Halts.{Halting, Input, Restart, Stop, Turn, given}
use Rattle.cam_runs.specs.HaltedLines.{act, after_line, is_restart, setting}
use Rattle.cam_runs.specs.Running.{has_number}
use Rattle.cam_runs.specs.Standing.{Standing, ended_halt, start}
use Rattle.cam_runs.specs.Stops.{AreTold, last_stop}
use Rattle.cam_runs.specs.Stops.{told_last as told_by}
use Rattle.cam_runs.proofs.LinesTell.{lines_tell}
use Rattle.cam_script.specs.declared.Act.{Act}
use Rattle.cam_script.specs.declared.Act.TheVariants as acts
use Rattle.cam_script.specs.declared.Statement.{Statement}
use Rattle.cam_script.specs.declared.Step.{Step}
use Rattle.cam_histories.specs.Found.{DifferAt}
use Rattle.cam_cluster.specs.declared.works.restart.Restart.{Restart as Ended}
use Rattle.cam_cluster.specs.declared.works.restart.Restart.TheVariants as ends
use Rattle.cam_cluster.specs.Between.{KeepsBetween, seen_found}
use Rattle.cam_cluster.specs.Courses.{HasFound, HasStood, IsFrom}
use Rattle.cam_cluster.specs.FoundHalts.{IsLostSoFar}
use Rattle.cam_cluster.specs.KnownHalts.{AgreesAt}
use Rattle.cam_cluster.specs.Restarts.{FindsByStop, HasFoundByStop}
use Rattle.cam_cluster.specs.Seen.{IsNextStep, Seen, lines_taken, run_first}
use Rattle.cam_cluster.specs.SoFar.{LinesFields}
use Rattle.cam_cluster.specs.Stopping.{IsAsStopped, stopped_at, told_last}
use Rattle.cam_cluster.specs.Works.{IsUnfailing}
use Rattle.cam_cluster.proofs.FoundSeen.{stands}
use Rattle.cam_cluster.proofs.HaltsByStop.{stopped_said}
use Rattle.cam_cluster.proofs.HaltsDiffer.{found_halts_differ}
use Rattle.cam_cluster.proofs.LineAgrees.{stop_agrees}
use Rattle.cam_cluster.proofs.NodeAgrees.{found_agrees_at, lost_agrees}
use Rattle.cam_cluster.proofs.Begun.{begun}

-- The first lines of a script tell which nodes those after them restart.
first_tell : (reading : Reading) (halts : Halting) (bodies : List (List Statement)) (n : ℕ)
    (steps : List Step) (st : Standing) → AreTold st.turns steps
    → AreTold (run_first reading halts bodies n steps st).turns (drop n steps)
first_tell reading halts bodies zero steps st told = told
first_tell reading halts bodies (suc n) [] st told = told
first_tell reading halts bodies (suc n) (step ∷ steps) st told =
    first_tell reading halts bodies n steps
    (after_line st step.line (act (setting reading halts step steps) bodies st step.act))
    (lines_tell reading halts bodies st step steps told)

restarted_there : (steps : List Step) (n s line : ℕ)
    → slice_get steps n ≡ Some (record { line = line; act = acts.Restart s })
    → list_any (is_restart s) (drop n steps) ≡ true
restarted_there [] n s line at = cc
restarted_there (step ∷ steps) zero s line at =
    or_left (is_restart s step) (list_any (is_restart s) steps)
    (ap (is_restart s) (same_Some step (record { line = line; act = acts.Restart s }) at)
    ∙ eq-eqb s s refl)
restarted_there (step ∷ steps) (suc n) s line at = restarted_there steps n s line at

-- At the last input of a node at which a stop ends it is told.
told_there : (turns : List Turn) (s calls : ℕ) → stopped_at turns s ≡ Some calls
    → told_by turns s ≡ Some (told_last turns s)
told_there [] s calls is = cc
told_there (Input m line w again ∷ before) s calls is = elim (eqb_tells m s) [
  | inl y ↦ rw y.0 refl
  | inr other ↦
      let older : stopped_at (Input m line w again ∷ before) s ≡ stopped_at before s =
      rw other.0 refl in
      rw other.0 (told_there before s calls (sym older ∙ is))
]
told_there (Stop m k ∷ before) s calls is = told_there before s calls is
told_there (Restart m ∷ before) s calls is =
    by (λ was. told_there before s calls was) (eqb m s) is
  where
    by : (stopped_at before s ≡ Some calls → told_by before s ≡ Some (told_last before s))
        → (b : Bool) → (if b then None else stopped_at before s) ≡ Some calls
        → told_by before s ≡ Some (told_last before s)
    by told true was = cc
    by told false was = told was

-- A stop of a node that is restarted made a taken halt just where it let three calls pass.
taken_three : (turns : List Turn) (s calls : ℕ) → stopped_at turns s ≡ Some calls
    → last_stop turns s ≡ Some true → stopped_at turns s ≡ Some 3
taken_three turns s calls is taken =
    is ∙ ap (λ (n : ℕ). Some n) (eqb-true calls 3 (and_parts (eqb calls 3) (told_last turns s)
    (same_Some (eqb calls 3 && told_last turns s) true (sym (stopped_said turns s _ is).said ∙
    taken))).0)

stops_somewhere : (o : Option ℕ) → is_some o ≡ true → (calls : ℕ) × (o ≡ Some calls)
stops_somewhere None is = absurd (true≢false (sym is))
stops_somewhere (Some calls) is = (calls, refl)

module _ (seen : Seen) (lines : LinesFields) (may : ℕ → Logged → Type 0)
    (keeps : KeepsBetween seen lines may) (line s : ℕ)
    (next : IsNextStep seen (record { line = line; act = acts.Restart s })) where
  abbrev turns : List Turn
  turns = seen.standing.turns

  told_so_far : AreTold turns (drop (lines_taken seen) seen.script.steps)
  told_so_far =
      subst (λ (st : Standing). AreTold st.turns (drop (lines_taken seen) seen.script.steps))
      (sym keeps.between)
      (first_tell (by_pasts seen.script.objects) (given seen.halts) seen.script.bodies
      (lines_taken seen) seen.script.steps start (λ m told is. cc))

  three_taken : stopped_at turns s ≡ Some 3 → last_stop turns s ≡ Some true
  three_taken is =
      (stopped_said turns s 3 is).said
      ∙ ap (λ (b : Bool). Some (eqb 3 3 && b))
      (told_so_far s (told_last turns s) (told_there turns s 3 is)
      ∙ restarted_there seen.script.steps (lines_taken seen) s line next)

  stops_here : IsUnfailing lines.works.failed lines.works.nodes s
      → has_number seen.standing.halted s ≡ true → (calls : ℕ) × (stopped_at turns s ≡ Some calls)
  stops_here sound halted =
      stops_somewhere (stopped_at turns s) (by (has_number seen.standing.halted s) halted said)
    where
      said : IsAsStopped (has_number seen.standing.halted s) turns s
      said = keeps.keeps.runs.stops.said s sound

      by : (b : Bool) → b ≡ true → IsAsStopped b turns s → is_some (stopped_at turns s) ≡ true
      by true is so = so
      by false is so = absurd (true≢false (sym is))

  module _ (low : 1 ≤ s) where
    here : (done : Ended) → HasFoundByStop (s - 1) lines.works may done
        → IsUnfailing lines.works.failed lines.works.nodes s
        → has_number seen.standing.halted s ≡ true → FindsByStop (stopped_at turns s) done
    here done by_stop sound =
        subst (λ (n : ℕ). has_number seen.standing.halted n ≡ true
        → FindsByStop (stopped_at turns n) done) back
        (by_stop seen.script seen.standing keeps.is_script keeps.keeps.runs
        (subst (IsUnfailing lines.works.failed lines.works.nodes) (sym back) sound))
      where
        back : s - 1 + 1 ≡ s
        back = omega (arith, low)

    pub has_stood : HasFoundByStop (s - 1) lines.works may ends.Stood
        → HasStood lines.works seen seen s
    has_stood by_stop = record {
      same = refl;
      lost = λ sound halted taken.
          let stop = stops_here sound halted in
          here ends.Stood by_stop sound halted (taken_three turns s stop.0 stop.1 taken);
    }

    pub has_found : HasFoundByStop (s - 1) lines.works may ends.Found
        → has_number seen.standing.halted s ≡ true
        → HasFound lines.works seen (seen_found seen s) s
    has_found by_stop halted = record {
      halted = halted;
      found = refl;
      taken = λ sound. three_taken (here ends.Found by_stop sound halted);
    }

-- So the agreement stays, once a line has ended a halt, or stopped a disk.
found_agrees : (seen : Seen) (lines : LinesFields) (may : ℕ → Logged → Type 0)
    (keeps : KeepsBetween seen lines may) (s m : ℕ) → has_number seen.standing.halted s ≡ true
    → (s ≡ m → last_stop seen.standing.turns s ≡ Some true)
    → AgreesAt m (given seen.halts) seen.standing
    → AgreesAt m (given (seen_found seen s).halts) (ended_halt (seen_found seen s).standing s)
found_agrees seen lines may keeps s m halted taken agrees =
    subst (λ (st : Standing). AgreesAt m (given (seen_found seen s).halts) (ended_halt st s))
    (sym (stands seen lines may keeps s halted).is)
    (found_agrees_at (given seen.halts) (given (seen_found seen s).halts) s last.number
    differ.alike differ.took seen.standing m agrees last.last taken)
  where
    last : IsLostSoFar seen.standing.turns seen.halts s
    last = keeps.lost s halted

    differ : DifferAt last.number (given seen.halts) (given (seen_found seen s).halts)
    differ =
        found_halts_differ seen.standing.turns seen.halts s last.number keeps.newest last.last
        last.lost

pub from_agrees : (does : Act) (seen from : Seen) (lines : LinesFields)
    (may : ℕ → Logged → Type 0) → KeepsBetween seen lines may → (m : ℕ)
    → IsUnfailing lines.works.failed lines.works.nodes m → IsFrom lines.works does seen from
    → AgreesAt m (given seen.halts) seen.standing
    → AgreesAt m (given from.halts) (begun from.standing does)
from_agrees (acts.Restart s) seen from lines may keeps m sound (inl stood) agrees =
    subst (λ (x : Seen). AgreesAt m (given x.halts) (ended_halt x.standing s)) (sym stood.same)
    (lost_agrees (given seen.halts) seen.standing s m agrees
    (λ same. stood.lost (subst (IsUnfailing lines.works.failed lines.works.nodes) (sym same)
    sound)))
from_agrees (acts.Restart s) seen from lines may keeps m sound (inr is) agrees =
    subst (λ (x : Seen). AgreesAt m (given x.halts) (ended_halt x.standing s)) (sym is.found)
    (found_agrees seen lines may keeps s m is.halted
    (λ same. is.taken (subst (IsUnfailing lines.works.failed lines.works.nodes) (sym same) sound))
    agrees)
from_agrees (acts.Stop s calls) seen from lines may keeps m sound same agrees =
    subst (λ (x : Seen). AgreesAt m (given x.halts) (begun x.standing (acts.Stop s calls)))
    (sym same) (stop_agrees (given seen.halts) seen.standing s calls m agrees)
from_agrees _ seen from lines may keeps m sound same agrees =
    subst (λ (x : Seen). AgreesAt m (given x.halts) x.standing) (sym same) agrees
