-- The lines of a cluster go on.
use Rattle.std.proofs.Common.{◌≡◌, ℕ, zero, suc, ◌+◌, ◌<◌, ◌≤◌, List, [], ◌∷◌, ◌++◌, length, Some}
use Rattle.std.proofs.Common.{sym, ap, ◌∙◌, subst, arith}
use Rattle.std.specs.Prelude.{drop, slice_get}
use Rattle.std.specs.List.{AllByRecursion}
use Rattle.std.proofs.lemmas.Option.{none-some, same_Some}
use Rattle.cam_event.specs.Readings.{Reading, by_knowledge, by_pasts}
use Rattle.cam_node.specs.Log.{Logged}
use Rattle.cam_runs.specs.Halts.{Halt, Halting, accepted, given}
use Rattle.cam_runs.specs.HaltedLines.{Passed, act, after_line, setting}
use Rattle.cam_runs.specs.Standing.{Standing, start}
use Rattle.cam_runs.specs.UnderHalts.{IsUnderHalts, act_by}
use Rattle.cam_runs.proofs.HaltedWhole.{halted_lines_agree}
use Rattle.cam_runs.proofs.LinesGrow.{act_runs}
use Rattle.cam_runs.proofs.Range.{script_in_range}
use Rattle.cam_script.specs.declared.Statement.{Statement}
use Rattle.cam_script.specs.declared.Step.{Step}
use Rattle.cam_script.specs.Law.{IsScript}
use Rattle.cam_cluster.specs.Between.{AreHaltsOfLine, KeepsBetween, KeepsStep, LinesGoOn}
use Rattle.cam_cluster.specs.Between.{after_step}
use Rattle.cam_cluster.specs.FoundHalts.{AreLostSoFar, AreNewestFirst}
use Rattle.cam_cluster.specs.Seen.{IsBetweenLines, Seen, later_steps, run_first, run_of_lines}
use Rattle.cam_cluster.specs.Seen.{setting_in}
use Rattle.cam_cluster.specs.SoFar.{KeepsLines, LinesFields}
use Rattle.cam_cluster.proofs.LastInputs.{accepted_more}
use Rattle.cam_cluster.proofs.LaterHalts.{later_halts_stay}
use Rattle.cam_cluster.proofs.Begun.{begun}
use Rattle.cam_cluster.proofs.LinesUnder.{line_counts}
use Rattle.cam_cluster.proofs.LostLines.{begun_lost, line_lost}

-- one line more of a script
one_more : (reading : Reading) (halts : Halting) (bodies : List (List Statement)) (n : ℕ)
    (steps : List Step) (st : Standing) (step : Step) → slice_get steps n ≡ Some step
    → run_first reading halts bodies (suc n) steps st
    ≡ after_line (run_first reading halts bodies n steps st) step.line
    (act (setting reading halts step (drop (suc n) steps)) bodies
    (run_first reading halts bodies n steps st) step.act)
one_more reading halts bodies n [] st step at = absurd (none-some step at)
one_more reading halts bodies zero (s ∷ steps) st step at =
    ap (λ (x : Step). after_line st x.line (act (setting reading halts x steps) bodies st x.act))
    (same_Some s step at)
one_more reading halts bodies (suc n) (s ∷ steps) st step at =
    one_more reading halts bodies n steps
    (after_line st s.line (act (setting reading halts s steps) bodies st s.act)) step at

-- halts of one line after those before
pub all_behind : (P : Halt → Type 0) (more halts : List Halt) → AllByRecursion P more
    → AllByRecursion P halts → AllByRecursion P (more ++ halts)
all_behind P [] halts all others = others
all_behind P (h ∷ more) halts all others = (all.0, all_behind P more halts all.1 others)

pub all_so : (P Q : Halt → Type 0) (halts : List Halt) → ((h : Halt) → P h → Q h)
    → AllByRecursion P halts → AllByRecursion Q halts
all_so P Q [] so all = tt
all_so P Q (h ∷ halts) so all = (so h all.0, all_so P Q halts so all.1)

pub newest_behind : (n : ℕ) (more halts : List Halt) → AreNewestFirst more → AreNewestFirst halts
    → AllByRecursion (λ (h : Halt). n ≤ h.input) more
    → AllByRecursion (λ (h : Halt). h.input < n) halts → AreNewestFirst (more ++ halts)
newest_behind n [] halts new old low high = old
newest_behind n (h ∷ more) halts new old low high = (
  all_behind (λ (g : Halt). g.input < h.input)
      _ _ new.0
      (all_so (λ (g : Halt). g.input < n) (λ (g : Halt). g.input < h.input) _ (λ g less. let least
      = low.0 in omega (arith, less, least)) high),
  newest_behind n more halts new.1 old low.1 high,
)

-- the run of the lines so far, with the halts that are known
pub record IsRunSoFar (seen : Seen) : Type 0 where
  pub is_script : IsScript seen.script
  pub under : IsUnderHalts seen.script seen.standing
  pub between : IsBetweenLines seen
  pub newest : AreNewestFirst seen.halts
  pub past : AllByRecursion (λ (h : Halt). h.input < accepted seen.standing.turns) seen.halts

module _ (seen : Seen) (step : Step) (more : List Halt) (new : LinesFields)
    (may : ℕ → Logged → Type 0) (keeps : IsRunSoFar seen)
    (next : slice_get seen.script.steps (length seen.standing.running.bound) ≡ Some step)
    (halts : AreHaltsOfLine seen (after_step seen step more) more)
    (lost : AreLostSoFar (begun seen.standing step.act) seen.halts) where
  abbrev st : Standing
  st = seen.standing

  abbrev all : List Halt
  all = more ++ seen.halts

  agree : act_by by_knowledge (given all) (later_steps seen) seen.script st step
      ≡ act_by by_pasts (given all) (later_steps seen) seen.script st step
  agree =
      halted_lines_agree seen.script st step (given all) (later_steps seen)
      (script_in_range seen.script keeps.is_script) keeps.under next

  accepts_one : length (after_step seen step more).standing.running.bound
      ≡ length st.running.bound + 1
  accepts_one =
      line_counts _ (given all) _ _ (later_steps seen) (script_in_range seen.script
      keeps.is_script) keeps.under next

  grown : accepted st.turns ≤ accepted (after_step seen step more).standing.turns
  grown =
      let grows = (act_runs (setting_in by_pasts seen all step) (given all) (given all)
      seen.script.bodies st step.line step.act).grows in
      subst (λ x. accepted st.turns ≤ accepted x) (sym grows.is)
      (accepted_more grows.more st.turns)

  before : run_of_lines by_pasts seen.script all (length st.running.bound) ≡ st
  before =
      later_halts_stay by_pasts seen.script more seen.halts (length st.running.bound) (rw (←
      keeps.between) halts.low) ∙ sym keeps.between

  stands : (after_step seen step more).standing
      ≡ run_of_lines by_pasts seen.script all
      (length (after_step seen step more).standing.running.bound)
  stands =
      let same : suc (length st.running.bound) ≡ length st.running.bound + 1 = omega arith in
      sym
      (ap (run_of_lines by_pasts seen.script all) (accepts_one ∙ sym same)
      ∙ one_more (by_pasts seen.script.objects) (given all) seen.script.bodies
      (length st.running.bound) seen.script.steps start step next
      ∙ ap (λ (n : ℕ). after_line (run_of_lines by_pasts seen.script all
      (length st.running.bound)) step.line
      (act (setting (by_pasts seen.script.objects) (given all) step (drop n seen.script.steps))
      seen.script.bodies (run_of_lines by_pasts seen.script all (length st.running.bound))
      step.act)) same
      ∙ ap (λ (x : Standing). after_line x step.line
      (act (setting_in by_pasts seen all step) seen.script.bodies x step.act)) before)

  pub run_goes_on : KeepsStep seen step more new may
      → KeepsBetween (after_step seen step more) new may
  run_goes_on made = record {
    is_script = keeps.is_script;
    keeps =
        subst (λ (p : Passed). KeepsLines seen.script (after_line st step.line p) new may) agree
        made;
    between = stands;
    newest =
        newest_behind (accepted st.turns) more seen.halts halts.newest keeps.newest halts.low
        keeps.past;
    past =
        all_behind (λ (h : Halt). h.input < accepted (after_step seen step more).standing.turns)
        more seen.halts halts.high
        (all_so (λ (h : Halt). h.input < accepted st.turns)
        (λ (h : Halt). h.input < accepted (after_step seen step more).standing.turns) seen.halts
        (λ h less. let so = grown in omega (arith, less, so)) keeps.past);
    lost = line_lost seen step more halts keeps.past lost;
  }

-- What is kept between lines is such a run.
pub so_far : (seen : Seen) (lines : LinesFields) (may : ℕ → Logged → Type 0)
    → KeepsBetween seen lines may → IsRunSoFar seen
so_far seen lines may keeps = record {
  is_script = keeps.is_script;
  under = keeps.keeps.runs.under;
  between = keeps.between;
  newest = keeps.newest;
  past = keeps.past;
}

pub goes_on : LinesGoOn
goes_on seen step more old new might may keeps next halts made =
    run_goes_on seen step more new may (so_far seen old might keeps) next halts
    (begun_lost step.act seen.standing seen.halts keeps.lost) made
