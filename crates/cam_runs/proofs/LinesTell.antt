-- The last inputs tell which nodes the lines that are still to come restart.
use Rattle.std.proofs.Common.{◌≡◌, inl, inr, ℕ, eqb, Bool, true, false, ◌&&◌, ◌||◌}
use Rattle.std.proofs.Common.{if◌then◌else◌, List, [], ◌∷◌, ◌++◌, Option, Some, None}
use Rattle.std.proofs.Common.{refl, sym, ap, ◌∙◌}
use Rattle.std.specs.Prelude.{nat_lt}
use Rattle.std.specs.List.{AllByRecursion, list_any}
use Rattle.std.proofs.lemmas.Bool.{eq-eqb}
use Rattle.std.proofs.lemmas.Bool.{cases_Bool}
use Rattle.std.proofs.lemmas.Bool.Decides.{eqb_tells}
use Rattle.std.proofs.lemmas.Option.{none-some, same_Some}
use Rattle.cam_event.specs.Inputs.{Restarts}
use Rattle.cam_event.specs.Readings.{Reading}
use Rattle.cam_script.specs.declared.Statement.{Statement}
use Rattle.cam_script.specs.declared.Step.{Step}
use Rattle.cam_runs.specs.Halts.{Turn, Input, Stop, Restart, Halting, by_stops}
use Rattle.cam_runs.specs.Halts.{appends, calls_left, stopped_append}
use Rattle.cam_runs.specs.Standing.{Standing, Setting, ended_halt}
use Rattle.cam_runs.specs.HaltedLines.{act, after_line, is_restart, is_restart_act}
use Rattle.cam_runs.specs.HaltedLines.{run_steps, setting}
use Rattle.cam_runs.specs.Stops.{AreTold, LinesTell, ToldHaltsAreTaken, last_left, last_stop}
use Rattle.cam_runs.specs.Stops.{told_last}
use Rattle.cam_runs.proofs.HaltGrows.{after_turns}
use Rattle.cam_runs.proofs.LinesAdded.{act_adds, restart_is}
use Rattle.cam_runs.proofs.TurnsAdded.{Adds}

-- Each input tells it of the lines behind its own.
abbrev TellsOf : List Step → Turn → Type 0
TellsOf steps (Input s line w again) = again ≡ list_any (is_restart s) steps
TellsOf steps (Stop s calls) = Unit {0}
TellsOf steps (Restart s) = Unit {0}

told_added : (steps : List Step) (more turns : List Turn) (s : ℕ) (told : Bool)
    → AllByRecursion (TellsOf steps) more
    → (told_last turns s ≡ Some told → told ≡ list_any (is_restart s) steps)
    → told_last (more ++ turns) s ≡ Some told → told ≡ list_any (is_restart s) steps
told_added steps [] turns s told each before is = before is
told_added steps (Input m line w again ∷ more) turns s told each before is =
    elim (eqb_tells m s) [
      | inl y ↦
          let here : told_last (Input m line w again ∷ more ++ turns) s ≡ Some again =
          rw y.0 refl in
          same_Some told again (sym is ∙ here) ∙ each.0
          ∙ ap (λ k. list_any (is_restart k) steps) y.1
      | inr other ↦
          let older : told_last (Input m line w again ∷ more ++ turns) s
          ≡ told_last (more ++ turns) s = rw other.0 refl in
          told_added steps more turns s told each.1 before (sym older ∙ is)
    ]
told_added steps (Stop m calls ∷ more) turns s told each before is =
    told_added steps more turns s told each.1 before is
told_added steps (Restart m ∷ more) turns s told each before is =
    told_added steps more turns s told each.1 before is

module _ (reading : Reading) (halts : Halting) (bodies : List (List Statement)) where
  abbrev after : Standing → Step → List Step → Standing
  after st step steps =
      after_line st step.line (act (setting reading halts step steps) bodies st step.act)

  pub line_tells : (st : Standing) (step : Step) (steps : List Step)
      → AreTold st.turns (step ∷ steps) → AreTold (after st step steps).turns steps
  line_tells st step steps before s told is = elim (cases_Bool (is_restart_act s step.act)) [
    | inl again ↦
        same_Some told (c.restarted s)
        (sym is ∙ ap (λ t. told_last t s) (turns again)
        ∙ ap (λ b. if b then Some (c.restarted s) else told_last (Restart s ∷ st.turns) s)
        (eq-eqb s s refl))
    | inr other ↦
        told_added steps adds.more st.turns s told adds.each
        (λ was. before s told was ∙ ap (λ b. b || list_any (is_restart s) steps) other)
        (sym (ap (λ t. told_last t s) adds.is) ∙ is)
  ]
    where
      c : Setting
      c = setting reading halts step steps

      adds : Adds (TellsOf steps) st (after st step steps)
      adds =
          act_adds c (TellsOf steps) bodies st step.line step.act
          (record { puts = λ m w. refl; restarts = λ m. tt; stops = λ m calls is. tt })

      w : Bool
      w = appends reading st.running.trace (Restarts s)

      turns : is_restart_act s step.act ≡ true
          → (after st step steps).turns
          ≡ Input s step.line w (c.restarted s) ∷ Restart s ∷ st.turns
      turns again =
          ap (λ does. (after_line st step.line (act c bodies st does)).turns)
          (restart_is s step.act again)
          ∙ after_turns step.line (c.restarted s) (ended_halt st s) s
          (reading.next st.running.trace (Restarts s)) w
          (halts (Restart s ∷ st.turns) s w (c.restarted s))

  -- and at the end: no step is still to come
  pub end_tells : (steps : List Step) (st : Standing) → AreTold st.turns steps
      → AreTold (run_steps reading halts bodies steps st).turns []
  end_tells [] st before = before
  end_tells (step ∷ steps) st before =
      end_tells steps (after st step steps) (line_tells st step steps before)

pub lines_tell : LinesTell
lines_tell reading halts bodies st step later before =
    line_tells reading halts bodies st step later before

-- what the stop had left
taken_by : (w again took : Bool) (o : Option ℕ) → again ≡ true
    → (if w then stopped_append o again else None) ≡ Some took
    → (left : ℕ) × (o ≡ Some left) × (took ≡ eqb left 3)
taken_by false again took o on is = absurd (none-some took is)
taken_by true again took None on is = absurd (none-some took is)
taken_by true again took (Some n) on is = (n, refl, by (nat_lt n 4) is)
  where
    whole : (b : Bool) → (b && again) ≡ b
    whole true = on
    whole false = refl

    by : (b : Bool) → (if b then Some (eqb n 3 && again) else None) ≡ Some took
        → took ≡ eqb n 3
    by true h = same_Some took (eqb n 3 && again) (sym h) ∙ whole (eqb n 3)
    by false h = absurd (none-some took h)

pub told_halts_are_taken : ToldHaltsAreTaken
told_halts_are_taken [] s took told is = absurd (none-some took is)
told_halts_are_taken (Input m line w again ∷ before) s took told is = elim (eqb_tells m s) [
  | inl y ↦
      let tells : told_last (Input m line w again ∷ before) s ≡ Some again = rw y.0 refl in
      let here : last_stop (Input m line w again ∷ before) s ≡ by_stops before m w again =
      rw y.0 refl in
      let had : last_left (Input m line w again ∷ before) s ≡ calls_left before m =
      rw y.0 refl in
      let taken =
      taken_by w again took (calls_left before m) (same_Some again true (sym tells ∙ told))
      (sym here ∙ is) in
      (taken.0, had ∙ taken.1, taken.2)
  | inr other ↦
      let tells : told_last (Input m line w again ∷ before) s ≡ told_last before s =
      rw other.0 refl in
      let here : last_stop (Input m line w again ∷ before) s ≡ last_stop before s =
      rw other.0 refl in
      let had : last_left (Input m line w again ∷ before) s ≡ last_left before s =
      rw other.0 refl in
      let taken = told_halts_are_taken before s took (sym tells ∙ told) (sym here ∙ is) in
      (taken.0, had ∙ taken.1, taken.2)
]
told_halts_are_taken (Stop m calls ∷ before) s took told is =
    told_halts_are_taken before s took told is
told_halts_are_taken (Restart m ∷ before) s took told is =
    told_halts_are_taken before s took told is
