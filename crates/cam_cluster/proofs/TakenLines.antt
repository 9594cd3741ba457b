-- Lines that lose or cut a letter, taken; and what a line of one input tells.
use Rattle.std.proofs.Common.{◌≡◌, ℕ, List, [], ◌∷◌, ◌++◌, Some, None, refl, sym}
use Rattle.std.proofs.Common.{Ok, Err}
use Rattle.cam_bytes.specs.declared.WireFault.{WireFault}
use Rattle.cam_type.specs.declared.ObjectDecl.{ObjectDecl}
use Rattle.cam_event.specs.Inputs.{Receives}
use Rattle.cam_event.specs.Readings.{by_knowledge}
use Rattle.cam_node.specs.Log.{Logged}
use Rattle.cam_runs.specs.Halts.{accepted, given}
use Rattle.cam_runs.specs.Standing.{Setting, Standing}
use Rattle.cam_script.specs.declared.Act.{Act}
use Rattle.cam_script.specs.declared.Act.TheVariants as acts
use Rattle.cam_script.specs.declared.Script.{Script}
use Rattle.cam_script.specs.declared.Step.{Step}
use Rattle.cam_cluster.specs.declared.LineFault.{LineFault}
use Rattle.cam_cluster.specs.declared.LineFault.TheVariants as line_faults
use Rattle.cam_cluster.specs.declared.lines.cut.CutLetter.TheVariants as cuts
use Rattle.cam_cluster.specs.declared.works.Put.{Put}
use Rattle.cam_cluster.specs.Between.{KeepsBetween, halts_from}
use Rattle.cam_cluster.specs.LetterLines.{IsCut, IsLoss, cut_fault}
use Rattle.cam_cluster.specs.LetterLines as letters
use Rattle.cam_cluster.specs.Seen.{Seen, later_steps, setting_in}
use Rattle.cam_cluster.specs.SoFar.{LinesFields}
use Rattle.cam_cluster.specs.Taking.{IsTakenAlone, IsInputLine, IsStepTaken, IsWanting, PutsInput}
use Rattle.cam_cluster.proofs.Counted.{cut_counts}
use Rattle.cam_cluster.proofs.NextLine.{done_goes, led_goes, refused_goes, wanting_goes}

module _ (line : ℕ) (old new : LinesFields) (might may : ℕ → Logged → Type 0) where
  abbrev at : Act → Step
  at act_is = record { line = line; act = act_is }

  -- A line that is refused, or finds no memory.
  pub fault_taken : {T : Type 0}
      (ends : Script → Standing → Setting → LinesFields → (ℕ → Logged → Type 0) → T → Type 0)
      (act_is : Act) (fault : LineFault)
      → ((seen : Seen) → KeepsBetween seen new may → IsWanting act_is seen (at act_is) new may)
      → letters.IsLineBy line act_is ends old might new may (Err fault)
      → IsStepTaken (at act_is) old might new may (Err fault)
  fault_taken ends act_is (line_faults.Refused refusal) wants is seen keeps next =
      refused_goes seen (at act_is) old new might may keeps next refusal
      (is seen.script seen.standing (given seen.halts) (later_steps seen) keeps.is_script
      keeps.keeps next)
  fault_taken ends act_is line_faults.NoMemory wants is seen keeps next =
      wants seen
      (wanting_goes seen (at act_is) old new might may keeps next
      (is seen.script seen.standing (given seen.halts) (later_steps seen) keeps.is_script
      keeps.keeps next))

  -- A letter is lost.
  pub loss_taken : (k : ℕ) (done : Unit {0})
      → letters.IsLineBy line (acts.Lose k) (IsLoss k) old might new may (Ok done)
      → IsStepTaken (at (acts.Lose k)) old might new may (Ok None)
  loss_taken k done is seen keeps next =
      let so =
      is seen.script seen.standing (given seen.halts) (later_steps seen) keeps.is_script keeps.keeps
      next in
      (done_goes seen (at (acts.Lose k)) old new might may keeps next so.passed so.stands, refl)

  -- A letter is cut short,
  pub cut_taken : (k bytes : ℕ) (fault : WireFault)
      → letters.IsLineBy line (acts.Cut k bytes) (IsCut k bytes) old might new may
      (Ok (cuts.Bad fault))
      → IsStepTaken (at (acts.Cut k bytes)) old might new may (Ok (Some fault))
  cut_taken k bytes fault is seen keeps next =
      let so =
      is seen.script seen.standing (given seen.halts) (later_steps seen) keeps.is_script keeps.keeps
      next in (
        done_goes seen (at (acts.Cut k bytes)) old new might may keeps next so.1.passed so.1.stands,
        sym so.0,
      )

  -- or arrives whole.
  pub whole_taken : (k bytes : ℕ) (done : Put)
      → letters.IsLineBy line (acts.Cut k bytes) (IsCut k bytes) old might new may
      (Ok (cuts.Delivered done))
      → IsStepTaken (at (acts.Cut k bytes)) old might new may (Ok None)
  whole_taken k bytes done is seen keeps next =
      let more = halts_from (accepted seen.standing.turns) (done ∷ []) in
      let so =
      is seen.script seen.standing (given (more ++ seen.halts)) (later_steps seen) keeps.is_script
      keeps.keeps next in (
        led_goes seen (at (acts.Cut k bytes)) old new might may keeps next (Receives so.1.letter)
            done
            so.1.led
            (cut_counts
            (setting_in by_knowledge seen (more ++ seen.halts) (at (acts.Cut k bytes)))
            seen.standing line seen.script.bodies k bytes so.1.led.passed so.0),
        sym so.0,
      )

-- What is built and neither loses nor cuts a letter puts an input.
pub other_input : (a : Act) → IsTakenAlone a → ((k bytes : ℕ) → a ≡ acts.Cut k bytes → ⊥)
    → (a ≡ acts.Drain → ⊥) → ((k : ℕ) → a ≡ acts.Lose k → ⊥) → PutsInput a
other_input (acts.Begin s) built no_cut no_drain no_lose = built
other_input (acts.Start s body) built no_cut no_drain no_lose = built
other_input (acts.Ask p m) built no_cut no_drain no_lose = built
other_input (acts.Call v x op) built no_cut no_drain no_lose = built
other_input (acts.Commit v value) built no_cut no_drain no_lose = built
other_input (acts.Abort v) built no_cut no_drain no_lose = built
other_input (acts.GiveUp v w) built no_cut no_drain no_lose = built
other_input (acts.Deliver k) built no_cut no_drain no_lose = built
other_input (acts.Tell s to) built no_cut no_drain no_lose = built
other_input (acts.Query s v) built no_cut no_drain no_lose = built
other_input (acts.Go v) built no_cut no_drain no_lose = built
other_input (acts.Restart s) built no_cut no_drain no_lose = built
other_input acts.Drain built no_cut no_drain no_lose = absurd (no_drain refl)
other_input acts.Play built no_cut no_drain no_lose = built
other_input (acts.Stop s calls) built no_cut no_drain no_lose = built
other_input (acts.Cut k bytes) built no_cut no_drain no_lose = absurd (no_cut k bytes refl)
other_input (acts.Lose k) built no_cut no_drain no_lose = absurd (no_lose k refl)

-- A line of one input tells of no letter.
told_none : (objects : List ObjectDecl) (st : Standing) (a : Act) → PutsInput a
    → cut_fault (by_knowledge objects) st a ≡ None
told_none objects st (acts.Begin s) puts = refl
told_none objects st (acts.Start s body) puts = refl
told_none objects st (acts.Ask p m) puts = refl
told_none objects st (acts.Call v x op) puts = refl
told_none objects st (acts.Commit v value) puts = refl
told_none objects st (acts.Abort v) puts = refl
told_none objects st (acts.GiveUp v w) puts = refl
told_none objects st (acts.Deliver k) puts = refl
told_none objects st (acts.Tell s to) puts = refl
told_none objects st (acts.Query s v) puts = refl
told_none objects st (acts.Go v) puts = elim puts [ ]
told_none objects st (acts.Cut k bytes) puts = elim puts [ ]
told_none objects st (acts.Lose k) puts = elim puts [ ]
told_none objects st (acts.Restart s) puts = elim puts [ ]
told_none objects st acts.Drain puts = elim puts [ ]
told_none objects st acts.Play puts = elim puts [ ]
told_none objects st (acts.Stop s calls) puts = elim puts [ ]

-- Where memory runs out in one, what was kept is kept.
wanting_so : (seen : Seen) (step : Step) (new : LinesFields) (may : ℕ → Logged → Type 0) (a : Act)
    → PutsInput a → KeepsBetween seen new may → IsWanting a seen step new may
wanting_so seen step new may (acts.Begin s) puts keeps = keeps
wanting_so seen step new may (acts.Start s body) puts keeps = keeps
wanting_so seen step new may (acts.Ask p m) puts keeps = keeps
wanting_so seen step new may (acts.Call v x op) puts keeps = keeps
wanting_so seen step new may (acts.Commit v value) puts keeps = keeps
wanting_so seen step new may (acts.Abort v) puts keeps = keeps
wanting_so seen step new may (acts.GiveUp v w) puts keeps = keeps
wanting_so seen step new may (acts.Deliver k) puts keeps = keeps
wanting_so seen step new may (acts.Tell s to) puts keeps = keeps
wanting_so seen step new may (acts.Query s v) puts keeps = keeps
wanting_so seen step new may (acts.Go v) puts keeps = elim puts [ ]
wanting_so seen step new may (acts.Cut k bytes) puts keeps = elim puts [ ]
wanting_so seen step new may (acts.Lose k) puts keeps = elim puts [ ]
wanting_so seen step new may (acts.Restart s) puts keeps = elim puts [ ]
wanting_so seen step new may acts.Drain puts keeps = elim puts [ ]
wanting_so seen step new may acts.Play puts keeps = elim puts [ ]
wanting_so seen step new may (acts.Stop s calls) puts keeps = elim puts [ ]

module _ (step : Step) (old new : LinesFields) (might may : ℕ → Logged → Type 0)
    (puts : PutsInput step.act) where
  pub put_taken : (done : Put) → IsInputLine step old might new may (Ok done)
      → IsStepTaken step old might new may (Ok None)
  put_taken done is seen keeps next =
      (is seen keeps next, sym (told_none seen.script.objects seen.standing _ puts))

  pub put_fault : (fault : LineFault) → IsInputLine step old might new may (Err fault)
      → IsStepTaken step old might new may (Err fault)
  put_fault (line_faults.Refused refusal) is seen keeps next = is seen keeps next
  put_fault line_faults.NoMemory is seen keeps next =
      wanting_so _ _ _ _ _ puts (is seen keeps next)
