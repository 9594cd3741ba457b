-- Each node that is halted after a line halted at its last input, and the event is lost so far.
use Rattle.std.proofs.Common.{◌≡◌, inl, inr, ℕ, ◌<◌, ◌≤◌, Bool, true, false, if◌then◌else◌}
use Rattle.std.proofs.Common.{List, [], ◌∷◌, ◌++◌, Option, Some, refl, sym, ap, ◌∙◌, subst}
use Rattle.std.proofs.Common.{eqb, true≢false}
use Rattle.std.specs.List.{AllByRecursion}
use Rattle.std.proofs.lemmas.Bool.Decides.{eqb_tells}
use Rattle.std.proofs.lemmas.Option.{none-some, same_Some}
use Rattle.cam_event.specs.Readings.{by_pasts}
use Rattle.cam_runs.specs.Halts.{Halt, Stop, accepted, halt_at}
use Rattle.cam_runs.specs.Running.{has_number}
use Rattle.cam_runs.specs.Standing.{Standing, ended_halt}
use Rattle.cam_script.specs.declared.Act.{Act}
use Rattle.cam_script.specs.declared.Act.TheVariants as acts
use Rattle.cam_script.specs.declared.Step.{Step}
use Rattle.cam_histories.proofs.HaltedLists.{without}
use Rattle.cam_cluster.specs.Between.{AreHaltsOfLine, after_step}
use Rattle.cam_cluster.specs.FoundHalts.{AreLostSoFar, IsLostSoFar}
use Rattle.cam_cluster.specs.Seen.{Seen, setting_in}
use Rattle.cam_cluster.proofs.Extends.{Extends, NoneTaken}
use Rattle.cam_cluster.proofs.HaltsDiffer.{none_again}
use Rattle.cam_cluster.proofs.LastInputs.{last_below}
use Rattle.cam_cluster.proofs.LaterHalts.{later_says}
use Rattle.cam_cluster.proofs.LineExtends.{act_extends}
use Rattle.cam_cluster.proofs.Begun.{begun}

-- Halts at inputs before say nothing of this one.
pub newest_say : (more halts : List Halt) (n k : ℕ)
    → AllByRecursion (λ (h : Halt). h.input < n) halts
    → n ≤ k → halt_at (more ++ halts) k ≡ halt_at more k
newest_say [] halts n k past least = none_again _ _ _ past least
newest_say (h ∷ more) halts n k past least =
    ap (λ (o : Option Bool). if eqb h.input k then Some h.took else o) (newest_say more halts n k
    past least)

none_of : (more : List Halt) (k : ℕ) → AllByRecursion (λ (h : Halt). h.took ≡ false) more
    → halt_at more k ≡ Some true → ⊥
none_of [] k lost is = none-some true is
none_of (h ∷ more) k lost is = elim (eqb_tells h.input k) [
  | inl here ↦
      let said : halt_at (h ∷ more) k ≡ Some h.took = rw here.0 refl in
      true≢false (sym (same_Some h.took true (sym said ∙ is)) ∙ lost.0)
  | inr away ↦
      let older : halt_at (h ∷ more) k ≡ halt_at more k = rw away.0 refl in
      none_of more k lost.1 (sym older ∙ is)
]

pub none_taken : (more halts : List Halt) (n : ℕ) → AllByRecursion (λ (h : Halt). h.input < n) halts
    → AllByRecursion (λ (h : Halt). h.took ≡ false) more → NoneTaken (more ++ halts) n
none_taken more halts n past lost k least is =
    none_of _ _ lost (sym (newest_say more _ _ _ past least) ∙ is)

-- Another halt's end leaves the others as they were.
pub ended_lost : (st : Standing) (halts : List Halt) (s : ℕ)
    → ((m : ℕ) → (s ≡ m → ⊥) → has_number st.halted m ≡ true → IsLostSoFar st.turns halts m)
    → AreLostSoFar (ended_halt st s) halts
ended_lost st halts s lost m is = elim (eqb_tells s m) [
  | inl same ↦
      absurd (true≢false (sym is ∙ without st.halted s m
      ∙ ap (λ (b : Bool). if b then false else has_number st.halted m) same.0))
  | inr away ↦
      let was =
      lost m away.1
      (sym (ap (λ (b : Bool). if b then false else has_number st.halted m) away.0)
      ∙ sym (without st.halted s m) ∙ is) in
      record { number = was.number; last = was.last; lost = was.lost }
]

pub begun_lost : (does : Act) (st : Standing) (halts : List Halt) → AreLostSoFar st halts
    → AreLostSoFar (begun st does) halts
begun_lost (acts.Restart s) st halts lost = ended_lost st _ _ (λ m away is. lost m is)
begun_lost (acts.Stop s calls) st halts lost = by (has_number st.halted s)
  where
    by : (b : Bool)
        → AreLostSoFar (if b then st else record st { turns = Stop s calls ∷ st.turns }) halts
    by true m is = lost m is
    by false m is =
        let was = lost m is in record { number = was.number; last = was.last; lost = was.lost }
begun_lost _ st halts lost = lost

-- No input is put by a stop, nor by the end of a halt.
pub begun_accepts : (does : Act) (st : Standing)
    → accepted (begun st does).turns ≡ accepted st.turns
begun_accepts (acts.Stop s calls) st = by (has_number st.halted s)
  where
    by : (b : Bool)
        → accepted (if b then st else record st { turns = Stop s calls ∷ st.turns }).turns
        ≡ accepted st.turns
    by true = refl
    by false = refl
begun_accepts _ st = refl

-- Neither changes the events or the marks.
pub begun_running : (does : Act) (st : Standing) → (begun st does).running ≡ st.running
begun_running (acts.Stop s calls) st = by (has_number st.halted s)
  where
    by : (b : Bool)
        → (if b then st else record st { turns = Stop s calls ∷ st.turns }).running ≡ st.running
    by true = refl
    by false = refl
begun_running _ st = refl

module _ (seen : Seen) (step : Step) (more : List Halt) where
  abbrev all : List Halt
  all = more ++ seen.halts

  abbrev after : Standing
  after = (after_step seen step more).standing

  -- what the line leaves
  pub step_extends : Extends all (begun seen.standing step.act) after
  step_extends =
      act_extends (setting_in by_pasts seen all step) all refl seen.script.bodies seen.standing
      step.line step.act

  pub line_lost : AreHaltsOfLine seen (after_step seen step more) more
      → AllByRecursion (λ (h : Halt). h.input < accepted seen.standing.turns) seen.halts
      → AreLostSoFar (begun seen.standing step.act) seen.halts → AreLostSoFar after all
  line_lost halts past lost =
      step_extends.lost
      (subst (λ (n : ℕ). NoneTaken all n) (sym (begun_accepts step.act seen.standing))
      (none_taken more seen.halts (accepted seen.standing.turns) past halts.lost))
      known_so
    where
      known_so : AreLostSoFar (begun seen.standing step.act) all
      known_so s is =
          let was = lost s is in record {
            number = was.number;
            last = was.last;
            lost =
                sym (later_says more seen.halts (accepted seen.standing.turns) was.number halts.low
                (subst (λ (n : ℕ). was.number < n) (begun_accepts step.act seen.standing)
                (last_below (begun seen.standing step.act).turns s was.number was.last)))
                ∙ was.lost;
          }
