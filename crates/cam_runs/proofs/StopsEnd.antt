-- A run that agrees with the stop lines at its end is the one run by them.
use Rattle.std.proofs.Common.{◌≡◌, ℕ, eqb, Bool, true, false, not, ◌&&◌}
use Rattle.std.proofs.Common.{if◌then◌else◌, List, [], ◌∷◌, ◌++◌, Option, Some, None}
use Rattle.std.proofs.Common.{refl, sym, ap, ◌∙◌, subst}
use Rattle.std.specs.Prelude.{nat_lt}
use Rattle.std.proofs.lemmas.Bool.{true≢false, eq-eqb, ne_eqb, and_parts}
use Rattle.std.proofs.lemmas.Option.{none-some}
use Rattle.cam_runs.specs.Running.{has_number}
use Rattle.cam_runs.specs.Halts.{Turn, Input, Stop, Restart, Halting, by_stops}
use Rattle.cam_runs.specs.Halts.{calls_left, stopped_append}
use Rattle.cam_runs.specs.Standing.{Standing, start}
use Rattle.cam_runs.specs.HaltedLines.{run_halting}
use Rattle.cam_runs.specs.Stops.{AgreesWithStops, AgreeingRunsAreByStops, but_for}
use Rattle.cam_runs.specs.Stops.{AreTold, known_of, told_last}
use Rattle.cam_runs.proofs.LinesTell.{end_tells}
use Rattle.cam_runs.proofs.LinesGrow.{steps_run}

-- A halt of a stop is lost where no later line restarts its node.
lost_for_good : (w : Bool) (left : Option ℕ)
    → known_of true (if w then stopped_append left false else None)
    ≡ (if w then stopped_append left false else None)
lost_for_good false left = refl
lost_for_good true None = refl
lost_for_good true (Some n) = by (nat_lt n 4)
  where
    never : (b : Bool) → Some false ≡ Some (b && false)
    never true = refl
    never false = refl

    by : (b : Bool) → known_of true (if b then Some (eqb n 3 && false) else None)
        ≡ (if b then Some (eqb n 3 && false) else None)
    by true = never (eqb n 3)
    by false = refl

known_at_end : (halted : Bool) (past : List Turn) (s : ℕ) (w again : Bool)
    → (halted ≡ true → again ≡ false)
    → known_of halted (by_stops past s w again) ≡ by_stops past s w again
known_at_end false past s w again lost = refl
known_at_end true past s w again lost =
    subst
    (λ (b : Bool). known_of true (by_stops past s w b) ≡ by_stops past s w b)
    (sym (lost refl)) (lost_for_good w (calls_left past s))

-- So each input is said to be what the stops make of it.
said_at : (halts : Halting) (more past : List Turn) (s line : ℕ) (w again : Bool)
    (halted : ℕ → Bool)
    → AgreesWithStops halts (more ++ (Input s line w again ∷ past)) halted
    → ((m : ℕ) (told : Bool) → halted m ≡ true
    → told_last (more ++ (Input s line w again ∷ past)) m ≡ Some told → told ≡ false)
    → halts past s w again ≡ by_stops past s w again
said_at halts [] past s line w again halted h none =
    h.0
    ∙ known_at_end (halted s) past s w again
    (λ on.
    none s again on
    (ap (λ b. if b then Some again else told_last past s) (eq-eqb s s refl)))
said_at halts (Input m l v a ∷ more) past s line w again halted h none =
    said_at halts more past s line w again (but_for m halted) h.1
    (λ n told on is.
    let parts = and_parts (halted n) (not (eqb n m)) on in
    let apart : eqb m n ≡ false = ne_eqb m n (λ e.
    true≢false (sym parts.1 ∙ ap not (eq-eqb n m (sym e)))) in
    none n told parts.0
    (ap (λ b. if b then Some a else told_last (more ++ (Input s line w again ∷ past)) n) apart
    ∙ is))
said_at halts (Stop m calls ∷ more) past s line w again halted h none =
    said_at halts more past s line w again halted h none
said_at halts (Restart m ∷ more) past s line w again halted h none =
    said_at halts more past s line w again halted h none

pub agreeing_runs_are_by_stops : AgreeingRunsAreByStops
agreeing_runs_are_by_stops reading script halts agrees =
    (steps_run (reading script.objects) halts by_stops script.bodies script.steps start).same
    (λ more past s line w again is.
    said_at halts more past s line w again (has_number all.halted)
    (subst (λ (t : List Turn). AgreesWithStops halts t (has_number all.halted)) is agrees)
    (λ m told on last.
    end_tells (reading script.objects) halts script.bodies script.steps start none m told
    (ap (λ t. told_last t m) is ∙ last)))
  where
    all : Standing
    all = run_halting reading halts script

    none : AreTold start.turns script.steps
    none s told last = absurd (none-some told last)
