-- An input of a node that is not halted, where the nodes that are halted after it are those at
-- whose last input a stop ends: so it was before it, and the input is a halt, lost so far, just
-- where a stop makes it one.
use Rattle.std.proofs.Common.{◌≡◌, inl, inr, ℕ, eqb, Bool, true, false, not, ◌&&◌}
use Rattle.std.proofs.Common.{if◌then◌else◌, List, ◌∷◌, Option, Some, None, is_some}
use Rattle.std.proofs.Common.{refl, sym, ap, ◌∙◌, subst, arith, true≢false}
use Rattle.std.proofs.lemmas.Bool.{and_parts, eq-eqb, ne_eqb, or_left}
use Rattle.std.proofs.lemmas.Bool.Decides.{eqb_tells}
use Rattle.cam_event.specs.declared.Event.{Event}
use Rattle.cam_event.specs.Inputs.{Input as Coming, node_of}
use Rattle.cam_runs.specs.Halts.{Halt, Halting, Input, Turn, accepted, appends, by_stops, given}
use Rattle.cam_runs.specs.Running.{has_number}
use Rattle.cam_runs.specs.Standing.{Setting, Standing, after_input, put}
use Rattle.cam_runs.specs.Stops.{known_of}
use Rattle.cam_cluster.specs.KnownHalts.{AgreesAt}
use Rattle.cam_cluster.specs.Stopping.{IsAsStopped, ends_by, runs_on, stopped_at}
use Rattle.cam_cluster.proofs.Extends.{NoneTaken}
use Rattle.cam_cluster.proofs.NodeAgrees.{input_agrees}
use Rattle.cam_cluster.proofs.StopTurns.{other_was, said_by}

not_so : (b : Bool) → not b ≡ true → b ≡ false
not_so true h = cc
not_so false h = refl

module _ (line : ℕ) (again : Bool) (st : Standing) (s : ℕ) (e : Event) (w : Bool)
    (awake : has_number st.halted s ≡ false) where
  abbrev now : List Turn
  now = Input s line w again ∷ st.turns

  abbrev ends : Option ℕ
  ends = ends_by st.turns s w

  own_stopped : stopped_at now s ≡ (if runs_on st.turns s then ends else None)
  own_stopped = rw (eq-eqb s s refl) refl

  own_runs : runs_on now s ≡ (not (is_some ends) && runs_on st.turns s)
  own_runs = rw (eq-eqb s s refl) refl

  stops_there : IsAsStopped true now s → (runs_on st.turns s ≡ true) × (is_some ends ≡ true)
  stops_there is =
      by (runs_on st.turns s) (sym (ap (λ (o : Option ℕ). is_some o) own_stopped) ∙ is)
    where
      by : (b : Bool) → is_some (if b then ends else None) ≡ true
          → (b ≡ true) × (is_some ends ≡ true)
      by true h = (refl, h)
      by false h = absurd (true≢false (sym h))

  runs_there : IsAsStopped false now s
      → (not (is_some ends) ≡ true) × (runs_on st.turns s ≡ true)
  runs_there is = and_parts (not (is_some ends)) (runs_on st.turns s) (sym own_runs ∙ is)

  ran_on : (b : Bool) → IsAsStopped b now s → runs_on st.turns s ≡ true
  ran_on true is = (stops_there is).0
  ran_on false is = (runs_there is).1

  stopped_before : (halted : ℕ → Bool) (m : ℕ)
      → ((s ≡ m → ⊥) → halted m ≡ has_number st.halted m)
      → IsAsStopped (halted m) now m → IsAsStopped (has_number st.halted m) st.turns m
  stopped_before halted m same so = elim (eqb_tells s m) [
    | inl y ↦
        rw (← y.1) (rw awake (ran_on (halted m) (subst (λ (n : ℕ). IsAsStopped (halted m) now n)
        (sym y.1) so)))
    | inr away ↦
        other_was _ _ line w again _ _ away.1 (rw (← (same away.1)) so)
  ]

  newly : (m : ℕ) → (s ≡ m → ⊥) → has_number (s ∷ st.halted) m ≡ has_number st.halted m
  newly m away = rw (ne_eqb s m away) refl

  abbrev after : Option Bool → Standing
  after o = after_input line again st s e w o

  pub was_stopped : (o : Option Bool) (m : ℕ)
      → IsAsStopped (has_number (after o).halted m) (after o).turns m
      → IsAsStopped (has_number st.halted m) st.turns m
  was_stopped None m so = stopped_before (has_number st.halted) m (λ away. refl) so
  was_stopped (Some true) m so = stopped_before (has_number (s ∷ st.halted)) m (newly m) so
  was_stopped (Some false) m so = stopped_before (has_number (s ∷ st.halted)) m (newly m) so

  none_known : (o : Option Bool) → is_some o ≡ false → None ≡ known_of true o
  none_known None none = refl
  none_known (Some took) none = absurd (true≢false none)

  some_known : (o : Option Bool) → is_some o ≡ true → Some false ≡ known_of true o
  some_known None some = absurd (true≢false (sym some))
  some_known (Some took) some = refl

  pub said_so : (o : Option Bool) → (o ≡ Some true → ⊥)
      → IsAsStopped (has_number (after o).halted s) (after o).turns s
      → o ≡ known_of true (by_stops st.turns s w again)
  said_so None never so =
      none_known (by_stops st.turns s w again) (said_by st.turns s w again ∙ not_so _ (runs_there
      (subst (λ (b : Bool). IsAsStopped b now s) awake so)).0)
  said_so (Some true) never so = absurd (never refl)
  said_so (Some false) never so =
      some_known (by_stops st.turns s w again) (said_by st.turns s w again ∙ (stops_there (subst (λ
      (b : Bool). IsAsStopped b now s) (or_left (eqb s s) (has_number st.halted s) (eq-eqb s s
      refl)) so)).1)

-- So halts that agree with the stops go on agreeing.
pub put_agrees : (c : Setting) (halts : List Halt) → c.halts ≡ given halts → (st : Standing)
    (input : Coming) → has_number st.halted (node_of st.running.trace input) ≡ false
    → NoneTaken halts (accepted st.turns) → (m : ℕ)
    → IsAsStopped (has_number (put c st input).halted m) (put c st input).turns m
    → AgreesAt m (given halts) st → AgreesAt m (given halts) (put c st input)
put_agrees c halts known st input awake none m so agrees =
    rw (← known) (input_agrees c.halts c.line s (c.restarted s) st
    (c.reading.next st.running.trace input) w awake m (rw known agrees)
    (c.halts st.turns s w (c.restarted s)) refl
    (λ same. said_so c.line (c.restarted s) st s
    (c.reading.next st.running.trace input) w awake (c.halts st.turns s w (c.restarted s)) (λ is.
    none (accepted st.turns) (omega arith) (sym (ap (λ (h : Halting). h st.turns s w (c.restarted
    s)) known) ∙ is)) (subst (λ (n : ℕ). IsAsStopped (has_number (put c st input).halted n)
    (put c st input).turns n) (sym same) so)))
  where
    s : ℕ
    s = node_of st.running.trace input

    w : Bool
    w = appends c.reading st.running.trace input
