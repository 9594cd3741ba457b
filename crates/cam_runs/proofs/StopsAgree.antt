-- What each step makes of the agreement with stop lines.
use Rattle.std.proofs.Common.{◌≡◌, inl, inr, ℕ, ◌<◌, ◌≤◌, eqb, Bool, true, false, ◌&&◌}
use Rattle.std.proofs.Common.{List, [], ◌∷◌, ◌++◌, Option, Some, None}
use Rattle.std.proofs.Common.{refl, sym, ap, ◌∙◌, subst, arith}
use Rattle.std.specs.List.{AllByRecursion}
use Rattle.std.proofs.lemmas.Bool.{eq-eqb, ne_eqb, or_left}
use Rattle.std.proofs.lemmas.Bool.Decides.{eqb_tells}
use Rattle.cam_event.specs.declared.Event.{Event}
use Rattle.cam_event.specs.Inputs.{node_of}
use Rattle.cam_runs.specs.Running.{has_number}
use Rattle.cam_runs.specs.Halts.{Halt, halt_at, Turn, Input, Stop, Restart, accepted}
use Rattle.cam_runs.specs.Halts.{Halting, appends, by_stops, given}
use Rattle.cam_runs.specs.Standing.{Standing, after_input}
use Rattle.cam_runs.specs.Stops.{known_of, but_for, AgreesWithStops, Agrees}
use Rattle.cam_runs.specs.Stops.{PutsAgree, LaterHaltsAgree}

-- The nodes that are halted are told by what is answered of each.
pub agree_for : (halts : Halting) (turns : List Turn) (halted other : ℕ → Bool)
    → ((m : ℕ) → halted m ≡ other m) → AgreesWithStops halts turns halted
    → AgreesWithStops halts turns other
agree_for halts turns halted other same h =
    subst (AgreesWithStops halts turns) (λ i m. same m i) h

-- Halts that differ at no input so far agree alike.
pub agree_alike : (halts other : Halting) (turns : List Turn) (halted : ℕ → Bool)
    → ((before : List Turn) (s : ℕ) (w again : Bool) → accepted before < accepted turns
    → halts before s w again ≡ other before s w again)
    → AgreesWithStops halts turns halted → AgreesWithStops other turns halted
agree_alike halts other [] halted alike h = tt
agree_alike halts other (Input s line w again ∷ before) halted alike h = (
  sym (alike before s w again (omega arith)) ∙ h.0,
  agree_alike halts other before (but_for s halted)
      (λ past m v a low. alike past m v a (omega (arith, low))) h.1,
)
agree_alike halts other (Stop s calls ∷ before) halted alike h =
    agree_alike halts other before halted alike h
agree_alike halts other (Restart s ∷ before) halted alike h =
    agree_alike halts other before halted alike h

pub and_false : (b : Bool) → (b && false) ≡ false
and_false true = refl
and_false false = refl

pub and_true : (b : Bool) → (b && true) ≡ b
and_true true = refl
and_true false = refl

-- an input
newest : (xs : List ℕ) (s : ℕ) → has_number (s ∷ xs) s ≡ true
newest xs s = or_left (eqb s s) (has_number xs s) (eq-eqb s s refl)

none_known : (said : Option Bool) → None ≡ known_of true said → None ≡ said
none_known None h = refl
none_known (Some took) h = cc

but_none : (halted : ℕ → Bool) (s m : ℕ) → halted s ≡ false → halted m ≡ but_for s halted m
but_none halted s m awake = elim (eqb_tells m s) [
  | inl y ↦ rw y.0 (ap halted y.1 ∙ awake ∙ sym (and_false (halted m)))
  | inr other ↦ rw other.0 (sym (and_true (halted m)))
]

but_added : (xs : List ℕ) (s m : ℕ) → has_number xs s ≡ false
    → has_number xs m ≡ but_for s (has_number (s ∷ xs)) m
but_added xs s m awake = elim (eqb_tells m s) [
  | inl y ↦
      ap (has_number xs) y.1 ∙ awake
      ∙ sym (rw y.0 (and_false (has_number (s ∷ xs) m)))
  | inr other ↦
      rw (other.0, ne_eqb s m (λ e. other.1 (sym e))) (sym (and_true (has_number xs m)))
]

after_agrees : (halts : Halting) (line s : ℕ) (again : Bool) (st : Standing) (e : Event) (w : Bool)
    (said : Option Bool) → halts st.turns s w again ≡ said → Agrees halts st
    → has_number st.halted s ≡ false → said ≡ known_of true (by_stops st.turns s w again)
    → Agrees halts (after_input line again st s e w said)
after_agrees halts line s again st e w None is h awake known = (
  is ∙ none_known (by_stops st.turns s w again) known
      ∙ sym (ap (λ b. known_of b (by_stops st.turns s w again)) awake),
  agree_for halts st.turns (has_number st.halted) (but_for s (has_number st.halted))
      (λ m. but_none (has_number st.halted) s m awake) h,
)
after_agrees halts line s again st e w (Some true) is h awake known = (
  is ∙ known
      ∙ sym (ap (λ b. known_of b (by_stops st.turns s w again)) (newest st.halted s)),
  agree_for halts st.turns (has_number st.halted) (but_for s (has_number (s ∷ st.halted)))
      (λ m. but_added st.halted s m awake) h,
)
after_agrees halts line s again st e w (Some false) is h awake known = (
  is ∙ known
      ∙ sym (ap (λ b. known_of b (by_stops st.turns s w again)) (newest st.halted s)),
  agree_for halts st.turns (has_number st.halted) (but_for s (has_number (s ∷ st.halted)))
      (λ m. but_added st.halted s m awake) h,
)

pub puts_agree : PutsAgree
puts_agree c st input h awake known =
    let s : ℕ = node_of st.running.trace input in
    let w : Bool = appends c.reading st.running.trace input in
    after_agrees c.halts c.line s (c.restarted s) st (c.reading.next st.running.trace input) w
    (c.halts st.turns s w (c.restarted s)) refl h awake known

-- halts that are still to come
at_earlier : (more halts : List Halt) (n k : ℕ)
    → AllByRecursion (λ (h : Halt). n ≤ h.input) more → k < n
    → halt_at halts k ≡ halt_at (more ++ halts) k
at_earlier [] halts n k later low = refl
at_earlier (h ∷ more) halts n k later low =
    let high = later.0 in
    rw (ne_eqb h.input k (λ e. omega (arith, e, low, high)))
    (at_earlier more halts n k later.1 low)

pub later_halts_agree : LaterHaltsAgree
later_halts_agree more halts st later h =
    agree_alike (given halts) (given (more ++ halts)) st.turns (has_number st.halted)
    (λ before s w again low. at_earlier more halts (accepted st.turns) (accepted before) later low)
    h
