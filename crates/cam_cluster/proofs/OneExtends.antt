-- An input, whatever halts of it are known, extends what stands.
use Rattle.std.proofs.Common.{◌≡◌, inl, inr, ℕ, Bool, true, false, List, [], ◌∷◌, Option, Some}
use Rattle.std.proofs.Common.{None, refl, sym, ap, ◌∙◌, arith, true≢false}
use Rattle.std.proofs.lemmas.Bool.{ne_eqb}
use Rattle.std.proofs.lemmas.Bool.Decides.{eqb_tells}
use Rattle.cam_event.specs.declared.Event.{Event}
use Rattle.cam_event.specs.Taken.{taken_of}
use Rattle.cam_runs.specs.Halts.{Halt, Input, Turn, accepted, given, halt_at}
use Rattle.cam_runs.specs.Running.{has_number}
use Rattle.cam_runs.specs.Standing.{Standing, after_input}
use Rattle.cam_cluster.specs.FoundHalts.{AreLostSoFar, IsLostSoFar}
use Rattle.cam_cluster.specs.KnownHalts.{AgreesAt}
use Rattle.cam_cluster.specs.Stopping.{IsAsStopped}
use Rattle.cam_cluster.proofs.Extends.{Extends, NoneTaken}
use Rattle.cam_cluster.proofs.InputAgrees.{was_stopped}

module _ (halts : List Halt) (line : ℕ) (again : Bool) (st : Standing) (s : ℕ) (e : Event)
    (w : Bool) (awake : has_number st.halted s ≡ false) where
  abbrev now : List Turn
  now = Input s line w again ∷ st.turns

  -- another node's last input stays,
  other_lost : (m : ℕ) → (s ≡ m → ⊥) → IsLostSoFar st.turns halts m → IsLostSoFar now halts m
  other_lost m away was = record {
    number = was.number;
    last = rw (ne_eqb s m away) was.last;
    lost = was.lost;
  }

  -- and none of a halted node was put.
  still_lost : AreLostSoFar st halts → (m : ℕ) → has_number st.halted m ≡ true
      → IsLostSoFar now halts m
  still_lost lost m is =
      other_lost m (λ same. true≢false (sym is ∙ ap (has_number st.halted) (sym same) ∙ awake))
      (lost m is)

  newly_lost : halt_at halts (accepted st.turns) ≡ Some false → AreLostSoFar st halts → (m : ℕ)
      → has_number (s ∷ st.halted) m ≡ true → IsLostSoFar now halts m
  newly_lost here lost m is = elim (eqb_tells s m) [
    | inl same ↦
        record { number = accepted st.turns; last = rw same.0 refl; lost = here }
    | inr away ↦
        let was : has_number (s ∷ st.halted) m ≡ has_number st.halted m = rw away.0 refl in
        other_lost m away.1 (lost m (sym was ∙ is))
  ]

  abbrev after : Option Bool → Standing
  after o = after_input line again st s e w o

  pub after_extends : (o : Option Bool) → o ≡ halt_at halts (accepted st.turns)
      → (NoneTaken halts (accepted st.turns) → (m : ℕ)
      → IsAsStopped (has_number (after o).halted m) (after o).turns m
      → AgreesAt m (given halts) st → AgreesAt m (given halts) (after o))
      → Extends halts st (after o)
  after_extends None is agrees = record {
    events = e ∷ [];
    trace = refl;
    more = Input s line w again ∷ [];
    turns = refl;
    lost = λ none lost. still_lost lost;
    stopped = was_stopped line again st s e w awake None;
    agrees = agrees;
  }
  after_extends (Some true) is agrees = record {
    events = taken_of e ∷ [];
    trace = refl;
    more = Input s line w again ∷ [];
    turns = refl;
    lost = λ none lost. absurd (none (accepted st.turns) (omega arith) (sym is));
    stopped = was_stopped line again st s e w awake (Some true);
    agrees = agrees;
  }
  after_extends (Some false) is agrees = record {
    events = [];
    trace = refl;
    more = Input s line w again ∷ [];
    turns = refl;
    lost = λ none lost. newly_lost (sym is) lost;
    stopped = was_stopped line again st s e w awake (Some false);
    agrees = agrees;
  }
