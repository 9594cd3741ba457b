-- What stands later, where inputs were put in between, each to a node that was not halted: more
-- events stand, and what was so of the halts stays so.
use Rattle.std.proofs.Common.{◌≡◌, ◌≤◌, ℕ, true, List, [], ◌++◌}
use Rattle.std.proofs.Common.{Some, sym, ap, ◌∙◌, subst, arith}
use Rattle.std.proofs.lemmas.List.{append_assoc}
use Rattle.cam_event.specs.declared.Event.{Event}
use Rattle.cam_runs.specs.Halts.{Halt, Turn, accepted, given, halt_at}
use Rattle.cam_runs.specs.Running.{has_number}
use Rattle.cam_runs.specs.Standing.{Standing}
use Rattle.cam_cluster.specs.FoundHalts.{AreLostSoFar, IsLostSoFar}
use Rattle.cam_cluster.specs.KnownHalts.{AgreesAt, AgreesWithStopsAt}
use Rattle.cam_cluster.specs.Stopping.{IsAsStopped}
use Rattle.cam_cluster.proofs.LastInputs.{accepted_more}

-- no halt of an input from this number on is taken
abbrev pub NoneTaken : List Halt → ℕ → Type 0
NoneTaken halts n = (k : ℕ) → n ≤ k → halt_at halts k ≡ Some true → ⊥

pub record Extends (halts : List Halt) (old new : Standing) : Type 0 where
  pub events : List Event
  pub trace : new.running.trace ≡ events ++ old.running.trace
  pub more : List Turn
  pub turns : new.turns ≡ more ++ old.turns
  pub lost :
      NoneTaken halts (accepted old.turns) → AreLostSoFar old halts → AreLostSoFar new halts
  -- a node that is halted by the stops, or not, was so, and its halts go on agreeing with the stops
  pub stopped :
      (m : ℕ) → IsAsStopped (has_number new.halted m) new.turns m
      → IsAsStopped (has_number old.halted m) old.turns m
  pub agrees :
      NoneTaken halts (accepted old.turns) → (m : ℕ)
      → IsAsStopped (has_number new.halted m) new.turns m → AgreesAt m (given halts) old
      → AgreesAt m (given halts) new

-- the same nodes are halted after the same turns
lost_as : (old new : Standing) (halts : List Halt) (s : ℕ) → new.turns ≡ old.turns
    → new.halted ≡ old.halted
    → (has_number old.halted s ≡ true → IsLostSoFar old.turns halts s)
    → has_number new.halted s ≡ true → IsLostSoFar new.turns halts s
lost_as old new halts s turns halted lost is =
    rw turns (lost (ap (λ (hs : List ℕ). has_number hs s) (sym halted) ∙ is))

pub same_extends : (halts : List Halt) (old new : Standing)
    → new.running.trace ≡ old.running.trace → new.turns ≡ old.turns → new.halted ≡ old.halted
    → Extends halts old new
same_extends halts old new trace turns halted = record {
  events = [];
  trace = trace;
  more = [];
  turns = turns;
  lost = λ none lost s is. lost_as old new _ _ turns halted (lost s) is;
  stopped = λ m so. subst (λ (z : List ℕ × List Turn). IsAsStopped (has_number z.0 m) z.1 m)
      (λ i. (halted i, turns i)) so;
  agrees = λ none m so agrees. subst (λ (z : List ℕ × List Turn). AgreesWithStopsAt m (given halts)
      z.1 (has_number z.0 m)) (sym (λ i. (halted i, turns i))) agrees;
}

pub extends_on : (halts : List Halt) (a b d : Standing) → Extends halts a b → Extends halts b d
    → Extends halts a d
extends_on halts a b d one two = record {
  events = two.events ++ one.events;
  trace =
      two.trace ∙ ap (λ (t : List Event). two.events ++ t) one.trace
      ∙ sym (append_assoc two.events one.events a.running.trace);
  more = two.more ++ one.more;
  turns =
      two.turns ∙ ap (λ (ts : List Turn). two.more ++ ts) one.turns
      ∙ sym (append_assoc two.more one.more a.turns);
  lost = λ none lost. two.lost (none_later none) (one.lost none lost);
  stopped = λ m so. one.stopped m (two.stopped m so);
  agrees = λ none m so agrees.
      two.agrees (none_later none) m so (one.agrees none m (two.stopped m so) agrees);
}
  where
    none_later : NoneTaken halts (accepted a.turns) → NoneTaken halts (accepted b.turns)
    none_later none k least =
        none k
        (let grown = accepted_more one.more a.turns in
        let is = ap accepted one.turns in
        omega (arith, least, grown, is))
