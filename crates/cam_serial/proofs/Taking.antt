-- A list that is tested from its first operation on, with the states of all objects taken along.
use Rattle.std.proofs.Common.{◌≡◌, ◌↔◌, ℕ, ◌+◌, ◌<◌, Bool, true, false, ◌&&◌, List, [], ◌∷◌, length, drop, get_or, zero, suc, refl, sym, ap, ◌∙◌, subst, arith}
use Rattle.std.proofs.lemmas.Bool.{and_parts, and_from}
use Rattle.cam_type.specs.declared.ObjectDecl.{ObjectDecl}
use Rattle.cam_type.specs.declared.State.{State}
use Rattle.cam_type.specs.Table.{answer_of, answer_eq}
use Rattle.cam_event.specs.declared.Operation.{Operation}
use Rattle.cam_event.specs.Live.{start_of}
use Rattle.cam_type.proofs.SameAnswers.{answer_eq_same, answer_eq_refl}
use Rattle.cam_serial.specs.Answering.{step, answers_from}
use Rattle.cam_serial.specs.Serial.{Replays}
use Rattle.cam_serial.proofs.Sequences.{ReplaysFrom, replays_after, replays_before}

-- the operations from a place on
drop_at : (os : List Operation) (i : ℕ) (o : Operation) → i < length os → o ≡ get_or os i o → drop i os ≡ o ∷ drop (i + 1) os
drop_at os i o h is = let next : suc i ≡ i + 1 = omega arith in at os i h is ∙ ap (λ k. o ∷ drop k os) next
  where
    at : (os : List Operation) (i : ℕ) → i < length os → o ≡ get_or os i o → drop i os ≡ o ∷ drop (suc i) os
    at [] i h is = absurd (omega (arith, h))
    at (p ∷ os) zero h is = ap (λ (q : Operation). q ∷ os) (sym is)
    at (p ∷ os) (suc i) h is = at os i (omega (arith, h)) is

-- one that does not ends it
pub answers_not : (st : ℕ → State) (os : List Operation) (i : ℕ) (o : Operation) (all : Bool) → i < length os → o ≡ get_or os i o
    → answers_from st (drop i os) ≡ all → answer_eq o.answer (answer_of (st o.object) o.op) ≡ false → false ≡ all
answers_not st os i o all h is before other =
    ap (λ b. b && answers_from (step st o) (drop (i + 1) os)) (sym other) ∙ sym (ap (answers_from st) (drop_at os i o h is)) ∙ before

-- the test says whether the list replays
passes_replays : (st : ℕ → State) (os : List Operation) → answers_from st os ≡ true → ReplaysFrom st os
passes_replays st [] h = tt
passes_replays st (o ∷ os) h =
    let parts = and_parts (answer_eq o.answer (answer_of (st o.object) o.op)) (answers_from (step st o) os) h in
    (answer_eq_same o.answer (answer_of (st o.object) o.op) parts.0, passes_replays (step st o) os parts.1)

replays_passes : (st : ℕ → State) (os : List Operation) → ReplaysFrom st os → answers_from st os ≡ true
replays_passes st [] r = refl
replays_passes st (o ∷ os) r =
    and_from (answer_eq o.answer (answer_of (st o.object) o.op)) (answers_from (step st o) os)
    (subst (λ y. answer_eq o.answer y ≡ true) r.0 (answer_eq_refl o.answer)) (replays_passes (step st o) os r.1)

pub replays_by_test : (objects : List ObjectDecl) (os : List Operation) (passes : Bool) → passes ≡ answers_from (start_of objects) os → (passes ≡ true) ↔ Replays objects os
replays_by_test objects os passes is = (
  λ h. replays_after objects os [] (passes_replays (start_of objects) os (sym is ∙ h)),
  λ r. is ∙ replays_passes (start_of objects) os (replays_before objects os [] r),
)
