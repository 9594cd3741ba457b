-- Lists of operations that replay: which operations may change places, and which may be left out.
use Rattle.std.proofs.Common.{◌≡◌, inl, inr, eqb, Bool, true, false, List, [], ◌∷◌, refl, sym, ap, ◌∙◌, subst, cond, ℕ, not, ◌++◌, filter, if◌then◌else◌}
use Rattle.std.proofs.lemmas.Bool.{cases_Bool, eqb-true}
use Rattle.std.proofs.lemmas.List.Elements.{filter-append}
use Rattle.cam_type.specs.Diamond.{Commute}
use Rattle.cam_type.specs.Table.{kind_of, state_after, answer_of}
use Rattle.cam_type.specs.declared.ObjectDecl.{ObjectDecl}
use Rattle.cam_type.specs.declared.Op.{Op}
use Rattle.cam_type.specs.declared.State.{State}
use Rattle.cam_event.proofs.Snoc.{replay_append}
use Rattle.cam_event.specs.Live.{start_of, replay}
use Rattle.cam_event.specs.declared.Operation.{Operation}
use Rattle.cam_names.proofs.Every.{Every, Pairs, every_weaker, every_filter}
use Rattle.cam_type.proofs.KeptKinds.{keeping}
use Rattle.cam_serial.specs.Answering.{step}
use Rattle.cam_serial.specs.Serial.{on_object, ReplaysAfter}

-- the states after a list of operations
abbrev pub run : (ℕ → State) → List Operation → ℕ → State
run st [] = st
run st (o ∷ os) = run (step st o) os

-- each operation answers by what those before it leave
abbrev pub ReplaysFrom : (ℕ → State) → List Operation → Type 0
ReplaysFrom st [] = Unit {0}
ReplaysFrom st (o ∷ os) = (o.answer ≡ answer_of (st o.object) o.op) × ReplaysFrom (step st o) os

-- each object has a state of its kind
abbrev pub OfKind : List ObjectDecl → (ℕ → State) → Type 0
OfKind objects st = (x : ℕ) → kind_of (st x) ≡ kind_of (start_of objects x)

-- Two operations may change places: where both come to one object, they commute at each state of its kind.
abbrev pub Swaps : List ObjectDecl → Operation → Operation → Type 0
Swaps objects o p = o.object ≡ p.object → (state : State) → kind_of state ≡ kind_of (start_of objects o.object) → Commute state o.op p.op

-- an operation leaves the kinds
pub step_kind : (objects : List ObjectDecl) (st : ℕ → State) (o : Operation) → OfKind objects st → OfKind objects (step st o)
step_kind objects st o h x =
    elim (eqb o.object x) as (λ b. kind_of (if b then state_after (st x) o.op else st x) ≡ kind_of (start_of objects x)) [
      | true ↦ keeping (st x) o.op ∙ h x
      | false ↦ h x
    ]

-- a list of operations leaves the kinds
pub run_kind : (objects : List ObjectDecl) (os : List Operation) (st : ℕ → State) → OfKind objects st → OfKind objects (run st os)
run_kind objects [] st h = h
run_kind objects (o ∷ os) st h = run_kind objects os (step st o) (step_kind objects st o h)

-- at one object: both, one or none of the two come to it
swap_cases : (b c : Bool) (s : State) (o p : Op) → (b ≡ true → c ≡ true → Commute s o p) → (if c then state_after (if b then state_after s o else s) p else (if b then state_after s o else s)) ≡ (if b then state_after (if c then state_after s p else s) o else (if c then state_after s p else s))
swap_cases true true s o p h = (h refl refl).same_state
swap_cases true false s o p h = refl
swap_cases false true s o p h = refl
swap_cases false false s o p h = refl

-- two that may change places leave the same states in either order
pub swap : (objects : List ObjectDecl) (st : ℕ → State) (o p : Operation) → OfKind objects st → Swaps objects o p → step (step st o) p ≡ step (step st p) o
swap objects st o p kinds h = λ i x. at x i
  where
    at : (x : ℕ) → step (step st o) p x ≡ step (step st p) o x
    at x = swap_cases (eqb o.object x) (eqb p.object x) (st x) o.op p.op (λ one other.
        let here : o.object ≡ x = eqb-true o.object x one in
        let there : p.object ≡ x = eqb-true p.object x other in
        h (here ∙ sym there) (st x) (kinds x ∙ ap (λ y. kind_of (start_of objects y)) (sym here)))

-- the second of them answers as if the first had not been
pub second_answer : (objects : List ObjectDecl) (st : ℕ → State) (o p : Operation) → OfKind objects st → Swaps objects o p → answer_of (step st o p.object) p.op ≡ answer_of (st p.object) p.op
second_answer objects st o p kinds h =
    elim (cases_Bool (eqb o.object p.object)) [
      | inl same ↦
          let e : o.object ≡ p.object = eqb-true o.object p.object same in
          rw same ((h e (st p.object) (kinds p.object ∙ ap (λ y. kind_of (start_of objects y)) (sym e))).second)
      | inr other ↦ rw other refl
    ]

-- the first of them answers the same after the second
pub first_answer : (objects : List ObjectDecl) (st : ℕ → State) (o p : Operation) → OfKind objects st → Swaps objects o p → answer_of (step st p o.object) o.op ≡ answer_of (st o.object) o.op
first_answer objects st o p kinds h =
    elim (cases_Bool (eqb p.object o.object)) [
      | inl same ↦
          let e : p.object ≡ o.object = eqb-true p.object o.object same in
          rw same ((h (sym e) (st o.object) (kinds o.object)).first)
      | inr other ↦ rw other refl
    ]

-- an operation that may change places with each of a list comes after it
pub past : (objects : List ObjectDecl) (os : List Operation) (st : ℕ → State) (o : Operation) → OfKind objects st → Every (Swaps objects o) os → run (step st o) os ≡ step (run st os) o
past objects [] st o kinds h = refl
past objects (p ∷ os) st o kinds h =
    ap (λ (s : ℕ → State). run s os) (swap objects st o p kinds h.0) ∙ past objects os (step st p) o (step_kind objects st p kinds) h.1

-- a list goes on replaying when its first operation is moved after operations with which it may change places
pub move : (objects : List ObjectDecl) (os ps : List Operation) (st : ℕ → State) (o : Operation) → OfKind objects st → Every (Swaps objects o) os → ReplaysFrom st (o ∷ os ++ ps) → ReplaysFrom st (os ++ o ∷ ps)
move objects [] ps st o kinds h r = r
move objects (p ∷ os) ps st o kinds h r = (
  r.1.0 ∙ second_answer objects st o p kinds h.0,
  move objects os ps (step st p) o (step_kind objects st p kinds) h.1 (
    r.0 ∙ sym (first_answer objects st o p kinds h.0),
    subst (λ (s : ℕ → State). ReplaysFrom s (os ++ ps)) (swap objects st o p kinds h.0) r.1.1,
  ),
)

-- Operations that pass a test are pulled to the front, where each that does not pass may change places with each later one that does.
pub pull : (objects : List ObjectDecl) (test : Operation → Bool) (os : List Operation) (st : ℕ → State) → OfKind objects st → Pairs (λ o p. test o ≡ false → test p ≡ true → Swaps objects o p) os → ReplaysFrom st os → ReplaysFrom st (filter test os ++ filter (λ o. not (test o)) os)
pull objects test [] st kinds h r = tt
pull objects test (o ∷ os) st kinds h r =
    let rest : ReplaysFrom (step st o) (filter test os ++ filter (λ p. not (test p)) os) = pull objects test os (step st o) (step_kind objects st o kinds) h.1 r.1 in
    elim (test o) as (λ b. Every (λ p. b ≡ false → test p ≡ true → Swaps objects o p) os → ReplaysFrom st (cond b (o ∷ filter test os) (filter test os) ++ cond (not b) (o ∷ filter (λ p. not (test p)) os) (filter (λ p. not (test p)) os))) [
      | true ↦ λ here. (r.0, rest)
      | false ↦ λ here. move objects (filter test os) (filter (λ p. not (test p)) os) st o kinds
          (every_filter test (Swaps objects o) os (every_weaker (λ p. false ≡ false → test p ≡ true → Swaps objects o p) (λ p. test p ≡ true → Swaps objects o p) os (λ p g. g refl) here))
          (r.0, rest)
    ] h.0

-- Operations that fail a test may be left out for the answer of a later one, where each may change places with it and with each later one that passes.
pub dropped : (objects : List ObjectDecl) (test : Operation → Bool) (os : List Operation) (st : ℕ → State) (q : Operation) → OfKind objects st → Pairs (λ o p. test o ≡ false → test p ≡ true → Swaps objects o p) os → Every (λ o. test o ≡ false → Swaps objects o q) os → answer_of (run st os q.object) q.op ≡ answer_of (run st (filter test os) q.object) q.op
dropped objects test [] st q kinds h g = refl
dropped objects test (o ∷ os) st q kinds h g =
    let rest : answer_of (run (step st o) os q.object) q.op ≡ answer_of (run (step st o) (filter test os) q.object) q.op = dropped objects test os (step st o) q (step_kind objects st o kinds) h.1 g.1 in
    elim (test o) as (λ b. Every (λ p. b ≡ false → test p ≡ true → Swaps objects o p) os → (b ≡ false → Swaps objects o q) → answer_of (run (step st o) os q.object) q.op ≡ answer_of (run st (cond b (o ∷ filter test os) (filter test os)) q.object) q.op) [
      | true ↦ λ here there. rest
      | false ↦ λ here there.
          let over : Every (Swaps objects o) (filter test os) = every_filter test (Swaps objects o) os (every_weaker (λ p. false ≡ false → test p ≡ true → Swaps objects o p) (λ p. test p ≡ true → Swaps objects o p) os (λ p k. k refl) here) in
          rest
          ∙ ap (λ (s : ℕ → State). answer_of (s q.object) q.op) (past objects (filter test os) st o kinds over)
          ∙ second_answer objects (run st (filter test os)) o q (run_kind objects (filter test os) st kinds) (there refl)
    ] h.0 g.0

-- the state of an object after a list: that of its own operations
pub run_object : (os : List Operation) (st : ℕ → State) (x : ℕ) → run st os x ≡ replay (st x) (on_object x os)
run_object [] st x = refl
run_object (o ∷ os) st x =
    run_object os (step st o) x
    ∙ elim (eqb o.object x) as (λ b. replay (if b then state_after (st x) o.op else st x) (on_object x os) ≡ replay (st x) (cond b (o ∷ on_object x os) (on_object x os))) [ true ↦ refl | false ↦ refl ]

-- a list that ends with one more operation
pub replays_push : (os : List Operation) (o : Operation) (st : ℕ → State) → ReplaysFrom st os → o.answer ≡ answer_of (run st os o.object) o.op → ReplaysFrom st (os ++ o ∷ [])
replays_push [] o st r e = (e, tt)
replays_push (p ∷ os) o st r e = (r.0, replays_push os o (step st p) r.1 e)

-- both parts of a list
pub replays_parts : (os ps : List Operation) (st : ℕ → State) → ReplaysFrom st (os ++ ps) → ReplaysFrom st os × ReplaysFrom (run st os) ps
replays_parts [] ps st r = (tt, r)
replays_parts (o ∷ os) ps st r = let rest = replays_parts os ps (step st o) r.1 in ((r.0, rest.0), rest.1)

-- a list whose two parts replay
pub replays_append : (os ps : List Operation) (st : ℕ → State) → ReplaysFrom st os → ReplaysFrom (run st os) ps → ReplaysFrom st (os ++ ps)
replays_append [] ps st r s = s
replays_append (o ∷ os) ps st r s = (r.0, replays_append os ps (step st o) r.1 s)

-- the states that a list leaves of the start states
abbrev pub states : List ObjectDecl → List Operation → ℕ → State
states objects done x = replay (start_of objects x) (on_object x done)

-- one more operation done is one step more
states_more : (objects : List ObjectDecl) (done : List Operation) (o : Operation) (x : ℕ) → step (states objects done) o x ≡ states objects (done ++ o ∷ []) x
states_more objects done o x =
    elim (eqb o.object x) as (λ b. (if b then state_after (states objects done x) o.op else states objects done x) ≡ replay (states objects done x) (cond b (o ∷ []) [])) [ true ↦ refl | false ↦ refl ]
    ∙ sym (replay_append (start_of objects x) (on_object x done) (on_object x (o ∷ [])))
    ∙ ap (replay (start_of objects x)) (sym (filter-append (λ p. eqb p.object x) done (o ∷ [])))

-- replaying from states is replaying in the words of the law
pub replays_after : (objects : List ObjectDecl) (os done : List Operation) → ReplaysFrom (states objects done) os → ReplaysAfter objects done os
replays_after objects [] done r = tt
replays_after objects (o ∷ os) done r = (
  r.0,
  replays_after objects os (done ++ o ∷ []) (subst (λ (s : ℕ → State). ReplaysFrom s os) (λ i x. states_more objects done o x i) r.1),
)

-- and back
pub replays_before : (objects : List ObjectDecl) (os done : List Operation) → ReplaysAfter objects done os → ReplaysFrom (states objects done) os
replays_before objects [] done r = tt
replays_before objects (o ∷ os) done r = (
  r.0,
  subst (λ (s : ℕ → State). ReplaysFrom s os) (λ i x. sym (states_more objects done o x) i) (replays_before objects os (done ++ o ∷ []) r.1),
)
