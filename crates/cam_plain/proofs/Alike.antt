-- The live operations of a lock table and those of the deeds: what is alike stays so, and says the same of who stands in the way.
use Rattle.std.proofs.Common.{◌≡◌, ℕ, eqb, Bool, true, false, if◌then◌else◌, cond, List, [], ◌∷◌, ◌++◌, filter, Option, Some, None, refl, ap, ◌∙◌}
use Rattle.std.specs.Prelude.{is_none, option_and_then}
use Rattle.std.specs.List.{list_all}
use Rattle.std.proofs.lemmas.Bool.{and_parts}
use Rattle.cam_names.specs.declared.name.Name.{Name}
use Rattle.cam_type.specs.declared.State.{State}
use Rattle.cam_type.specs.declared.Op.{Op}
use Rattle.cam_type.specs.Table.{state_after}
use Rattle.cam_type.specs.Moss as moss
use Rattle.cam_locks.specs.declared.LiveOp.{LiveOp}
use Rattle.cam_locks.specs.Moss as locks
use Rattle.cam_event.specs.declared.Operation.{Operation}
use Rattle.cam_event.specs.Live.{op_of}
use Rattle.cam_plain.specs.Sites.{IsLiveOp, AreLiveOps}

-- one more of each
pub alike_append : (ks : List LiveOp) (os : List Operation) (k : LiveOp) (o : Operation) → AreLiveOps ks os → IsLiveOp k o → AreLiveOps (ks ++ k ∷ []) (os ++ o ∷ [])
alike_append [] [] k o h same = (same, tt)
alike_append (j ∷ ks) (p ∷ os) k o h same = (h.0, alike_append ks os k o h.1 same)
alike_append [] (p ∷ os) k o h same = absurd h
alike_append (j ∷ ks) [] k o h same = absurd h

-- a part of each, by tests that agree on what passes a third
pub alike_filter : (p : LiveOp → Bool) (q test : Operation → Bool) (ks : List LiveOp) (os : List Operation) → ((k : LiveOp) (o : Operation) → IsLiveOp k o → test o ≡ true → p k ≡ q o)
    → list_all test os ≡ true → AreLiveOps ks os → AreLiveOps (filter p ks) (filter q os)
alike_filter p q test [] [] agree all h = tt
alike_filter p q test (k ∷ ks) (o ∷ os) agree all h =
    by (p k) (q o) (agree k o h.0 parts.0) (alike_filter p q test ks os agree parts.1 h.1)
  where
    parts : (test o ≡ true) × (list_all test os ≡ true)
    parts = and_parts (test o) (list_all test os) all

    by : (b c : Bool) → b ≡ c → AreLiveOps (filter p ks) (filter q os) → AreLiveOps (cond b (k ∷ filter p ks) (filter p ks)) (cond c (o ∷ filter q os) (filter q os))
    by true true e rest = (h.0, rest)
    by false false e rest = rest
    by true false e rest = cc
    by false true e rest = cc
alike_filter p q test [] (o ∷ os) agree all h = absurd h
alike_filter p q test (k ∷ ks) [] agree all h = absurd h

-- the same operation stands in the way, with the same lift
pub holder_alike : (committed : List Name) (lift : Operation → Option Name) (a : Name) (x : ℕ) (op : Op) (ks : List LiveOp) (os : List Operation)
    → ((k : LiveOp) (o : Operation) → IsLiveOp k o → eqb o.object x ≡ true → locks.lift_in committed k.action ≡ lift o) → AreLiveOps ks os
    → locks.holder_of committed ks a x op ≡ moss.holder lift op_of a op (filter (λ o. eqb o.object x) os)
holder_alike committed lift a x op [] [] agree h = refl
holder_alike committed lift a x op (k ∷ ks) (o ∷ os) agree h =
    by (eqb k.object x) (eqb o.object x) (ap (λ y. eqb y x) h.0.object) (λ on. agree k o h.0 on) refl (holder_alike committed lift a x op ks os agree h.1)
  where
    kept : List LiveOp
    kept = filter (locks.is_on x) ks

    own : List Operation
    own = filter (λ p. eqb p.object x) os

    first : (b c : Bool) → b ≡ c → locks.lift_in committed k.action ≡ lift o
        → moss.holder (locks.lift_of committed) locks.op_of a op kept ≡ moss.holder lift op_of a op own
        → option_and_then (locks.lift_of committed) (if b then Some k else moss.first_conflict (locks.lift_of committed) locks.op_of a op kept)
        ≡ option_and_then lift (if c then Some o else moss.first_conflict lift op_of a op own)
    first true true e same rest = same
    first false false e same rest = rest
    first true false e same rest = cc
    first false true e same rest = cc

    by : (b c : Bool) → b ≡ c → (eqb o.object x ≡ true → locks.lift_in committed k.action ≡ lift o) → eqb o.object x ≡ c
        → moss.holder (locks.lift_of committed) locks.op_of a op kept ≡ moss.holder lift op_of a op own
        → moss.holder (locks.lift_of committed) locks.op_of a op (cond b (k ∷ kept) kept) ≡ moss.holder lift op_of a op (cond c (o ∷ own) own)
    by true true e lifts on rest =
        first (moss.conflicts a op (locks.lift_in committed k.action) k.op) (moss.conflicts a op (lift o) o.op) (λ i. moss.conflicts a op (lifts on i) (h.0.op i)) (lifts on) rest
    by false false e lifts on rest = rest
    by true false e lifts on rest = cc
    by false true e lifts on rest = cc
holder_alike committed lift a x op [] (o ∷ os) agree h = absurd h
holder_alike committed lift a x op (k ∷ ks) [] agree h = absurd h

-- and the same value is met
pub replay_alike : (state : State) (x : ℕ) (ks : List LiveOp) (os : List Operation) → AreLiveOps ks os
    → moss.replay locks.op_of state (filter (locks.is_on x) ks) ≡ moss.replay op_of state (filter (λ o. eqb o.object x) os)
replay_alike state x [] [] h = refl
replay_alike state x (k ∷ ks) (o ∷ os) h =
    by (eqb k.object x) (eqb o.object x) (ap (λ y. eqb y x) h.0.object) (λ next. replay_alike next x ks os h.1)
  where
    by : (b c : Bool) → b ≡ c
        → ((next : State) → moss.replay locks.op_of next (filter (locks.is_on x) ks) ≡ moss.replay op_of next (filter (λ p. eqb p.object x) os))
        → moss.replay locks.op_of state (cond b (k ∷ filter (locks.is_on x) ks) (filter (locks.is_on x) ks))
        ≡ moss.replay op_of state (cond c (o ∷ filter (λ p. eqb p.object x) os) (filter (λ p. eqb p.object x) os))
    by true true e rest = ap (λ p. moss.replay locks.op_of (state_after state p) (filter (locks.is_on x) ks)) h.0.op ∙ rest (state_after state o.op)
    by false false e rest = rest state
    by true false e rest = cc
    by false true e rest = cc
replay_alike state x [] (o ∷ os) h = absurd h
replay_alike state x (k ∷ ks) [] h = absurd h

-- An operation that conflicts has a lift, so there is a holder where there is a conflict.
pub none_same : {X : Type 0} (lift : X → Option Name) (did : X → Op) (a : Name) (op : Op) (os : List X)
    → is_none (moss.first_conflict lift did a op os) ≡ is_none (moss.holder lift did a op os)
none_same lift did a op [] = refl
none_same {X} lift did a op (o ∷ os) = by (moss.conflicts a op (lift o) (did o)) refl (none_same lift did a op os)
  where
    has_lift : (l : Option Name) → moss.conflicts a op l (did o) ≡ true → false ≡ is_none l
    has_lift None e = cc
    has_lift (Some u) e = refl

    by : (b : Bool) → moss.conflicts a op (lift o) (did o) ≡ b → is_none (moss.first_conflict lift did a op os) ≡ is_none (moss.holder lift did a op os)
        → is_none (if b then Some o else moss.first_conflict lift did a op os) ≡ is_none (option_and_then lift (if b then Some o else moss.first_conflict lift did a op os))
    by true e rest = has_lift (lift o) e
    by false e rest = rest
