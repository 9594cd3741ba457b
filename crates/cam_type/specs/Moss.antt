-- Nested locks as Moss has them (Nested Transactions: An Approach to Reliable Distributed Computing, 1985), said of the live operations of a
-- site in the order in which they were performed. The holder of an operation's lock is the lift of its action: the action itself, or the
-- ancestor up to which the site was informed of commits, and None past the top. Operations are of any type `X`: `lift` gives the lift of
-- one's action, and `op_of` what it did.
use Rattle.std.specs.Prelude.{Bool, false, not, ◌&&◌, List, [], ◌∷◌, find, Option, Some, None, option_and_then}
use Rattle.cam_names.specs.declared.name.Name.{Name}
use Rattle.cam_names.specs.Names.{is_ancestor}
use Rattle.cam_type.specs.declared.State.{State}
use Rattle.cam_type.specs.declared.Op.{Op}
use Rattle.cam_type.specs.Table.{state_after, mode_of, compatible}

-- A lift is in the way of an action if it is neither past the top nor an ancestor of it.
abbrev pub is_in_the_way : Name → Option Name → Bool
is_in_the_way a None = false
is_in_the_way a (Some u) = not (is_ancestor u a)

-- An operation with a lift conflicts with an op of an action if the lift is in the way and the modes are not compatible.
abbrev pub conflicts : Name → Op → Option Name → Op → Bool
conflicts a op lift done = is_in_the_way a lift && not (compatible (mode_of done) (mode_of op))

-- the first operation of these that conflicts, and its lift
abbrev pub first_conflict : {X : Type 0} → (X → Option Name) → (X → Op) → Name → Op → List X → Option X
first_conflict lift op_of a op os = find (λ o. conflicts a op (lift o) (op_of o)) os

abbrev pub holder : {X : Type 0} → (X → Option Name) → (X → Op) → Name → Op → List X → Option Name
holder lift op_of a op os = option_and_then lift (first_conflict lift op_of a op os)

-- The state after these operations, in their order. Over the live operations on an object, from its start state, it is the value that the
-- next operation meets; over those that are past the top, the value that is handed up.
abbrev pub replay : {X : Type 0} → (X → Op) → State → List X → State
replay op_of state [] = state
replay op_of state (o ∷ os) = replay op_of (state_after state (op_of o)) os
