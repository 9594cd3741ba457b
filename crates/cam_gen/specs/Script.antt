-- The script that is made from a seed: three registers and a queue on three nodes, as many steps as
-- are asked for, and `drain`. Each step draws its kind from 0 to 9, and then what its line has,
-- from left to right. The variables are A1, A2 and so on in order of their lines; X is one of them,
-- drawn by its place. While there is none a step is a begin line, without a draw of its kind.
--     0, 1     begin Ak N          N is 1 to 3
--     2        ask X Ak N
--     3, 4, 5  call X O OP         O is r1, r2, r3 or q1; OP is read, write V, swap V, or for q1
--                                  size, put V, take; V is 0 to 99
--     6        commit X 0
--     7        abort X
--     8        restart N where a draw from 0 to 7 gives 0, else drain
--     9        drain
use Rattle.std.specs.Prelude.{ℕ, zero, suc, ◌+◌, ◌==◌, nat_lt, nat_le, Bool, List, [], ◌∷◌, ◌++◌, codes, decimal, if◌then◌else◌}
use Rattle.cam_base.specs.Lines.{line}
use Rattle.cam_gen.specs.Draws.{next_state, state_after, drawn}

-- a step: its line, the state behind its draws, and how many variables there are then
pub record Written : Type 0 where
  pub text : List ℕ
  pub state : ℕ
  pub variables : ℕ

-- the variable at a place, from 0
abbrev pub variable : ℕ → List ℕ
variable place = codes "A" ++ decimal (place + 1)

-- node 1, 2 or 3 by its draw
abbrev pub node_word : ℕ → List ℕ
node_word draw = decimal (draw + 1)

abbrev pub begin_step : ℕ → ℕ → Written
begin_step s k = record {
  text = line (codes "begin" ∷ variable k ∷ node_word (drawn s 3) ∷ []);
  state = next_state s;
  variables = k + 1;
}

abbrev pub ask_step : ℕ → ℕ → Written
ask_step s k = record {
  text = line (codes "ask" ∷ variable (drawn s k) ∷ variable k
      ∷ node_word (drawn (next_state s) 3) ∷ []);
  state = state_after s 2;
  variables = k + 1;
}

-- r1, r2, r3 or q1, and an operation on it, by their draws
abbrev pub object_word : ℕ → List ℕ
object_word draw = if nat_lt draw 3 then codes "r" ++ decimal (draw + 1) else codes "q1"

abbrev pub op_words : ℕ → ℕ → ℕ → List (List ℕ)
op_words object op value =
    if nat_lt object 3
    then (if op == 0 then codes "read" ∷ [] else if op == 1 then codes "write" ∷ decimal value ∷ []
    else codes "swap" ∷ decimal value ∷ [])
    else (if op == 0 then codes "size" ∷ [] else if op == 1 then codes "put" ∷ decimal value ∷ []
    else codes "take" ∷ [])

abbrev pub has_value : ℕ → ℕ → Bool
has_value object op = if nat_lt object 3 then nat_le 1 op else op == 1

-- an operation on an object, where both were drawn: its value is drawn where it has one
abbrev pub operation_step : ℕ → ℕ → ℕ → ℕ → Written
operation_step object op s k = record {
  text = line (op_words object op (drawn s 100));
  state = if has_value object op then next_state s else s;
  variables = k;
}

-- a call whose variable, object and op were drawn
abbrev pub call_with : ℕ → ℕ → ℕ → ℕ → ℕ → Written
call_with x object op s k = record (operation_step object op s k) {
  text = line (codes "call" ∷ variable x ∷ object_word object ∷ op_words object op (drawn s 100));
}

abbrev pub call_step : ℕ → ℕ → Written
call_step s k = call_with (drawn s k) (drawn (next_state s) 4) (drawn (state_after s 2) 3)
    (state_after s 3) k

abbrev pub commit_step : ℕ → ℕ → Written
commit_step s k = record {
  text = line (codes "commit" ∷ variable (drawn s k) ∷ codes "0" ∷ []);
  state = next_state s;
  variables = k;
}

abbrev pub abort_step : ℕ → ℕ → Written
abort_step s k = record {
  text = line (codes "abort" ∷ variable (drawn s k) ∷ []);
  state = next_state s;
  variables = k;
}

abbrev pub drain_step : ℕ → ℕ → Written
drain_step s k = record { text = line (codes "drain" ∷ []); state = s; variables = k }

abbrev pub restart_step : ℕ → ℕ → Written
restart_step s k = record {
  text = line (codes "restart" ∷ node_word (drawn s 3) ∷ []);
  state = next_state s;
  variables = k;
}

-- a step by its kind, where so many variables are there
abbrev pub step_of : ℕ → ℕ → ℕ → Written
step_of kind s k =
    if nat_le kind 1 then begin_step s k
    else if kind == 2 then ask_step s k
    else if nat_le kind 5 then call_step s k
    else if kind == 6 then commit_step s k
    else if kind == 7 then abort_step s k
    else if kind == 8
    then (if drawn s 8 == 0 then restart_step (next_state s) k else drain_step (next_state s) k)
    else drain_step s k

abbrev pub step_at : ℕ → ℕ → Written
step_at s k = if k == 0 then begin_step s k else step_of (drawn s 10) (next_state s) k

-- a step, and what follows it
abbrev pub followed : Written → (ℕ → ℕ → List ℕ) → List ℕ
followed step rest = step.text ++ rest step.state step.variables

-- so many steps
abbrev pub steps_from : ℕ → ℕ → ℕ → List ℕ
steps_from zero s k = []
steps_from (suc left) s k = followed (step_at s k) (steps_from left)

abbrev pub declarations : List ℕ
declarations =
    line (codes "nodes 3" ∷ []) ++ line (codes "object r1 1 register 0" ∷ [])
    ++ line (codes "object r2 2 register 0" ∷ [])
    ++ line (codes "object r3 3 register 0" ∷ []) ++ line (codes "object q1 1 queue" ∷ [])

abbrev pub script_of : ℕ → ℕ → List ℕ
script_of seed size = declarations ++ steps_from size seed 0 ++ line (codes "drain" ∷ [])
