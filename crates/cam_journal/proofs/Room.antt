-- How long a run is, where no node has more than so many events.
use Rattle.std.proofs.Common.{◌≡◌, ℕ, zero, suc, ◌+◌, ◌*◌, ◌<◌, ◌≤◌, ◌==◌, Bool, true, false, List, [], ◌∷◌, length, if◌then◌else◌, refl, arith}
use Rattle.std.proofs.lemmas.Bool.Decides.{nat_tests}
use Rattle.std.specs.Prelude.{All, nat_le}
use Rattle.std.proofs.lemmas.List.Elements.{All-head, All-tail}
use Rattle.cam_journal.specs.declared.entry.RunStep.{RunStep}
use Rattle.cam_journal.specs.Trace.{entry_of, history_from, history_of}
use Rattle.cam_journal.specs.Rule.{IsNode}

length_if : {A : Type 0} (b : Bool) (x : A) (xs : List A) → length (if b then x ∷ xs else xs) ≡ (if b then 1 else 0) + length xs
length_if true x xs = omega arith
length_if false x xs = omega arith

-- a number is at most the next one where it is at most this one, or is the next one
one_more : (a k : ℕ) → (if a == suc k then 1 else 0) + (if nat_le a k then 1 else 0) ≡ (if nat_le a (suc k) then 1 else 0)
one_more a k = grind (arith, nat_tests)

module _ {E L : Type 0} where
  -- how many steps are of nodes up to this one
  abbrev upto : ℕ → List (RunStep E L) → ℕ
  upto node [] = 0
  upto node (step ∷ steps) = (if nat_le step.node node then 1 else 0) + upto node steps

  upto_more : (node n : ℕ) (trace : List (RunStep E L)) → length (history_from (suc node) n trace) + upto node trace ≡ upto (suc node) trace
  upto_more node n [] = refl
  upto_more node n (s ∷ trace) = omega (arith, length_if (s.node == suc node) (entry_of n s) (history_from (suc node) (n + 1) trace), upto_more node (n + 1) trace, one_more s.node node)

  upto_all : (nodes : ℕ) (trace : List (RunStep E L)) → All (λ s. IsNode nodes s.node) trace → upto nodes trace ≡ length trace
  upto_all nodes [] each = refl
  upto_all nodes (s ∷ trace) each =
      let here : IsNode nodes s.node = All-head (λ (t : RunStep E L). IsNode nodes t.node) s trace each in
      let within : s.node ≤ nodes = here.1 in
      let one : ◌≡◌ {A = ℕ} (if nat_le s.node nodes then 1 else 0) 1 = grind (arith, nat_tests) in
      omega (arith, one, upto_all nodes trace (All-tail (λ (t : RunStep E L). IsNode nodes t.node) s trace each))

  upto_none : (nodes : ℕ) (trace : List (RunStep E L)) → All (λ s. IsNode nodes s.node) trace → upto 0 trace ≡ 0
  upto_none nodes [] each = refl
  upto_none nodes (s ∷ trace) each =
      let here : IsNode nodes s.node = All-head (λ (t : RunStep E L). IsNode nodes t.node) s trace each in
      let above : 0 < s.node = here.0 in
      let none : ◌≡◌ {A = ℕ} (if nat_le s.node 0 then 1 else 0) 0 = grind (arith, nat_tests) in
      omega (arith, none, upto_none nodes trace (All-tail (λ (t : RunStep E L). IsNode nodes t.node) s trace each))

  upto_room : (nodes node : ℕ) (trace : List (RunStep E L)) → All (λ s. IsNode nodes s.node) trace → ((k : ℕ) → length (history_of k trace) ≤ 500000000) → upto node trace ≤ node * 500000000
  upto_room nodes zero trace each room = omega (arith, upto_none nodes trace each)
  upto_room nodes (suc node) trace each room = omega (arith, upto_more node 0 trace, upto_room nodes node trace each room, room (suc node))

  -- eight nodes have fewer than 2^32 events
  pub run_room : (nodes : ℕ) (trace : List (RunStep E L)) → nodes ≤ 8 → All (λ s. IsNode nodes s.node) trace → ((k : ℕ) → length (history_of k trace) ≤ 500000000) → length trace ≤ 4000000000
  run_room nodes trace few each room = omega (arith, upto_all nodes trace each, upto_room nodes nodes trace each room)
