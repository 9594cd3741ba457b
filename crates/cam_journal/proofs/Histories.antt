-- The histories of the nodes after one more step.
use Rattle.std.proofs.Common.{◌≡◌, ◌≢◌, ℕ, zero, suc, ◌+◌, ◌<◌, ◌≤◌, ◌==◌, Bool, true, false, List, [], ◌∷◌, ◌++◌, length, if◌then◌else◌, refl, sym, ap, ◌∙◌, arith}
use Rattle.std.proofs.lemmas.Bool.Decides.{nat_tests}
use Rattle.std.specs.Prelude.{All, Some, slice_get}
use Rattle.std.proofs.lemmas.List.Elements.{All-nil, All-cons}
use Rattle.cam_journal.specs.declared.entry.NumberedEvent.{NumberedEvent}
use Rattle.cam_journal.specs.declared.entry.RunStep.{RunStep}
use Rattle.cam_journal.specs.Trace.{entry_of, history_from, history_of}

pub if_here : {A : Type 0} (b : Bool) (xs ys : A) → b ≡ true → (if b then xs else ys) ≡ xs
if_here true xs ys e = refl
if_here false xs ys e = absurd (cc)

pub if_else : {A : Type 0} (b : Bool) (xs ys : A) → b ≡ false → (if b then xs else ys) ≡ ys
if_else true xs ys e = absurd (cc)
if_else false xs ys e = refl

-- the same front before two equal rests
front : {A : Type 0} (b : Bool) (x : A) (xs ys zs : List A) → xs ≡ ys ++ zs → (if b then x ∷ xs else xs) ≡ (if b then x ∷ ys else ys) ++ zs
front true x xs ys zs e = ap (λ (rest : List _). x ∷ rest) e
front false x xs ys zs e = e

module _ {E L : Type 0} where
  from_same : (node n : ℕ) (trace : List (RunStep E L)) (step : RunStep E L) → step.node ≡ node → history_from node n (trace ++ step ∷ []) ≡ history_from node n trace ++ entry_of (n + length trace) step ∷ []
  from_same node n [] step e =
      if_here (step.node == node) (entry_of n step ∷ []) [] (grind (arith, nat_tests)) ∙ ap (λ (k : ℕ). entry_of k step ∷ []) (omega arith)
  from_same node n (s ∷ trace) step e =
      front (s.node == node) (entry_of n s) _ _ _ (from_same node (n + 1) trace step e ∙ ap (λ (k : ℕ). history_from node (n + 1) trace ++ entry_of k step ∷ []) (omega arith))

  from_other : (node n : ℕ) (trace : List (RunStep E L)) (step : RunStep E L) → step.node ≢ node → history_from node n (trace ++ step ∷ []) ≡ history_from node n trace
  from_other node n [] step e = if_else (step.node == node) (entry_of n step ∷ []) [] (grind (arith, nat_tests))
  from_other node n (s ∷ trace) step e = ap (λ (rest : List (NumberedEvent E L)). if s.node == node then entry_of n s ∷ rest else rest) (from_other node (n + 1) trace step e)

  -- the node of the step has one more entry
  pub history_of-same : (node : ℕ) (trace : List (RunStep E L)) (step : RunStep E L) → step.node ≡ node → history_of node (trace ++ step ∷ []) ≡ history_of node trace ++ entry_of (length trace) step ∷ []
  history_of-same node trace step e = from_same node 0 trace step e ∙ ap (λ (k : ℕ). history_of node trace ++ entry_of k step ∷ []) (omega arith)

  -- the other nodes have the same
  pub history_of-other : (node : ℕ) (trace : List (RunStep E L)) (step : RunStep E L) → step.node ≢ node → history_of node (trace ++ step ∷ []) ≡ history_of node trace
  history_of-other node trace step e = from_other node 0 trace step e

  All_if : (b : Bool) (P : NumberedEvent E L → Type 0) (x : NumberedEvent E L) (xs : List (NumberedEvent E L)) → P x → All P xs → All P (if b then x ∷ xs else xs)
  All_if true P x xs here each = All-cons P x xs here each
  All_if false P x xs here each = each

  from_below : (node n bound : ℕ) (trace : List (RunStep E L)) → n + length trace ≤ bound → All (λ entry. entry.number < bound) (history_from node n trace)
  from_below node n bound [] within = All-nil (λ (entry : NumberedEvent E L). entry.number < bound)
  from_below node n bound (s ∷ trace) within =
      All_if (s.node == node) (λ (entry : NumberedEvent E L). entry.number < bound) (entry_of n s) (history_from node (n + 1) trace) (omega arith) (from_below node (n + 1) bound trace (omega arith))

  -- the numbers of a history are below the length of the run
  pub history_of-below : (node : ℕ) (trace : List (RunStep E L)) → All (λ entry. entry.number < length trace) (history_of node trace)
  history_of-below node trace = from_below node 0 (length trace) trace (omega arith)

  -- where an entry of a history stands in steps that are numbered from here on
  abbrev Found : ℕ → List (RunStep E L) → NumberedEvent E L → Type 0
  Found n trace entry = (k : ℕ) × (step : RunStep E L) × (entry.number ≡ n + k) × (slice_get trace k ≡ Some step) × (step.event ≡ entry.event)

  found_later : (n : ℕ) (s : RunStep E L) (trace : List (RunStep E L)) (entry : NumberedEvent E L) → Found (n + 1) trace entry → Found n (s ∷ trace) entry
  found_later n s trace entry found = let number = found.2 in (suc found.0, found.1, omega arith, found.3, found.4)

  found_if : (b : Bool) (n : ℕ) (s : RunStep E L) (trace : List (RunStep E L)) (rest : List (NumberedEvent E L)) (at : ℕ) (entry : NumberedEvent E L)
      → ((k : ℕ) → slice_get rest k ≡ Some entry → Found (n + 1) trace entry)
      → slice_get (if b then entry_of n s ∷ rest else rest) at ≡ Some entry → Found n (s ∷ trace) entry
  found_if true n s trace rest zero entry later there = let is : entry_of n s ≡ entry = cc in (0, s, sym (ap (λ (e : NumberedEvent E L). e.number) is) ∙ omega arith, refl, ap (λ (e : NumberedEvent E L). e.event) is)
  found_if true n s trace rest (suc at) entry later there = found_later n s trace entry (later at there)
  found_if false n s trace rest at entry later there = found_later n s trace entry (later at there)

  from_found : (node n : ℕ) (trace : List (RunStep E L)) (at : ℕ) (entry : NumberedEvent E L) → slice_get (history_from node n trace) at ≡ Some entry → Found n trace entry
  from_found node n [] at entry there = absurd (cc)
  from_found node n (s ∷ trace) at entry there = found_if (s.node == node) n s trace (history_from node (n + 1) trace) at entry (λ k e. from_found node (n + 1) trace k entry e) there

  -- an event of a history is the step of the run that has its number
  pub history_of-found : (node : ℕ) (trace : List (RunStep E L)) (at : ℕ) (entry : NumberedEvent E L) → slice_get (history_of node trace) at ≡ Some entry → (step : RunStep E L) × (slice_get trace entry.number ≡ Some step) × (step.event ≡ entry.event)
  history_of-found node trace at entry there =
      let found = from_found node 0 trace at entry there in
      let number = found.2 in
      let place : found.0 ≡ entry.number = omega arith in
      (found.1, ap (λ (k : ℕ). slice_get trace k) (sym place) ∙ found.3, found.4)
