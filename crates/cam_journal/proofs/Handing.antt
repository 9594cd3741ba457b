-- The events that were gathered, handed out one after another.
use Rattle.std.proofs.Common.{◌≡◌, ◌≢◌, ℕ, zero, suc, ◌+◌, ◌<◌, ◌≤◌, ◌==◌, List, [], ◌∷◌, ◌++◌, map, length, drop, set, get_or, refl, sym, ap, ◌∙◌, subst, arith}
use Rattle.std.proofs.lemmas.Bool.Decides.{nat_tests}
use Rattle.std.proofs.lemmas.List.{length-map, drop-drop}
use Rattle.std.proofs.lemmas.List.Elements.{All-head, All-tail, All-contains}
use Rattle.std.proofs.lemmas.Option.{slice_get_within}
use Rattle.std.specs.Prelude.{All, Contains, Option, Some, None, MatchOption, slice_get}
use Rattle.std.specs.Option.{option_to_list}
use mathlib.Core.Logic.{dite}
use native.Mathlib.Decide.{ℕ_discrete}
use Rattle.cam_journal.specs.declared.entry.NumberedEvent.{NumberedEvent}
use Rattle.cam_journal.specs.declared.entry.RunStep.{RunStep}
use Rattle.cam_journal.specs.declared.view.NodeHistory.{NodeHistory}
use Rattle.cam_journal.specs.declared.view.SeatView.{SeatView}
use Rattle.cam_journal.specs.declared.view.SeatView.TheVariants.{Maker, Node, Posted, Gatherer, Whole, Spent}
use Rattle.cam_journal.specs.Trace.{entry_of, history_from, numbered_from}
use Rattle.cam_journal.specs.Seats.{numbered}
use Rattle.cam_journal.specs.Gathered.{IsApart, trace_in, lists_from, IsLeft, front_of}
use Rattle.cam_journal.proofs.Histories.{if_here, if_else}
use Rattle.cam_journal.proofs.Seating.{All-slice_get}
use Rattle.cam_journal.proofs.Gathering.{All-unmap}

Some-injective : {A : Type 0} (a b : A) → Some a ≡ Some b → a ≡ b
Some-injective a b e = cc

-- what is read in a mapped list was read in the list
pub mapped_at : {A B : Type 0} (f : A → B) (xs : List A) (at : ℕ) (b : B) → slice_get (map f xs) at ≡ Some b → (a : A) × (slice_get xs at ≡ Some a) × (f a ≡ b)
mapped_at f [] at b there = absurd (cc)
mapped_at f (x ∷ xs) zero b there = (x, refl, Some-injective (f x) b there)
mapped_at f (x ∷ xs) (suc at) b there = mapped_at f xs at b there

pub read_mapped : {A B : Type 0} (f : A → B) (xs : List A) (at : ℕ) (a : A) → at < length xs → a ≡ get_or xs at a → slice_get (map f xs) at ≡ Some (f a)
read_mapped f [] at a within is = absurd (omega arith)
read_mapped f (x ∷ xs) zero a within is = ap (λ (y : _). Some (f y)) (sym is)
read_mapped f (x ∷ xs) (suc at) a within is = read_mapped f xs at a (omega arith) is

at_drop : {A : Type 0} (xs : List A) (n : ℕ) (x : A) (rest : List A) → drop n xs ≡ x ∷ rest → slice_get xs n ≡ Some x
at_drop [] zero x rest e = absurd (cc)
at_drop [] (suc n) x rest e = absurd (cc)
at_drop (y ∷ ys) zero x rest e = cc
at_drop (y ∷ ys) (suc n) x rest e = at_drop ys n x rest e

drop_next : {A : Type 0} (xs : List A) (n : ℕ) (x : A) (rest : List A) → drop n xs ≡ x ∷ rest → drop (n + 1) xs ≡ rest
drop_next xs n x rest e = sym (drop-drop 1 n xs) ∙ ap (drop 1) e

-- each other element of the mapped list is the same by both functions
set_apart : {A : Type 0} (f f' : ℕ → A) (nodes : List ℕ) (at node : ℕ) → IsApart nodes → slice_get nodes at ≡ Some node → ((other : ℕ) → other ≢ node → f other ≡ f' other) → set (map f nodes) at (f' node) ≡ map f' nodes
set_apart f f' [] at node apart there same = absurd (cc)
set_apart f f' (n ∷ nodes) zero node apart there same =
    let here : n ≡ node = Some-injective n node there in
    λ i. f' (sym here i) ∷ rest nodes (subst (λ (k : ℕ). All (λ other. other ≢ k) nodes) here apart.0) i
  where
    rest : (others : List ℕ) → All (λ other. other ≢ node) others → map f others ≡ map f' others
    rest [] each = refl
    rest (o ∷ others) each = λ i. same o (All-head (λ other. other ≢ node) o others each) i ∷ rest others (All-tail (λ other. other ≢ node) o others each) i
set_apart f f' (n ∷ nodes) (suc at) node apart there same =
    let other : node ≢ n = All-slice_get (λ o. o ≢ n) nodes at node apart.0 there in
    λ i. same n (λ e. other (sym e)) i ∷ set_apart f f' nodes at node apart.1 there same i

-- a list that begins with a number gives its first event up
pub front_taken : {E : Type 0} (list rest : List (ℕ × E)) (r : Option (ℕ × E)) (number long left : ℕ) → list ≡ option_to_list r ++ rest → MatchOption r ((long ≡ 0) × (left ≡ 0)) (λ _. left + 1 ≡ long) → long ≡ length list → front_of list ≡ Some number
    → (first : ℕ × E) × (r ≡ Some first) × (list ≡ first ∷ rest)
front_taken list rest (Some first) number long left is cases count front = (first, refl, is)
front_taken [] rest None number long left is cases count front = absurd (cc)
front_taken (x ∷ list) rest None number long left is cases count front = let none = cases.0 in absurd (omega arith)

module _ {E L : Type 0} where
  front_later : (node n : ℕ) (steps : List (RunStep E L)) (number : ℕ) → front_of (map numbered (history_from node n steps)) ≡ Some number → n ≤ number
  front_later node n [] number front = absurd (cc)
  front_later node n (s ∷ steps) number front =
      dite (ℕ_discrete s.node node)
      (λ same.
      let here = ap (λ (h : List (NumberedEvent E L)). front_of (map numbered h)) (if_here (s.node == node) (entry_of n s ∷ history_from node (n + 1) steps) (history_from node (n + 1) steps) (grind (arith, nat_tests))) in
      let is : n ≡ number = Some-injective n number (sym here ∙ front) in
      omega arith)
      (λ other.
      let rest = ap (λ (h : List (NumberedEvent E L)). front_of (map numbered h)) (if_else (s.node == node) (entry_of n s ∷ history_from node (n + 1) steps) (history_from node (n + 1) steps) (grind (arith, nat_tests))) in
      let later = front_later node (n + 1) steps number (sym rest ∙ front) in
      omega arith)

  -- the list of a node, before its own step and before another's
  list_same : (node n : ℕ) (s : RunStep E L) (steps : List (RunStep E L)) → s.node ≡ node → map numbered (history_from node n (s ∷ steps)) ≡ (n, s.event) ∷ map numbered (history_from node (n + 1) steps)
  list_same node n s steps same = ap (map numbered) (if_here (s.node == node) (entry_of n s ∷ history_from node (n + 1) steps) (history_from node (n + 1) steps) (grind (arith, nat_tests)))

  list_other : (node n : ℕ) (s : RunStep E L) (steps : List (RunStep E L)) → s.node ≢ node → map numbered (history_from node n (s ∷ steps)) ≡ map numbered (history_from node (n + 1) steps)
  list_other node n s steps other = ap (map numbered) (if_else (s.node == node) (entry_of n s ∷ history_from node (n + 1) steps) (history_from node (n + 1) steps) (grind (arith, nat_tests)))

  -- the list of each node, before and after a step
  lists_after : (n : ℕ) (s : RunStep E L) (steps : List (RunStep E L)) (nodes : List ℕ) (at : ℕ) → IsApart nodes → slice_get nodes at ≡ Some s.node
      → set (lists_from n (s ∷ steps) nodes) at (map numbered (history_from s.node (n + 1) steps)) ≡ lists_from (n + 1) steps nodes
  lists_after n s steps nodes at apart there =
      set_apart (λ node. map numbered (history_from node n (s ∷ steps))) (λ node. map numbered (history_from node (n + 1) steps)) nodes at s.node apart there
      (λ other apart_here. list_other other n s steps (λ same. apart_here (sym same)))

  -- a list that begins with the next number is that of the next step's node
  front_is : (n : ℕ) (s : RunStep E L) (steps : List (RunStep E L)) (nodes : List ℕ) (at : ℕ) (list : List (ℕ × E)) → slice_get (lists_from n (s ∷ steps) nodes) at ≡ Some list → front_of list ≡ Some n
      → (slice_get nodes at ≡ Some s.node) × (list ≡ (n, s.event) ∷ map numbered (history_from s.node (n + 1) steps))
  front_is n s steps nodes at list there front =
      let node = mapped_at (λ node. map numbered (history_from node n (s ∷ steps))) nodes at list there in
      dite (ℕ_discrete s.node node.0)
      (λ same. (
        node.1 ∙ ap (λ (k : ℕ). Some k) (sym same),
        sym node.2 ∙ list_same node.0 n s steps same ∙ ap (λ (k : ℕ). (n, s.event) ∷ map numbered (history_from k (n + 1) steps)) (sym same),
      ))
      (λ other.
      let later = front_later node.0 (n + 1) steps n (ap front_of (sym (list_other node.0 n s steps other) ∙ node.2) ∙ front) in
      absurd (omega arith))

  -- while a step is left, its node's list begins with its number
  front_there : (n : ℕ) (s : RunStep E L) (steps : List (RunStep E L)) (nodes : List ℕ) → Contains nodes s.node → All (λ list. front_of list ≢ Some n) (lists_from n (s ∷ steps) nodes) → ⊥
  front_there n s steps nodes has none =
      All-contains (λ node. front_of (map numbered (history_from node n (s ∷ steps))) ≢ Some n) nodes s.node
      (All-unmap (λ node. map numbered (history_from node n (s ∷ steps))) (λ (list : List (ℕ × E)). front_of list ≢ Some n) nodes none)
      has
      (ap front_of (list_same s.node n s steps refl))

  none_left : (n : ℕ) (trace rest : List (RunStep E L)) (nodes : List ℕ) (lists : List (List (ℕ × E))) → drop n trace ≡ rest → lists ≡ lists_from n rest nodes → All (λ step. Contains nodes step.node) trace → All (λ list. front_of list ≢ Some n) lists → numbered_from n rest ≡ []
  none_left n trace [] nodes lists is same each none = refl
  none_left n trace (s ∷ steps) nodes lists is same each none =
      absurd (front_there n s steps nodes (All-slice_get (λ (step : RunStep E L). Contains nodes step.node) trace n s each (at_drop trace n s steps is)) (subst (λ (ls : List (List (ℕ × E))). All (λ list. front_of list ≢ Some n) ls) same none))

  -- no event is left where no list begins with the next number
  pub take_none : (n : ℕ) (lists : List (List (ℕ × E))) (view : SeatView E L) → IsLeft n lists view → All (λ list. front_of list ≢ Some n) lists → numbered_from n (drop n (trace_in view)) ≡ []
  take_none n lists (Whole gathered trace) is none = none_left n trace (drop n trace) (map (λ (held : NodeHistory E L). held.node) gathered) lists refl is.2 is.4 none
  take_none n lists (Maker count next) is none = absurd is
  take_none n lists (Node node history taken) is none = absurd is
  take_none n lists (Posted sent) is none = absurd is
  take_none n lists (Gatherer count gathered) is none = absurd is
  take_none n lists Spent is none = absurd is

  -- what is left after the first event
  abbrev pub Hands : ℕ → List (List (ℕ × E)) → SeatView E L → ℕ → ℕ × E → List (ℕ × E) → Type 0
  Hands n lists view at first rest =
      (n + 1 < 18446744073709551616)
      × IsLeft (n + 1) (set lists at rest) view
      × (numbered_from n (drop n (trace_in view)) ≡ first ∷ numbered_from (n + 1) (drop (n + 1) (trace_in view)))

  some_left : (n : ℕ) (gathered : List (NodeHistory E L)) (trace steps : List (RunStep E L)) (lists : List (List (ℕ × E))) (at : ℕ) (first : ℕ × E) (rest : List (ℕ × E))
      → IsLeft n lists (Whole gathered trace) → drop n trace ≡ steps → slice_get lists at ≡ Some (first ∷ rest) → first.0 ≡ n → Hands n lists (Whole gathered trace) at first rest
  some_left n gathered trace [] lists at first rest is none there begins =
      let empty = ap (λ (steps : List (RunStep E L)). lists_from n steps (map (λ (held : NodeHistory E L). held.node) gathered)) none in
      let f : ℕ → List (ℕ × E) = λ node. map numbered (history_from {E = E} {L = L} node n []) in
      let node = mapped_at f (map (λ (held : NodeHistory E L). held.node) gathered) at (first ∷ rest) (ap (λ (ls : List (List (ℕ × E))). slice_get ls at) (sym (is.2 ∙ empty)) ∙ there) in
      let impossible : [] ≡ first ∷ rest = node.2 in
      absurd (cc)
  some_left n gathered trace (s ∷ steps) lists at first rest is some there begins =
      let nodes = map (λ (held : NodeHistory E L). held.node) gathered in
      let lists_are : lists ≡ lists_from n (s ∷ steps) nodes = is.2 ∙ ap (λ (steps : List (RunStep E L)). lists_from n steps nodes) some in
      let front = front_is n s steps nodes at (first ∷ rest) (ap (λ (ls : List (List (ℕ × E))). slice_get ls at) (sym lists_are) ∙ there) (ap (λ (k : ℕ). Some k) begins) in
      let rest_is : rest ≡ map numbered (history_from s.node (n + 1) steps) = cc in
      let first_is : first ≡ (n, s.event) = cc in
      let after : drop (n + 1) trace ≡ steps = drop_next trace n s steps some in
      let within : n < length trace = slice_get_within trace n s (at_drop trace n s steps some) in
      let small = is.1 in (
        omega arith,
        (
          omega arith,
          is.1,
          (λ i. set (lists_are i) at (rest_is i)) ∙ lists_after n s steps nodes at is.3 front.0 ∙ ap (λ (steps : List (RunStep E L)). lists_from (n + 1) steps nodes) (sym after),
          is.3,
          is.4,
        ),
        ap (numbered_from n) some ∙ (λ i. sym first_is i ∷ numbered_from (n + 1) (sym after i)),
      )

  -- the first event is handed out
  pub take_some : (n : ℕ) (lists : List (List (ℕ × E))) (view : SeatView E L) (at : ℕ) (first : ℕ × E) (rest : List (ℕ × E)) → IsLeft n lists view → slice_get lists at ≡ Some (first ∷ rest) → first.0 ≡ n → Hands n lists view at first rest
  take_some n lists (Whole gathered trace) at first rest is there begins = some_left n gathered trace (drop n trace) lists at first rest is refl there begins
  take_some n lists (Maker count next) at first rest is there begins = absurd is
  take_some n lists (Node node history taken) at first rest is there begins = absurd is
  take_some n lists (Posted sent) at first rest is there begins = absurd is
  take_some n lists (Gatherer count gathered) at first rest is there begins = absurd is
  take_some n lists Spent at first rest is there begins = absurd is

  -- what a pop from the list that begins with the next number leaves
  abbrev pub Handed : {D : Type 0} → (D → List (ℕ × E)) → List D → ℕ → SeatView E L → ℕ → D → Option (ℕ × E) → Type 0
  Handed items slots n view at after r = (first : ℕ × E) × (r ≡ Some first) × Hands n (map items slots) view at first (items after)

  pub handed : {D : Type 0} (items : D → List (ℕ × E)) (slots slice : List D) (n at : ℕ) (view : SeatView E L) (before after : D) (r : Option (ℕ × E)) (long left : ℕ)
      → IsLeft n (map items slots) view → slice ≡ slots → slice_get (map (λ d. front_of (items d)) slice) at ≡ Some (Some n) → before ≡ get_or slots at before
      → items before ≡ option_to_list r ++ items after → MatchOption r ((long ≡ 0) × (left ≡ 0)) (λ _. left + 1 ≡ long) → long ≡ length (items before) → Handed items slots n view at after r
  handed items slots slice n at view before after r long left is same there read popped cases count =
      let front_there : slice_get (map (λ d. front_of (items d)) slots) at ≡ Some (Some n) = ap (λ (ds : List _). slice_get (map (λ d. front_of (items d)) ds) at) (sym same) ∙ there in
      let inside = slice_get_within (map (λ d. front_of (items d)) slots) at (Some n) front_there in
      let within : at < length slots = omega (arith, inside, length-map slots (λ d. front_of (items d))) in
      let front : front_of (items before) ≡ Some n = Some-injective (front_of (items before)) (Some n) (sym (read_mapped (λ d. front_of (items d)) slots at before within read) ∙ front_there) in
      let taken = front_taken (items before) (items after) r n long left popped cases count front in
      let begins : taken.0.0 ≡ n = Some-injective taken.0.0 n (ap front_of (sym taken.2) ∙ front) in
      let list = read_mapped items slots at before within read ∙ ap (λ (l : List (ℕ × E)). Some l) taken.2 in
      (taken.0, taken.1, take_some n (map items slots) view at taken.0 (items after) is list begins)
