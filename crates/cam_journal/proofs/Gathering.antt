-- The histories of the seats, as they are gathered one after another.
use Rattle.std.proofs.Common.{◌≡◌, ℕ, ◌<◌, List, [], ◌∷◌, ◌++◌, map, length, drop, refl, sym, ap, ◌∙◌, subst, arith, append-nil}
use Rattle.std.proofs.lemmas.List.{map-append}
use Rattle.std.proofs.lemmas.List.Elements.{All-weaker, All-nil, All-cons, All-head, All-tail}
use Rattle.std.specs.Prelude.{All, Contains, Option}
use mathlib.Core.List.{append_assoc}
use Rattle.cam_journal.specs.declared.entry.RunStep.{RunStep}
use Rattle.cam_journal.specs.declared.view.NodeHistory.{NodeHistory}
use Rattle.cam_journal.specs.declared.view.SeatView.{SeatView}
use Rattle.cam_journal.specs.declared.view.SeatView.TheVariants.{Maker, Node, Posted, Gatherer, Whole, Spent}
use Rattle.cam_journal.specs.Trace.{EventLaw, history_of, numbered_from}
use Rattle.cam_journal.specs.Rule.{IsNode, with_history, Knows, IsWhole}
use Rattle.cam_journal.specs.Seats.{Opened, Sitting, numbered, node_in, history_in, IsSeat}
use Rattle.cam_journal.specs.Gathered.{IsApart, AreSeats, AreGathered, trace_in, lists_from, IsLeft}

pub All-unmap : {A B : Type 0} (f : A → B) (P : B → Type 0) (xs : List A) → All P (map f xs) → All (λ x. P (f x)) xs
All-unmap f P [] each = All-nil (λ x. P (f x))
All-unmap f P (x ∷ xs) each = All-cons (λ x. P (f x)) x xs (All-head P (f x) (map f xs) each) (All-unmap f P xs (All-tail P (f x) (map f xs) each))

pub nothing_left : {A : Type 0} (xs : List A) → length xs ≡ 0 → xs ≡ []
nothing_left [] none = refl
nothing_left (x ∷ xs) none = absurd (omega arith)

module _ {E L : Type 0} where
  abbrev pub held_of : Sitting E L → NodeHistory E L
  held_of seat = record { node = seat.node; history = seat.history }

  -- of all histories these are left, and the lists are those of the others
  abbrev pub IsGathering : ℕ → List (NodeHistory E L) → List (NodeHistory E L) → List (List (ℕ × E)) → SeatView E L → Type 0
  IsGathering nodes all rest lists (Gatherer count gathered) = (count ≡ nodes) × (all ≡ gathered ++ rest) × (lists ≡ map (λ held. map numbered held.history) gathered)
  IsGathering nodes all rest lists _ = ⊥

  abbrev pub gathered_in : SeatView E L → List (NodeHistory E L)
  gathered_in (Gatherer nodes gathered) = gathered
  gathered_in _ = []

  -- what gathers is known by its histories
  pub gathering_is : (nodes : ℕ) (all rest : List (NodeHistory E L)) (lists : List (List (ℕ × E))) (view : SeatView E L) → IsGathering nodes all rest lists view → view ≡ Gatherer nodes (gathered_in view)
  gathering_is nodes all rest lists (Gatherer count gathered) is = ap (λ (n : ℕ). Gatherer n gathered) is.0
  gathering_is nodes all rest lists (Maker count next) is = absurd is
  gathering_is nodes all rest lists (Node node history taken) is = absurd is
  gathering_is nodes all rest lists (Posted sent) is = absurd is
  gathering_is nodes all rest lists (Whole gathered trace) is = absurd is
  gathering_is nodes all rest lists Spent is = absurd is

  gathering_node : (lawful : EventLaw E L) (nodes : ℕ) (all rest : List (NodeHistory E L)) (lists : List (List (ℕ × E))) (entries : List (ℕ × E)) (view other : SeatView E L) (held : NodeHistory E L)
      → IsGathering nodes all (held ∷ rest) lists view → IsSeat lawful entries other → held.node ≡ node_in other → held.history ≡ history_in other → IsGathering nodes all rest (lists ++ entries ∷ []) (with_history view other)
  gathering_node lawful nodes all rest lists entries (Gatherer count gathered) (Node node history taken) held is seat same_node same =
      let new : NodeHistory E L = record { node = node; history = history } in
      let one : held ≡ new = λ i. record { node = same_node i; history = same i } in (
        is.0,
        is.1 ∙ ap (λ (h : NodeHistory E L). gathered ++ h ∷ rest) one ∙ sym (append_assoc gathered (new ∷ []) rest),
        (λ i. is.2 i ++ seat.0 i ∷ []) ∙ sym (map-append (λ (h : NodeHistory E L). map numbered h.history) gathered (new ∷ [])),
      )
  gathering_node lawful nodes all rest lists entries (Gatherer count gathered) (Maker more next) held is seat same_node same = absurd seat
  gathering_node lawful nodes all rest lists entries (Gatherer count gathered) (Posted sent) held is seat same_node same = absurd seat
  gathering_node lawful nodes all rest lists entries (Gatherer count gathered) (Gatherer more others) held is seat same_node same = absurd seat
  gathering_node lawful nodes all rest lists entries (Gatherer count gathered) (Whole others trace) held is seat same_node same = absurd seat
  gathering_node lawful nodes all rest lists entries (Gatherer count gathered) Spent held is seat same_node same = absurd seat
  gathering_node lawful nodes all rest lists entries (Maker count next) other held is seat same_node same = absurd is
  gathering_node lawful nodes all rest lists entries (Node node history taken) other held is seat same_node same = absurd is
  gathering_node lawful nodes all rest lists entries (Posted sent) other held is seat same_node same = absurd is
  gathering_node lawful nodes all rest lists entries (Whole gathered trace) other held is seat same_node same = absurd is
  gathering_node lawful nodes all rest lists entries Spent other held is seat same_node same = absurd is

  -- one more history is gathered
  pub gathering_more : (lawful : EventLaw E L) (nodes : ℕ) (all rest rest' : List (NodeHistory E L)) (lists lists' : List (List (ℕ × E))) (entries : List (ℕ × E)) (view view' other : SeatView E L) (held : NodeHistory E L)
      → IsGathering nodes all rest lists view → rest ≡ held ∷ rest' → IsSeat lawful entries other → held.node ≡ node_in other → held.history ≡ history_in other → lists' ≡ lists ++ entries ∷ [] → view' ≡ with_history view other → IsGathering nodes all rest' lists' view'
  gathering_more lawful nodes all rest rest' lists lists' entries view view' other held is next seat same_node same longer after =
      let was : IsGathering nodes all (held ∷ rest') lists view = subst (λ (r : List (NodeHistory E L)). IsGathering nodes all r lists view) next is in
      subst (λ (p : List (List (ℕ × E)) × SeatView E L). IsGathering nodes all rest' p.0 p.1) (λ i. (sym longer i, sym after i)) (gathering_node lawful nodes all rest' lists entries view other held was seat same_node same)

  -- nothing is gathered at first
  pub gathering_none : (key nodes : ℕ) (seats rest : List (Sitting E L)) (lists : List (List (ℕ × E))) (view : SeatView E L) → view ≡ Gatherer key [] → key ≡ nodes → rest ≡ seats → lists ≡ [] → IsGathering nodes (map held_of seats) (map held_of rest) lists view
  gathering_none key nodes seats rest lists view is of all none =
      subst (λ (v : SeatView E L). IsGathering nodes (map held_of seats) (map held_of rest) lists v) (sym is) (of, ap (λ (s : List (Sitting E L)). map held_of s) (sym all), none)

  nodes_of : (seats : List (Sitting E L)) → map (λ (h : NodeHistory E L). h.node) (map held_of seats) ≡ map (λ (s : Sitting E L). s.node) seats
  nodes_of [] = refl
  nodes_of (s ∷ seats) = ap (λ (rest : List ℕ). s.node ∷ rest) (nodes_of seats)

  lists_of : (trace : List (RunStep E L)) (gathered : List (NodeHistory E L)) → All (λ held. held.history ≡ history_of held.node trace) gathered → map (λ (held : NodeHistory E L). map numbered held.history) gathered ≡ lists_from 0 trace (map (λ (h : NodeHistory E L). h.node) gathered)
  lists_of trace [] each = refl
  lists_of trace (h ∷ gathered) each = λ i. map numbered (All-head (λ (held : NodeHistory E L). held.history ≡ history_of held.node trace) h gathered each i) ∷ lists_of trace gathered (All-tail (λ (held : NodeHistory E L). held.history ≡ history_of held.node trace) h gathered each) i

module _ {E L : Type 0} (names : E → Option (ℕ × ℕ)) (sends : E → List L) (lawful : EventLaw E L) where
  -- what is known once the histories of all seats are gathered
  abbrev pub IsDone : Opened → List (Sitting E L) → List (List (ℕ × E)) → SeatView E L → Type 0
  IsDone journal seats lists after = IsLeft 0 lists after × AreGathered names sends lawful journal.nodes seats (numbered_from 0 (drop 0 (trace_in after)))

  pub gathering_done : (journal : Opened) (seats : List (Sitting E L)) (lists : List (List (ℕ × E))) (view after : SeatView E L) (word : ℕ)
      → AreSeats journal seats → word < 18446744073709551616 → IsGathering journal.nodes (map held_of seats) [] lists view → Knows names sends lawful word view after → IsDone journal seats lists after
  gathering_done journal seats lists (Gatherer count gathered) (Whole same trace) word own small is knows =
      let all : gathered ≡ map held_of seats = sym (append-nil gathered) ∙ sym is.1 in
      let whole : IsWhole names sends lawful count gathered trace = knows.2 in
      let here : same ≡ gathered = knows.0 in
      let nodes : map (λ (h : NodeHistory E L). h.node) same ≡ map (λ (s : Sitting E L). s.node) seats = ap (map (λ (h : NodeHistory E L). h.node)) (here ∙ all) ∙ nodes_of seats in
      let within : All (λ step. IsNode journal.nodes step.node) trace = subst (λ (n : ℕ). All (λ (step : RunStep E L). IsNode n step.node) trace) is.0 whole.nodes_only in
      let histories = subst (λ (g : List (NodeHistory E L)). All (λ (h : NodeHistory E L). h.history ≡ history_of h.node trace) g) all whole.histories in (
        (
          omega arith,
          subst (λ (n : ℕ). n < 18446744073709551616) knows.1 small,
          is.2 ∙ lists_of trace gathered whole.histories ∙ ap (λ (g : List (NodeHistory E L)). lists_from 0 trace (map (λ (h : NodeHistory E L). h.node) g)) (sym here),
          subst IsApart (sym nodes) own.apart,
          All-weaker (λ (step : RunStep E L). IsNode journal.nodes step.node) (λ (step : RunStep E L). Contains (map (λ (h : NodeHistory E L). h.node) same) step.node)
              (λ step node. subst (λ (n : List ℕ). Contains n step.node) (sym nodes) (own.each step.node node))
              trace
              within,
        ),
        record {
          trace = trace;
          run = whole.run;
          nodes_only = within;
          events_are = refl;
          histories = All-unmap held_of (λ (h : NodeHistory E L). h.history ≡ history_of h.node trace) seats histories;
        },
      )
  gathering_done journal seats lists (Gatherer count gathered) (Maker more next) word own small is knows = absurd knows
  gathering_done journal seats lists (Gatherer count gathered) (Node node history taken) word own small is knows = absurd knows
  gathering_done journal seats lists (Gatherer count gathered) (Posted sent) word own small is knows = absurd knows
  gathering_done journal seats lists (Gatherer count gathered) (Gatherer more others) word own small is knows = absurd knows
  gathering_done journal seats lists (Gatherer count gathered) Spent word own small is knows = absurd knows
  gathering_done journal seats lists (Maker count next) after word own small is knows = absurd is
  gathering_done journal seats lists (Node node history taken) after word own small is knows = absurd is
  gathering_done journal seats lists (Posted sent) after word own small is knows = absurd is
  gathering_done journal seats lists (Whole gathered trace) after word own small is knows = absurd is
  gathering_done journal seats lists Spent after word own small is knows = absurd is

  -- the same, with what the loop knows at its end
  pub gathering_end : (journal : Opened) (seats : List (Sitting E L)) (rest : List (Sitting E L)) (lists : List (List (ℕ × E))) (view after : SeatView E L) (word : ℕ)
      → AreSeats journal seats → word < 18446744073709551616 → rest ≡ [] → IsGathering journal.nodes (map held_of seats) (map held_of rest) lists view → Knows names sends lawful word view after → IsDone journal seats lists after
  gathering_end journal seats rest lists view after word own small none is knows =
      gathering_done journal seats lists view after word own small (subst (λ (r : List (Sitting E L)). IsGathering journal.nodes (map held_of seats) (map held_of r) lists view) none is) knows
