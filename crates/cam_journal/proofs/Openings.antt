-- The steps that make seats and join them keep the rule.
use Rattle.std.proofs.Common.{◌≡◌, ◌≢◌, ℕ, zero, suc, ◌+◌, ◌<◌, ◌≤◌, ◌==◌, List, [], ◌∷◌, ◌++◌, length, set, if◌then◌else◌, refl, sym, ap, ◌∙◌, subst, ⊎_elim, arith}
use Rattle.std.proofs.lemmas.Bool.Decides.{nat_tests}
use Rattle.std.specs.Prelude.{Option, None}
use Rattle.std.proofs.lemmas.List.Elements.{All-weaker, All-nil}
use mathlib.Core.Option.{some, some-ne-none, some-injective}
use mathlib.Core.Option as maybe
use lib.ListN.{get_elem?}
use Rattle.atomic_table.specs.Table.{State, Splits, opening}
use Rattle.atomic_table.proofs.Lists.{at_set}
use Rattle.cam_journal.specs.declared.entry.RunStep.{RunStep}
use Rattle.cam_journal.specs.declared.view.NodeHistory.{NodeHistory}
use Rattle.cam_journal.specs.declared.view.SeatView.{SeatView}
use Rattle.cam_journal.specs.declared.view.SeatView.TheVariants.{Maker, Node, Posted, Gatherer, Whole, Spent}
use Rattle.cam_journal.specs.Trace.{EventLaw, history_of}
use Rattle.cam_journal.specs.Rule.{IsNode, Fits, IsKept, maker, without_next, next_node}
use Rattle.cam_journal.proofs.Moves.{at_push}

-- the seat of a node is now this one
abbrev pub moved : (ℕ → ℕ) → ℕ → ℕ → ℕ → ℕ
moved seat node to other = if other == node then to else seat other

pub moved_here : (seat : ℕ → ℕ) (node to : ℕ) → moved seat node to node ≡ to
moved_here seat node to = grind (arith, nat_tests)

pub moved_else : (seat : ℕ → ℕ) (node to other : ℕ) → other ≢ node → moved seat node to other ≡ seat other
moved_else seat node to other apart = grind (arith, nat_tests)

pub moved_to : (seat : ℕ → ℕ) (node to other : ℕ) → seat other ≡ to → moved seat node to other ≡ to
moved_to seat node to other there = grind (arith, nat_tests)

module _ {E L : Type 0} (sends : E → List L) where
  -- what another seat knows stays true
  pub Fits-moved : (nodes : ℕ) (trace : List (RunStep E L)) (seat : ℕ → ℕ) (node to id : ℕ) (view : SeatView E L) → seat node ≢ id → Fits sends nodes trace seat id view → Fits sends nodes trace (moved seat node to) id view
  Fits-moved nodes trace seat node to id (Maker count next) other fits =
      (fits.0, λ one low high. let was = fits.1 one low high in (moved_else seat node to one (λ same. other (ap seat (sym same) ∙ was.0)) ∙ was.0, was.1))
  Fits-moved nodes trace seat node to id (Node one history taken) other fits =
      (fits.0, moved_else seat node to one (λ same. other (ap seat (sym same) ∙ fits.1)) ∙ fits.1, fits.2, fits.3)
  Fits-moved nodes trace seat node to id (Posted sent) other fits = fits
  Fits-moved nodes trace seat node to id (Gatherer count gathered) other fits = (
    fits.0,
    All-weaker
        (λ (held : NodeHistory E L). (seat held.node ≡ id) × (held.history ≡ history_of held.node trace))
        (λ (held : NodeHistory E L). (moved seat node to held.node ≡ id) × (held.history ≡ history_of held.node trace))
        (λ held was. (moved_else seat node to held.node (λ same. other (ap seat (sym same) ∙ was.0)) ∙ was.0, was.1))
        gathered
        fits.1,
  )
  Fits-moved nodes trace seat node to id (Whole gathered steps) other fits = tt
  Fits-moved nodes trace seat node to id Spent other fits = tt

module _ {E L : Type 0} (names : E → Option (ℕ × ℕ)) (sends : E → List L) (lawful : EventLaw E L) where
  -- a new table meets the rule
  pub IsKept-opening : {S : Type 0} (nodes : ℕ) → nodes ≤ 8 → IsKept names sends lawful {S = S} nodes (opening (0 ∷ []) [] (maker nodes))
  IsKept-opening nodes few = record {
    trace = [];
    seat = λ _. 0;
    few = few;
    words = refl;
    run = λ number step at. absurd (cc);
    nodes_only = All-nil (λ (t : RunStep E L). IsNode nodes t.node);
    room = λ node. omega arith;
    fits = first;
  }
    where
      first : (id : ℕ) (view : SeatView E L) → get_elem? (maker nodes ∷ []) id ≡ some view → Fits sends nodes [] (λ _. 0) id view
      first zero view e = subst (Fits sends nodes [] (λ _. 0) 0) (some-injective (maker nodes) view e) (refl, λ node low high. (refl, refl))
      first (suc id) view e = absurd (some-ne-none view (sym e))

  -- the same run, seen by these views from these seats
  pub kept_by : {S : Type 0} (nodes : ℕ) (s : State S (SeatView E L)) (kept : IsKept names sends lawful nodes s) (homes : List (maybe.Option S)) (views : List (SeatView E L)) (seat : ℕ → ℕ)
      → ((id : ℕ) (view : SeatView E L) → get_elem? views id ≡ some view → Fits sends nodes kept.trace seat id view)
      → IsKept names sends lawful {S = S} nodes record { words = s.words; homes = homes; views = views }
  kept_by nodes s kept homes views seat fits = record { trace = kept.trace; seat = seat; few = kept.few; words = kept.words; run = kept.run; nodes_only = kept.nodes_only; room = kept.room; fits = fits }

  -- the next node gets its seat
  opens : {S : Type 0} (nodes id next : ℕ) → 0 < next → next ≤ nodes → Splits (IsKept names sends lawful {S = S} nodes) id (Maker nodes next) (Maker nodes (next + 1)) (Node next [] None)
  opens nodes id next some_node within s kept at =
      let mine = kept.fits id (Maker nodes next) at in
      let views = set s.views id (Maker nodes (next + 1)) in
      let here = mine.1 next (omega arith) within in
      kept_by nodes s kept s.homes (views ++ Node next [] None ∷ []) (moved kept.seat next (length views)) (λ j view there.
      ⊎_elim
      (λ (old : get_elem? views j ≡ some view).
      ⊎_elim
      (λ (t : (j ≡ id) × (Maker nodes (next + 1) ≡ view)).
      subst (λ (p : ℕ × SeatView E L). Fits sends nodes kept.trace (moved kept.seat next (length views)) p.0 p.1) (λ i. (sym t.0 i, t.1 i))
      (refl, λ node low high. let was = mine.1 node (omega arith) high in (moved_else kept.seat next (length views) node (λ same. omega arith) ∙ was.0, was.1)))
      (λ (t : (j ≢ id) × (get_elem? s.views j ≡ some view)). Fits-moved sends nodes kept.trace kept.seat next (length views) j view (λ same. t.0 (sym same ∙ here.0)) (kept.fits j view t.1))
      (at_set s.views id j (Maker nodes (next + 1)) view old))
      (λ (t : (j ≡ length views) × (Node next [] None ≡ view)).
      subst (λ (p : ℕ × SeatView E L). Fits sends nodes kept.trace (moved kept.seat next (length views)) p.0 p.1) (λ i. (sym t.0 i, t.1 i))
      ((some_node, within), moved_here kept.seat next (length views), sym here.1, tt))
      (at_push views (Node next [] None) view j there))

  -- the same at a view that is known
  pub opens_as : {S : Type 0} (key nodes id next : ℕ) (view : SeatView E L) → view ≡ Maker nodes next → key ≡ nodes → 0 < next → next ≤ nodes → Splits (IsKept names sends lawful {S = S} key) id view (without_next view) (next_node view)
  opens_as {S = S} key nodes id next view is of some_node within =
      subst (λ (p : ℕ × SeatView E L). Splits (IsKept names sends lawful {S = S} p.0) id p.1 (without_next p.1) (next_node p.1)) (λ i. (sym of i, sym is i)) (opens nodes id next some_node within)
