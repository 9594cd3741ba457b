-- The steps that make notes, take letters and gather histories keep the rule.
use Rattle.std.proofs.Common.{◌≡◌, ◌≢◌, ℕ, List, [], ◌∷◌, ◌++◌, length, set, slice_index, refl, sym, ap, ◌∙◌, subst, ⊎_elim}
use Rattle.std.specs.Prelude.{Option, Some, slice_get}
use Rattle.std.proofs.lemmas.List.Elements.{All-weaker, All-push, All-nil}
use mathlib.Core.Option.{some, some-ne-none, some-injective}
use mathlib.Core.Option as maybe
use lib.ListN.{get_elem?}
use Rattle.atomic_table.specs.Table.{State, Splits, Joins}
use Rattle.atomic_table.proofs.Lists.{at_set, set_again}
use Rattle.cam_journal.specs.declared.entry.SentLetter.{SentLetter}
use Rattle.cam_journal.specs.declared.entry.NumberedEvent.{NumberedEvent}
use Rattle.cam_journal.specs.declared.entry.RunStep.{RunStep}
use Rattle.cam_journal.specs.declared.view.NodeHistory.{NodeHistory}
use Rattle.cam_journal.specs.declared.view.SeatView.{SeatView}
use Rattle.cam_journal.specs.declared.view.SeatView.TheVariants.{Maker, Node, Posted, Gatherer, Whole, Spent}
use Rattle.cam_journal.specs.Trace.{EventLaw, history_of, IsSent}
use Rattle.cam_journal.specs.Rule.{Fits, IsKept, HasSent, note_of, with_letter, with_history, Knows}
use Rattle.cam_journal.specs.Seats.{IsSeat}
use Rattle.cam_journal.proofs.Moves.{at_push}
use Rattle.cam_journal.proofs.Histories.{history_of-found}
use Rattle.cam_journal.proofs.Openings.{moved, moved_here, moved_to, Fits-moved, kept_by}

module _ {E L : Type 0} (names : E → Option (ℕ × ℕ)) (sends : E → List L) (lawful : EventLaw E L) where
  sent_in : (nodes : ℕ) (trace : List (RunStep E L)) (seat : ℕ → ℕ) (id : ℕ) (view : SeatView E L) (sent : SentLetter L) → Fits sends nodes trace seat id view → HasSent sends view sent → IsSent sends trace sent
  sent_in nodes trace seat id (Node node history taken) sent fits has =
      let there : slice_get (history_of node trace) has.0 ≡ Some has.1 = ap (λ (h : List (NumberedEvent E L)). slice_get h has.0) (sym fits.2) ∙ has.2 in
      let found = history_of-found node trace has.0 has.1 there in record {
        sender = found.0;
        event = ap (λ (k : ℕ). slice_get trace k) (sym has.3) ∙ found.1;
        letter = ap (λ (e : E). slice_get (sends e) sent.place) found.2 ∙ has.4;
      }
  sent_in nodes trace seat id (Maker count next) sent fits has = absurd has
  sent_in nodes trace seat id (Posted other) sent fits has = absurd has
  sent_in nodes trace seat id (Gatherer count gathered) sent fits has = absurd has
  sent_in nodes trace seat id (Whole gathered steps) sent fits has = absurd has
  sent_in nodes trace seat id Spent sent fits has = absurd has

  -- a further seat with a view that fits the run
  further : {S : Type 0} (nodes : ℕ) (s : State S (SeatView E L)) (kept : IsKept names sends lawful nodes s) (new : SeatView E L) → Fits sends nodes kept.trace kept.seat (length s.views) new → IsKept names sends lawful {S = S} nodes record { words = s.words; homes = s.homes; views = s.views ++ new ∷ [] }
  further nodes s kept new fits =
      kept_by names sends lawful nodes s kept s.homes (s.views ++ new ∷ []) kept.seat (λ j view there.
      ⊎_elim
      (λ (old : get_elem? s.views j ≡ some view). kept.fits j view old)
      (λ (t : (j ≡ length s.views) × (new ≡ view)). subst (λ (p : ℕ × SeatView E L). Fits sends nodes kept.trace kept.seat p.0 p.1) (λ i. (sym t.0 i, t.1 i)) fits)
      (at_push s.views new view j there))

  splits : {S : Type 0} (nodes id : ℕ) (view new : SeatView E L) → ((trace : List (RunStep E L)) (seat : ℕ → ℕ) (other : ℕ) → Fits sends nodes trace seat id view → Fits sends nodes trace seat other new) → Splits (IsKept names sends lawful {S = S} nodes) id view view new
  splits {S = S} nodes id view new fits s kept at =
      subst (λ (views : List (SeatView E L)). IsKept names sends lawful {S = S} nodes record { words = s.words; homes = s.homes; views = views ++ new ∷ [] }) (sym (set_again s.views id view at))
      (further nodes s kept new (fits kept.trace kept.seat (length s.views) (kept.fits id view at)))

  -- a note of a letter that the node sent
  pub notes : {S : Type 0} (nodes id : ℕ) (view : SeatView E L) (sent : SentLetter L) (told : Option (SentLetter L)) → told ≡ Some sent → HasSent sends view sent → Splits (IsKept names sends lawful {S = S} nodes) id view view (note_of told)
  notes {S = S} nodes id view sent told is has =
      subst (λ (t : Option (SentLetter L)). Splits (IsKept names sends lawful {S = S} nodes) id view view (note_of t)) (sym is) (splits nodes id view (Posted sent) (λ trace seat other fits. sent_in nodes trace seat id view sent fits has))

  -- a second note of the same letter
  pub copies : {S : Type 0} (nodes id : ℕ) (view : SeatView E L) (sent : SentLetter L) → view ≡ Posted sent → Splits (IsKept names sends lawful {S = S} nodes) id view view view
  copies {S = S} nodes id view sent is =
      subst (λ (v : SeatView E L). Splits (IsKept names sends lawful {S = S} nodes) id v v v) (sym is) (splits nodes id (Posted sent) (Posted sent) (λ trace seat other fits. fits))

  -- two seats changed, the second of which is spent
  joins : {S : Type 0} (nodes id other : ℕ) (view w both : SeatView E L)
      → ((trace : List (RunStep E L)) (seat : ℕ → ℕ) → ¬ (other ≡ id) → Fits sends nodes trace seat id view → Fits sends nodes trace seat other w
      → (now : ℕ → ℕ) × Fits sends nodes trace now id both × ((j : ℕ) (u : SeatView E L) → j ≢ id → j ≢ other → Fits sends nodes trace seat j u → Fits sends nodes trace now j u))
      → Joins (IsKept names sends lawful {S = S} nodes) id view other w both Spent
  joins nodes id other view w both step s kept at apart there =
      let theirs : get_elem? s.views other ≡ some w =
      ⊎_elim (λ (t : (other ≡ id) × (both ≡ w)). absurd (apart t.0)) (λ (t : (other ≢ id) × (get_elem? s.views other ≡ some w)). t.1) (at_set s.views id other both w there) in
      let new = step kept.trace kept.seat apart (kept.fits id view at) (kept.fits other w theirs) in
      kept_by names sends lawful nodes s kept s.homes (set (set s.views id both) other Spent) new.0 (λ j u e.
      ⊎_elim
      (λ (t : (j ≡ other) × (Spent ≡ u)). subst (λ (p : SeatView E L). Fits sends nodes kept.trace new.0 j p) t.1 tt)
      (λ (t : (j ≢ other) × (get_elem? (set s.views id both) j ≡ some u)).
      ⊎_elim
      (λ (r : (j ≡ id) × (both ≡ u)). subst (λ (p : ℕ × SeatView E L). Fits sends nodes kept.trace new.0 p.0 p.1) (λ i. (sym r.0 i, r.1 i)) new.1)
      (λ (r : (j ≢ id) × (get_elem? s.views j ≡ some u)). new.2 j u r.0 t.0 (kept.fits j u r.1))
      (at_set s.views id j both u t.1))
      (at_set (set s.views id both) other j Spent u e))

  takes_at : {S : Type 0} (nodes id other : ℕ) (view : SeatView E L) (sent : SentLetter L) (entries : List (ℕ × E)) → IsSeat lawful entries view → Joins (IsKept names sends lawful {S = S} nodes) id view other (Posted sent) (with_letter view (Posted sent)) Spent
  takes_at nodes id other (Node node history taken) sent entries seat =
      joins nodes id other (Node node history taken) (Posted sent) (Node node history (Some sent)) (λ trace at apart mine theirs. (at, (mine.0, mine.1, mine.2, theirs), λ j u not_mine not_theirs fits. fits))
  takes_at nodes id other (Maker count next) sent entries seat = absurd seat
  takes_at nodes id other (Posted old) sent entries seat = absurd seat
  takes_at nodes id other (Gatherer count gathered) sent entries seat = absurd seat
  takes_at nodes id other (Whole gathered steps) sent entries seat = absurd seat
  takes_at nodes id other Spent sent entries seat = absurd seat

  -- a node takes the letter of a note
  pub takes : {S : Type 0} (nodes id other : ℕ) (view w : SeatView E L) (sent : SentLetter L) (entries : List (ℕ × E)) → w ≡ Posted sent → IsSeat lawful entries view → Joins (IsKept names sends lawful {S = S} nodes) id view other w (with_letter view w) Spent
  takes {S = S} nodes id other view w sent entries is seat =
      subst (λ (v : SeatView E L). Joins (IsKept names sends lawful {S = S} nodes) id view other v (with_letter view v) Spent) (sym is) (takes_at nodes id other view sent entries seat)

  gathers_at : {S : Type 0} (nodes id other : ℕ) (gathered : List (NodeHistory E L)) (view : SeatView E L) (entries : List (ℕ × E)) → IsSeat lawful entries view → Joins (IsKept names sends lawful {S = S} nodes) id (Gatherer nodes gathered) other view (with_history (Gatherer nodes gathered) view) Spent
  gathers_at nodes id other gathered (Node node history taken) entries seat =
      joins nodes id other (Gatherer nodes gathered) (Node node history taken) (Gatherer nodes (gathered ++ record { node = node; history = history } ∷ [])) (λ trace at apart mine theirs. (
        moved at node id,
        (
          refl,
          All-push (λ (held : NodeHistory E L). (moved at node id held.node ≡ id) × (held.history ≡ history_of held.node trace)) gathered (record { node = node; history = history })
              (All-weaker
              (λ (held : NodeHistory E L). (at held.node ≡ id) × (held.history ≡ history_of held.node trace))
              (λ (held : NodeHistory E L). (moved at node id held.node ≡ id) × (held.history ≡ history_of held.node trace))
              (λ held was. (moved_to at node id held.node was.0, was.1))
              gathered
              mine.1)
              (moved_here at node id, theirs.2),
        ),
        λ j u not_mine not_theirs fits. Fits-moved sends nodes trace at node id j u (λ same. not_theirs (sym same ∙ theirs.1)) fits,
      ))
  gathers_at nodes id other gathered (Maker count next) entries seat = absurd seat
  gathers_at nodes id other gathered (Posted old) entries seat = absurd seat
  gathers_at nodes id other gathered (Gatherer count more) entries seat = absurd seat
  gathers_at nodes id other gathered (Whole more steps) entries seat = absurd seat
  gathers_at nodes id other gathered Spent entries seat = absurd seat

  -- the history of a node is gathered
  pub gathers : {S : Type 0} (key nodes id other : ℕ) (gathered : List (NodeHistory E L)) (u view : SeatView E L) (entries : List (ℕ × E)) → u ≡ Gatherer nodes gathered → key ≡ nodes → IsSeat lawful entries view → Joins (IsKept names sends lawful {S = S} key) id u other view (with_history u view) Spent
  gathers {S = S} key nodes id other gathered u view entries is of seat =
      subst (λ (p : ℕ × SeatView E L). Joins (IsKept names sends lawful {S = S} p.0) id p.1 other view (with_history p.1 view) Spent) (λ i. (sym of i, sym is i)) (gathers_at nodes id other gathered view entries seat)

  -- a seat that has gathered nothing yet
  pub starts : {S : Type 0} (nodes : ℕ) (s : State S (SeatView E L)) → IsKept names sends lawful nodes s → IsKept names sends lawful {S = S} nodes record { words = s.words; homes = s.homes; views = s.views ++ Gatherer nodes [] ∷ [] }
  starts nodes s kept = further nodes s kept (Gatherer nodes []) (refl, All-nil (λ (held : NodeHistory E L). (kept.seat held.node ≡ length s.views) × (held.history ≡ history_of held.node kept.trace)))

  learns_at : {S : Type 0} (nodes id : ℕ) (gathered : List (NodeHistory E L)) (s : State S (SeatView E L)) (homes : List (maybe.Option S)) → IsKept names sends lawful nodes s → get_elem? s.views id ≡ some (Gatherer nodes gathered)
      → (w : SeatView E L) × IsKept names sends lawful {S = S} nodes record { words = set s.words 0 (slice_index s.words 0); homes = homes; views = set s.views id w } × Knows names sends lawful (slice_index s.words 0) (Gatherer nodes gathered) w
  learns_at nodes id gathered s homes kept at =
      let mine = kept.fits id (Gatherer nodes gathered) at in (
        Whole gathered kept.trace,
        record {
          trace = kept.trace;
          seat = kept.seat;
          few = kept.few;
          words = ap (λ (w : List ℕ). set w 0 (slice_index w 0)) kept.words;
          run = kept.run;
          nodes_only = kept.nodes_only;
          room = kept.room;
          fits = λ j view there. ⊎_elim
              (λ (t : (j ≡ id) × (Whole gathered kept.trace ≡ view)). subst (λ (v : SeatView E L). Fits sends nodes kept.trace kept.seat j v) t.1 tt)
              (λ (t : (j ≢ id) × (get_elem? s.views j ≡ some view)). kept.fits j view t.1)
              (at_set s.views id j (Whole gathered kept.trace) view there);
        },
        (
          refl,
          ap (λ (w : List ℕ). slice_index w 0) kept.words,
          record {
            run = kept.run;
            nodes_only = kept.nodes_only;
            histories = All-weaker
                (λ (held : NodeHistory E L). (kept.seat held.node ≡ id) × (held.history ≡ history_of held.node kept.trace))
                (λ (held : NodeHistory E L). held.history ≡ history_of held.node kept.trace)
                (λ held was. was.1)
                gathered
                mine.1;
          },
        ),
      )

  -- the whole run is learned
  pub learns : {S : Type 0} (key nodes id : ℕ) (gathered : List (NodeHistory E L)) (u : SeatView E L) (s : State S (SeatView E L)) (homes : List (maybe.Option S)) → u ≡ Gatherer nodes gathered → key ≡ nodes → IsKept names sends lawful key s → get_elem? s.views id ≡ some u
      → (w : SeatView E L) × IsKept names sends lawful {S = S} key record { words = set s.words 0 (slice_index s.words 0); homes = homes; views = set s.views id w } × Knows names sends lawful (slice_index s.words 0) u w
  learns {S = S} key nodes id gathered u s homes is of =
      subst (λ (p : ℕ × SeatView E L). IsKept names sends lawful p.0 s → get_elem? s.views id ≡ some p.1
      → (w : SeatView E L) × IsKept names sends lawful {S = S} p.0 record { words = set s.words 0 (slice_index s.words 0); homes = homes; views = set s.views id w } × Knows names sends lawful (slice_index s.words 0) p.1 w)
      (λ i. (sym of i, sym is i)) (learns_at nodes id gathered s homes)
