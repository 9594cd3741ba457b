-- Each step keeps the rule.
use Rattle.std.proofs.Common.{◌≡◌, ◌≢◌, ◌⊎◌, ℕ, zero, suc, ◌+◌, ◌%◌, ◌<◌, ◌≤◌, List, [], ◌∷◌, ◌++◌, length, set, slice_index, refl, sym, ap, ◌∙◌, subst, inl, inr, ⊎_elim, arith, length-append}
use Rattle.std.proofs.Math.Nat.{mod-eq_of_lt}
use Rattle.std.specs.Prelude.{All, Option, Some, None, IfSome}
use Rattle.std.proofs.lemmas.List.Elements.{All-push}
use mathlib.Core.Option.{some, some-ne-none, some-injective}
use mathlib.Core.Option as maybe
use mathlib.Core.Logic.{dite}
use native.Mathlib.Decide.{ℕ_discrete}
use lib.ListN.{get_elem?}
use Rattle.atomic_table.specs.Table.{State, Me}
use Rattle.atomic_table.proofs.Lists.{at_set}
use Rattle.cam_journal.specs.declared.entry.SentLetter.{SentLetter}
use Rattle.cam_journal.specs.declared.entry.NumberedEvent.{NumberedEvent}
use Rattle.cam_journal.specs.declared.entry.RunStep.{RunStep}
use Rattle.cam_journal.specs.declared.view.SeatView.{SeatView}
use Rattle.cam_journal.specs.declared.view.SeatView.TheVariants.{Maker, Node, Posted, Gatherer, Whole, Spent}
use Rattle.cam_journal.specs.Trace.{EventLaw, entry_of, history_of, IsSent}
use Rattle.cam_journal.specs.Taking.{received_of, left_of, IsNext, entry}
use Rattle.cam_journal.specs.Rule.{IsNode, Fits, IsKept, IsBelow, CanRecord, Recorded, recorded}
use Rattle.cam_journal.proofs.Histories.{history_of-same, history_of-other, history_of-below}
use Rattle.cam_journal.proofs.Room.{run_room}
use Rattle.cam_journal.proofs.Growth.{IsRun-push, Fits-longer, taken-longer}

module _ {A : Type 0} where
  -- what stands in a list with one more element stands in the list, or is that element
  pub at_push : (xs : List A) (x a : A) (k : ℕ) → get_elem? (xs ++ x ∷ []) k ≡ some a → (get_elem? xs k ≡ some a) ⊎ ((k ≡ length xs) × (x ≡ a))
  at_push [] x a zero e = inr (refl, some-injective x a e)
  at_push [] x a (suc k) e = absurd (some-ne-none a (sym e))
  at_push (y ∷ ys) x a zero e = inl e
  at_push (y ∷ ys) x a (suc k) e = ⊎_elim inl (λ (t : (k ≡ length ys) × (x ≡ a)). inr (ap suc t.0, t.1)) (at_push ys x a k e)

module _ {E L : Type 0} (names : E → Option (ℕ × ℕ)) (sends : E → List L) (lawful : EventLaw E L) where
  received_sent : (name : Option (ℕ × ℕ)) (trace : List (RunStep E L)) (taken : Option (SentLetter L)) → IfSome taken (IsSent sends trace) → IfSome (received_of name taken) (IsSent sends trace)
  received_sent None trace taken was = tt
  received_sent (Some name) trace taken was = was

  left_sent : (name : Option (ℕ × ℕ)) (trace : List (RunStep E L)) (taken : Option (SentLetter L)) → IfSome taken (IsSent sends trace) → IfSome (left_of name taken) (IsSent sends trace)
  left_sent None trace taken was = was
  left_sent (Some name) trace taken was = tt

  -- the rule after one more event of a node
  pub IsKept-record : {S : Type 0} (nodes : ℕ) (s : State S (SeatView E L)) (id : ℕ) (event : E) (node : ℕ) (history : List (NumberedEvent E L)) (taken : Option (SentLetter L)) (next : ℕ) (homes : List (maybe.Option S))
      → IsKept names sends lawful nodes s → get_elem? s.views id ≡ some (Node node history taken) → IsNext names lawful node history taken event → length history < 500000000
      → next ≡ (slice_index s.words 0 + 1) % 18446744073709551616
      → IsKept names sends lawful {S = S} nodes record { words = set s.words 0 next; homes = homes; views = set s.views id (recorded names event (slice_index s.words 0) (Node node history taken)) }
  IsKept-record nodes s id event node history taken next homes kept at may room new =
      let mine = kept.fits id (Node node history taken) at in
      let step : RunStep E L = record { node = node; event = event; received = received_of (names event) taken } in
      let trace : List (RunStep E L) = kept.trace ++ step ∷ [] in
      let word : slice_index s.words 0 ≡ length kept.trace = ap (λ (w : List ℕ). slice_index w 0) kept.words in
      let small = run_room nodes kept.trace kept.few kept.nodes_only kept.room in
      let plain : slice_index s.words 0 + 1 < 18446744073709551616 = omega arith in
      let next_is : next ≡ length trace = new ∙ mod-eq_of_lt plain ∙ omega (arith, word, length-append kept.trace (step ∷ [])) in
      let more : history_of node trace ≡ history_of node kept.trace ++ entry_of (length kept.trace) step ∷ [] = history_of-same node kept.trace step refl in
      let mine_now : history ++ entry names (slice_index s.words 0) taken event ∷ [] ≡ history_of node trace =
      ap (λ (p : List (NumberedEvent E L) × ℕ). p.0 ++ entry names p.1 taken event ∷ []) (λ i. (mine.2 i, word i)) ∙ sym more in
      record {
        trace = trace;
        seat = kept.seat;
        few = kept.few;
        words = ap (λ (w : List ℕ). set w 0 next) kept.words ∙ ap (λ (n : ℕ). n ∷ []) next_is;
        run = IsRun-push names sends lawful kept.trace step kept.run record {
          named = may.named;
          sent = received_sent (names event) kept.trace taken mine.3;
          allowed = subst (λ (h : List (NumberedEvent E L)). lawful node h (received_of (names event) taken) event) mine.2 may.allowed;
        };
        nodes_only = All-push (λ (t : RunStep E L). IsNode nodes t.node) kept.trace step kept.nodes_only mine.0;
        room = λ k. dite (ℕ_discrete node k)
            (λ same. let longer = ap length (history_of-same k kept.trace step same) in let was = ap length mine.2 in let at_k = ap (λ (n : ℕ). length (history_of n kept.trace)) same in omega (arith, longer, was, at_k, length-append (history_of k kept.trace) (entry_of (length kept.trace) step ∷ [])))
            (λ apart. subst (λ (h : List (NumberedEvent E L)). length h ≤ 500000000) (sym (history_of-other k kept.trace step apart)) (kept.room k));
        fits = λ j view there. ⊎_elim
            (λ (t : (j ≡ id) × (recorded names event (slice_index s.words 0) (Node node history taken) ≡ view)).
            subst (λ (p : ℕ × SeatView E L). Fits sends nodes trace kept.seat p.0 p.1) (λ i. (sym t.0 i, t.1 i))
            (mine.0, mine.1, mine_now, left_sent (names event) trace taken (taken-longer sends kept.trace (step ∷ []) taken mine.3)))
            (λ (t : (j ≢ id) × (get_elem? s.views j ≡ some view)). Fits-longer sends nodes kept.trace step kept.seat j view (λ same. t.0 (sym same ∙ mine.1)) (kept.fits j view t.1))
            (at_set s.views id j (recorded names event (slice_index s.words 0) (Node node history taken)) view there);
      }

  -- the same for any view with which an event may be recorded, whose earlier numbers are below the word
  pub records : {S : Type 0} (nodes : ℕ) (s : State S (SeatView E L)) (id : ℕ) (event : E) (view : SeatView E L) (next : ℕ) (homes : List (maybe.Option S))
      → IsKept names sends lawful nodes s → get_elem? s.views id ≡ some view → CanRecord names lawful view event
      → next ≡ (slice_index s.words 0 + 1) % 18446744073709551616
      → IsKept names sends lawful {S = S} nodes record { words = set s.words 0 next; homes = homes; views = set s.views id (recorded names event (slice_index s.words 0) view) } × IsBelow (slice_index s.words 0) view
  records nodes s id event (Node node history taken) next homes kept at may new =
      let mine = kept.fits id (Node node history taken) at in (
        IsKept-record nodes s id event node history taken next homes kept at may.0 may.1 new,
        subst (λ (p : List (NumberedEvent E L) × ℕ). All (λ (e : NumberedEvent E L). e.number < p.1) p.0)
            (λ i. (sym mine.2 i, sym (ap (λ (w : List ℕ). slice_index w 0) kept.words) i))
            (history_of-below node kept.trace),
      )
  records nodes s id event (Maker count following) next homes kept at may new = absurd may
  records nodes s id event (Posted sent) next homes kept at may new = absurd may
  records nodes s id event (Gatherer count gathered) next homes kept at may new = absurd may
  records nodes s id event (Whole gathered trace) next homes kept at may new = absurd may
  records nodes s id event Spent next homes kept at may new = absurd may

  -- what the step tells, where the event was told
  pub tells_record : {S : Type 0} (told : Option E) (event : E) (number : ℕ) (me : Me S (SeatView E L)) → told ≡ Some event → IsBelow number me.0 → Recorded names told number me (recorded names event number me.0, me.1)
  tells_record told event number me is below =
      let P : Option E → Type 0 = λ told. Recorded names told number me (recorded names event number me.0, me.1) in subst P (sym is) (refl, below)
