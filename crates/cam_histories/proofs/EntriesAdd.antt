-- One event of a node: its entry is empty just where nothing is learnt, decided, secured or raised,
-- and what it has adds to what the log keeps.
use Rattle.std.proofs.Common.{◌≡◌, inl, inr, ℕ, ◌-◌, ◌≤◌, max, nat_lt, Bool, true, false, not, ◌&&◌}
use Rattle.std.proofs.Common.{◌||◌, List, ◌∷◌, ◌++◌, map, Option, refl, sym, ap, ◌∙◌, arith}
use Rattle.std.specs.Prelude.{slice_index}
use Rattle.std.specs.List.{list_any}
use Rattle.std.proofs.lemmas.Bool.{cases_Bool, or_right, true≢false}
use Rattle.std.proofs.lemmas.List.Folds.{list_any-append}
use Rattle.cam_names.specs.declared.name.Name.{Name}
use Rattle.cam_names.proofs.Dependencies.{greater_counts_at}
use Rattle.cam_type.specs.declared.ObjectDecl.{ObjectDecl}
use Rattle.cam_know.specs.Knowledge.{Knowledge}
use Rattle.cam_know.specs.Known.{knows_abort, knows_commit, known_count, unknown, both, new_aborts}
use Rattle.cam_know.specs.Known.{new_commits}
use Rattle.cam_know.specs.Order.{told_in_order}
use Rattle.cam_know.proofs.News.{unknown_both}
use Rattle.cam_event.specs.declared.Deed.{Deed}
use Rattle.cam_event.specs.declared.Deed.TheVariants.{Commit, Abort}
use Rattle.cam_event.specs.History.{is_crash, is_empty}
use Rattle.cam_event.specs.Inputs.{Input, Mail}
use Rattle.cam_event.specs.Taken.{is_entered}
use Rattle.cam_event.specs.ByKnowledge.{held_sight, learned_by, new_informs}
use Rattle.cam_event.specs.Carried.{Carried}
use Rattle.cam_event.specs.Loads.{Load, each_node}
use Rattle.cam_event.specs.ByDeltas.{Received, as_carried, known}
use Rattle.cam_event.proofs.Base.{eighth}
use Rattle.cam_event.proofs.Members.{In, any_in}
use Rattle.cam_recman.specs.Snapshot.{outcome_record}
use Rattle.cam_node.specs.Entries.{Holding, entry_records, learnt_records, deed_records}
use Rattle.cam_node.specs.Entries.{greater_records}
use Rattle.cam_node.specs.Found.{Adds, Decides, Counts, Secures}
use Rattle.cam_node.specs.Learning.{ruled, stepped}
use Rattle.cam_node.specs.LogOrder.{is_any_secure}
use Rattle.cam_node.specs.Shapes.{IsShaped}
use Rattle.cam_node.proofs.Learnt.{knowledge_grows}
use Rattle.cam_node.proofs.Shapes.{rules_are_shaped}
use Rattle.cam_histories.proofs.Numbers.{lt_cases}
use Rattle.cam_histories.proofs.RecordedDeeds.{empty_append, empty_map, is_recorded, records_empty}
use Rattle.cam_histories.proofs.RecordedDeeds.{entered_recorded, secure_kept, informs_entered}
use Rattle.cam_histories.proofs.RecordedDeeds.{informs_unrecorded, TellsTheSame, new_named}
use Rattle.cam_histories.proofs.GreaterCounts.{any_greater, greater_empty}
use Rattle.cam_histories.proofs.DeedsAdd.{longer, shaped_added}

-- a node among the eight
is_node : (m : ℕ) → In m each_node → (1 ≤ m) × (m ≤ 8)
is_node m (inl e) = (omega (arith, e), omega (arith, e))
is_node m (inr (inl e)) = (omega (arith, e), omega (arith, e))
is_node m (inr (inr (inl e))) = (omega (arith, e), omega (arith, e))
is_node m (inr (inr (inr (inl e)))) = (omega (arith, e), omega (arith, e))
is_node m (inr (inr (inr (inr (inl e))))) = (omega (arith, e), omega (arith, e))
is_node m (inr (inr (inr (inr (inr (inl e)))))) = (omega (arith, e), omega (arith, e))
is_node m (inr (inr (inr (inr (inr (inr (inl e))))))) = (omega (arith, e), omega (arith, e))
is_node m (inr (inr (inr (inr (inr (inr (inr (inl e)))))))) = (omega (arith, e), omega (arith, e))
is_node m (inr (inr (inr (inr (inr (inr (inr (inr i)))))))) = absurd i

-- what is given of the node's knowledge and of what its letter brings
pub record AreTold (k : Knowledge) (brought : Knowledge) (f g : ℕ → ℕ) : Type 0 where
  pub same : TellsTheSame k (told_in_order brought).outcomes
  pub known : k.counts ≡ map f each_node
  pub told : brought.counts ≡ map g each_node

module _ (objects : List ObjectDecl) (s : ℕ) (history : List Received) (input : Input)
    (mail : Option Mail) (load : Load) (f g : ℕ → ℕ)
    (given : AreTold (known objects history) load.know f g) where
  abbrev k : Knowledge
  k = known objects history

  abbrev told : Knowledge
  told = told_in_order load.know

  abbrev H : List Carried
  H = map as_carried history

  abbrev first : List Deed
  first = new_informs s told k

  abbrev own : List Deed
  own = ruled objects s history input mail load

  abbrev pub whole : Received
  whole = stepped objects s history input mail load

  shaped : IsShaped s own
  shaped = rules_are_shaped objects (held_sight objects s H told) mail input

  abbrev pub greater : Bool
  greater = any_greater k.counts load.know.counts

  abbrev no_aborts : Bool
  no_aborts = is_empty (new_aborts told k)

  abbrev no_commits : Bool
  no_commits = is_empty (new_commits told k)

  none_new : is_empty (unknown k told.outcomes) ≡ (no_aborts && no_commits)
  none_new = new_named k told.outcomes given.same

  -- THE ENTRY is empty just where no deed is entered and no greater count is learnt.
  pub entry_is : (holds : Holding)
      → is_empty (entry_records holds objects history whole)
      ≡ not (list_any is_entered whole.event.deeds || greater)
  entry_is holds =
      empty_append (learnt_records k told) (deed_records holds objects H mail (first ++ own))
      ∙ (λ i. learnt i && records_empty holds objects H mail (first ++ own) i)
      ∙ (λ i. (no_aborts && no_commits && not greater)
      && not ((list_any-append is_recorded first own
      ∙ ap (λ b. b || list_any is_recorded own)
      (informs_unrecorded s (new_aborts told k) (new_commits told k))
      ∙ sym (entered_recorded s own shaped)) i))
      ∙ turned no_aborts no_commits greater (list_any is_entered own)
      ∙ ap (λ b. not (b || greater))
      (ap (λ b. b || list_any is_entered own)
      (sym (informs_entered s (new_aborts told k) (new_commits told k)))
      ∙ sym (list_any-append is_entered first own))
    where
      learnt : is_empty (learnt_records k told) ≡ (no_aborts && no_commits && not greater)
      learnt =
          empty_append (map outcome_record (unknown k (both k told).outcomes))
          (greater_records 1 k.counts (both k told).counts)
          ∙ (λ i. (empty_map outcome_record (unknown k (both k told).outcomes)
          ∙ ap (λ os. is_empty os) (unknown_both k told) ∙ none_new) i
          && greater_empty 1 k.counts load.know.counts i)
          ∙ turn no_aborts no_commits (not greater)
        where
          turn : (a c g : Bool) → ((a && c) && g) ≡ (a && c && g)
          turn true true g = refl
          turn true false g = refl
          turn false c g = refl

      turned : (a c g r : Bool)
          → ((a && c && not g) && not r) ≡ not (((not a || not c) || r) || g)
      turned true true true true = refl
      turned true true true false = refl
      turned true true false true = refl
      turned true true false false = refl
      turned true false g r = refl
      turned false c g r = refl

  known_then : known objects (whole ∷ history) ≡ learned_by objects H mail (both k told) own
  known_then = knowledge_grows objects s history input mail load

  -- a greater count
  count_adds : known objects (whole ∷ history) ≡ both k told → greater ≡ true
      → Adds objects history whole
  count_adds is more =
      let some : list_any (λ m. nat_lt (f m) (g m)) each_node ≡ true =
      (λ i. any_greater (sym given.known i) (sym given.told i)) ∙ more in
      let found = any_in (λ m. nat_lt (f m) (g m)) each_node some in
      let node = is_node found.0 found.1 in
      Counts found.0 node.0 node.1
      (λ same. raised found.0 node.0 node.1 found.2
      (sym (ap (λ (x : Knowledge). known_count x found.0) is) ∙ same))
    where
      raised : (m : ℕ) → 1 ≤ m → m ≤ 8 → nat_lt (f m) (g m) ≡ true
          → known_count (both k told) m ≡ known_count k m → ⊥
      raised m low high less same =
          let mine : known_count k m ≡ f m =
          ap (λ cs. slice_index cs (m - 1)) given.known ∙ eighth f m low high in
          let theirs : known_count told m ≡ g m =
          ap (λ cs. slice_index cs (m - 1)) given.told ∙ eighth g m low high in
          let joined : known_count (both k told) m ≡ max (known_count k m) (known_count told m) =
          greater_counts_at k.counts told.counts (m - 1) in
          elim (lt_cases (f m) (g m)) [
            | inl y ↦ let h = y.1 in omega (arith, h, mine, theirs, joined, same)
            | inr n ↦ true≢false (sym less ∙ n.0)
          ]

  -- AND WHAT IT HAS ADDS.
  pub entry_adds : ((m : ℕ) → list_any (is_crash m) own ≡ false)
      → ((a : Name) → In (Commit a) own → knows_commit k a ≡ false)
      → ((a : Name) → In (Abort a) own → knows_abort k a ≡ false)
      → (list_any is_entered whole.event.deeds || greater) ≡ true → Adds objects history whole
  entry_adds stays commits aborts some =
      elim (shaped_added objects H mail k told s own shaped stays commits aborts) [
        | inl off ↦
            Decides (λ same. off (sym (ap (λ (x : Knowledge). x.outcomes) known_then) ∙ same))
        | inr (inl secures) ↦ Secures
            (secure_kept (first ++ own) ∙ list_any-append is_any_secure first own
            ∙ or_right (list_any is_any_secure first) (list_any is_any_secure own) secures)
        | inr (inr quiet) ↦ elim (cases_Bool (is_empty (unknown k told.outcomes))) [
          | inl none ↦ count_adds (known_then ∙ quiet.0)
              (by greater
              (sym (ap (λ b. b || greater)
              (list_any-append is_entered first own
              ∙ (λ i. (informs_entered s (new_aborts told k) (new_commits told k)
              ∙ unnamed no_aborts no_commits (sym none_new ∙ none)) i || quiet.1 i)))
              ∙ some))
          | inr new ↦ Decides (λ same. longer k.outcomes (unknown k told.outcomes) new
              (sym (ap (λ (x : Knowledge). x.outcomes) (known_then ∙ quiet.0)) ∙ same))
        ]
      ]
    where
      by : (b : Bool) → ((false || false) || b) ≡ true → b ≡ true
      by b is = is

      unnamed : (a c : Bool) → (a && c) ≡ true → (not a || not c) ≡ false
      unnamed true true h = refl
      unnamed true false h = cc
      unnamed false c h = cc
