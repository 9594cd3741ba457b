-- A body that is given to an action, and its coming into the table.
use Rattle.std.proofs.Common.{◌≡◌, ◌⊎◌, inl, inr, ℕ, zero, suc, ◌<◌, ◌≤◌, ◌+◌, true, cond}
use Rattle.std.proofs.Common.{List, [], ◌∷◌, ◌++◌, length, take, Some, None, refl, sym, ap, ◌∙◌}
use Rattle.std.proofs.Common.{arith, subst}
use Rattle.std.specs.Prelude.{slice_get}
use Rattle.std.specs.Ordering.{is_eq}
use Rattle.std.specs.BTreeMap.{BTreeMap, IsOrdered, Updates, get, insert_entry, is_at, keys}
use Rattle.std.specs.BTreeSet as sets
use Rattle.std.specs.BTreeSet.{contains}
use Rattle.std.specs.List.Sorted.{IsStrictlySortedBy}
use Rattle.std.specs.Map.{keys_of, lookup}
use Rattle.std.proofs.lemmas.List.{length-append, take-append-le, take_all, take_more}
use Rattle.std.proofs.lemmas.Option.{get_or_from_slice_get, same_Some, slice_get_within}
use Rattle.cam_names.specs.declared.name.Name.{Name}
use Rattle.cam_names.specs.Names.{name_cmp}
use Rattle.cam_runs.specs.HaltedPlaying.{given_body}
use Rattle.cam_runs.specs.Playing as playing
use Rattle.cam_runs.specs.Playing.{body_number}
use Rattle.cam_runs.specs.Standing.{Standing}
use Rattle.cam_cluster.specs.declared.workers.Workers.{Workers}
use Rattle.cam_cluster.specs.ActionViews.{HasSeen}
use Rattle.cam_cluster.specs.Workers.{AreWorkers, IsOnceEach, IsTableOf, first_events}
use Rattle.cam_cluster.proofs.InOrder.{body_number_more, has_body, in_order_more}
use Rattle.cam_cluster.proofs.InOrder.{insert_is_put}
use Rattle.cam_cluster.proofs.Playing.{given_playing, one_plays, same_playing}

-- what stands in a list with one element more after it
behind_last : {X : Type 0} (xs : List X) (x : X) (i : ℕ) (y : X)
    → slice_get (xs ++ x ∷ []) i ≡ Some y
    → (slice_get xs i ≡ Some y) ⊎ ((i ≡ length xs) × (x ≡ y))
behind_last [] x zero y there = inr (refl, same_Some x y there)
behind_last [] x (suc i) y there = cc
behind_last (z ∷ xs) x zero y there = inl there
behind_last (z ∷ xs) x (suc i) y there =
    elim (behind_last xs x i y there) [
      | inl before ↦ inl before
      | inr last ↦ inr (ap suc last.0, last.1)
    ]

once_more : (given : List (Name × ℕ)) (a : Name) (body : ℕ) → IsOnceEach given
    → body_number given a ≡ None → IsOnceEach (given ++ (a, body) ∷ [])
once_more given a body once bare i p there =
    elim (behind_last given (a, body) i p there) [
      | inl before ↦
          ap (λ (ps : List (Name × ℕ)). body_number ps p.0)
          (take-append-le i given ((a, body) ∷ [])
          (let within = slice_get_within given i p before in omega (arith, within)))
          ∙ once i p before
      | inr last ↦
          ap (λ (ps : List (Name × ℕ)). body_number ps p.0)
          (take-append-le i given ((a, body) ∷ []) (omega (arith, last.0))
          ∙ take_all i given (omega (arith, last.0)))
          ∙ ap (λ (q : Name × ℕ). body_number given q.0) (sym last.1) ∙ bare
    ]

-- A body more is given.
pub one_given : (st : Standing) (a : Name) (body : ℕ) (old new : Workers)
    → new.given.items ≡ old.given.items ++ (a, body) ∷ [] → new.placed ≡ old.placed
    → new.bodies ≡ old.bodies → new.playing ≡ old.playing → new.seen ≡ old.seen
    → new.events ≡ old.events → body_number st.running.bodies a ≡ None → AreWorkers st old
    → AreWorkers (given_body (Some body) (Some a) st) new
one_given st a body old new all placed bodies playing seen events bare are = record {
  given = record {
    all = all ∙ ap (λ (ps : List (Name × ℕ)). ps ++ (a, body) ∷ []) are.given.all;
    once = once_more _ _ _ are.given.once bare;
    within =
        let within = are.given.within in
        let long : length (st.running.bodies ++ (a, body) ∷ []) ≡ length st.running.bodies + 1 =
        length-append st.running.bodies ((a, body) ∷ []) in
        omega (arith, within, placed, long);
    table =
        rw bodies (rw (ap (λ n. take n (st.running.bodies ++ (a, body) ∷ [])) placed ∙
        take-append-le old.placed st.running.bodies ((a, body) ∷ []) are.given.within)
        are.given.table);
  };
  playing = same_playing _ _ _ bodies playing (given_playing _ _ _ _ bare are.playing);
  within = let within = are.within in omega (arith, within, events);
  seen = rw seen (rw events are.seen);
}

-- a table with the same entries is one of the same bodies
same_table : (given : List (Name × ℕ)) (old new : BTreeMap Name ℕ) → new.entries ≡ old.entries
    → IsTableOf given old → IsTableOf given new
same_table given old new entries is = record {
  names = ap keys_of entries ∙ is.names;
  ordered = rw entries is.ordered;
  at = λ a. ap (λ (es : List (Name × ℕ)). lookup (is_at (name_cmp a)) es) entries ∙ is.at a;
}

-- The next of the bodies that were given comes into the table.
pub one_placed : (given : List (Name × ℕ)) (i : ℕ) (p : Name × ℕ) (old new : BTreeMap Name ℕ)
    → IsOnceEach given → slice_get given i ≡ Some p → i < length given
    → IsTableOf (take i given) old
    → keys new ≡ keys_of (insert_entry name_cmp old.entries p.0 p.1) → IsOrdered name_cmp new
    → ((q : Name) → get name_cmp new q
    ≡ cond (is_eq (name_cmp p.0 q)) (Some p.1) (get name_cmp old q))
    → IsTableOf (take (i + 1) given) new
one_placed given i p old new once there within table names ordered put =
    let bare = once i p there in
    let more : take (i + 1) given ≡ take i given ++ p ∷ [] =
    take_more given i p within
    ∙ ap (λ (q : Name × ℕ). take i given ++ q ∷ []) (get_or_from_slice_get given i p p there) in
    subst (λ (ps : List (Name × ℕ)). IsTableOf ps new) (sym more) (record {
      names =
          names ∙ insert_is_put old.entries p.0 p.1 (table.at p.0 ∙ bare)
          ∙ ap (playing.put p.0) table.names
          ∙ sym (in_order_more (take i given) p.0 p.1 bare);
      ordered = ordered;
      at = λ q.
          put q ∙ ap (λ o. cond (is_eq (name_cmp p.0 q)) (Some p.1) o) (table.at q)
          ∙ sym (body_number_more (take i given) p.0 p.1 q bare);
    })

module _ (st : Standing) (old new : Workers) (p : Name × ℕ)
    (at : slice_get old.given.items old.placed ≡ Some p)
    (items : new.given.items ≡ old.given.items)
    (playing_ordered : sets.IsOrdered name_cmp new.playing)
    (plays : (q : Name) → contains name_cmp new.playing q
    ≡ cond (is_eq (name_cmp p.0 q)) true (contains name_cmp old.playing q))
    (seen : new.seen ≡ old.seen) (events : new.events ≡ old.events) (are : AreWorkers st old) where
  there : slice_get st.running.bodies old.placed ≡ Some p
  there = ap (λ (ps : List (Name × ℕ)). slice_get ps old.placed) (sym are.given.all) ∙ at

  within : old.placed < length st.running.bodies
  within = slice_get_within st.running.bodies old.placed p there

  still_within : new.events ≤ length st.running.trace
  still_within = let fits = are.within in omega (arith, fits, events)

  still_seen : HasSeen (first_events new.events st.running.trace) new.seen
  still_seen = rw seen (rw events are.seen)

  -- It plays on already;
  pub plays_first : new.placed ≡ old.placed → new.bodies.entries ≡ old.bodies.entries
      → AreWorkers st new
  plays_first placed entries = record {
    given = record {
      all = items ∙ are.given.all;
      once = are.given.once;
      within = let fits = are.given.within in omega (arith, fits, placed);
      table =
          subst (λ n. IsTableOf (take n st.running.bodies) new.bodies) (sym placed)
          (same_table (take old.placed st.running.bodies) old.bodies new.bodies entries
          are.given.table);
    };
    playing =
        one_plays st p.0 old new (has_body st.running.bodies old.placed p there) playing_ordered
        plays
        (λ q other. ap (λ (es : List (Name × ℕ)). lookup (is_at (name_cmp q)) es) entries)
        are.playing;
    within = still_within;
    seen = still_seen;
  }

  -- then it is in the table.
  pub placed_more : new.placed ≡ old.placed + 1
      → keys new.bodies ≡ keys_of (insert_entry name_cmp old.bodies.entries p.0 p.1)
      → IsOrdered name_cmp new.bodies → Updates name_cmp old.bodies new.bodies p.0 (Some p.1)
      → AreWorkers st new
  placed_more one_more names ordered put = record {
    given = record {
      all = items ∙ are.given.all;
      once = are.given.once;
      within = omega (arith, within, one_more);
      table =
          subst (λ n. IsTableOf (take n st.running.bodies) new.bodies) (sym one_more)
          (one_placed st.running.bodies old.placed p old.bodies new.bodies are.given.once there
          within are.given.table names ordered put.0);
    };
    playing =
        one_plays st p.0 old new (has_body st.running.bodies old.placed p there) playing_ordered
        plays put.2 are.playing;
    within = still_within;
    seen = still_seen;
  }
