-- What is live after a restart, put in its order, stands at the places that the log has of it.
use Rattle.std.proofs.Common.{◌≡◌, ◌⊎◌, inl, inr, ℕ, nat_lt, Bool, true, false, not, cond, if◌then◌else◌, List, [], ◌∷◌, ◌++◌, map, flat_map, zip, sym, ap, ◌∙◌, true≢false}
use Rattle.cam_names.specs.declared.name.Name.{Name}
use Rattle.cam_type.specs.declared.Held.{Held}
use Rattle.cam_type.specs.declared.HeldOp.{HeldOp}
use Rattle.cam_know.specs.Knowledge.{Knowledge}
use Rattle.cam_know.specs.Known.{knows_abort}
use Rattle.cam_event.specs.declared.Deed.{Deed}
use Rattle.cam_event.specs.History.{informed}
use Rattle.cam_event.specs.HeldSites.{Placed, put_placed, in_order, for_family}
use Rattle.cam_locks.specs.declared.LiveOp.{LiveOp}
use Rattle.cam_locks.specs.Members.{In}
use Rattle.cam_locks.specs.Restored as restored
use Rattle.cam_locks.specs.Restored.{of_family, ops_of, put_in_order}
use Rattle.cam_server.specs.Recovered.{AreHeldOps, AreHeld, beside}
use Rattle.cam_server.proofs.LogAlike.{groups}
use Rattle.cam_server.proofs.SortedAlike.{InPlace, AreAlike, place_in_order}
use Rattle.cam_node.specs.LogOrder.{held_at, live_at}
use Rattle.cam_node.proofs.Places.{at}

-- an operation that is put at its place
put_at : (k : LiveOp) (p : Placed) (ks : List LiveOp) (ps : List Placed) → InPlace k p ks ps
    → (x : ℕ × ℕ)
    → In x (live_at (put_in_order k ks) (put_placed p ps))
    → (x ≡ (k.index, p.index)) ⊎ In x (live_at ks ps)
put_at k p [] [] place x h = h
put_at k p [] (q ∷ ps) place x h = absurd place
put_at k p (j ∷ ks) [] place x h = absurd place
put_at k p (j ∷ ks) (q ∷ ps) place x h =
    by (nat_lt j.index k.index) (nat_lt p.index q.index) place.0 (put_at k p ks ps place.1 x) h
  where
    by : (b c : Bool) → b ≡ not c
        → (In x (live_at (put_in_order k ks) (put_placed p ps))
        → (x ≡ (k.index, p.index)) ⊎ In x (live_at ks ps))
        → In x
        (live_at (cond b (j ∷ put_in_order k ks) (k ∷ j ∷ ks))
        (cond c (p ∷ q ∷ ps) (q ∷ put_placed p ps)))
        → (x ≡ (k.index, p.index)) ⊎ ((x ≡ (j.index, q.index)) ⊎ In x (live_at ks ps))
    by true false is rest (inl e) = inr (inl e)
    by true false is rest (inr m) = elim (rest m) [ inl e ↦ inl e | inr r ↦ inr (inr r) ]
    by false true is rest m = m
    by true true is rest m = absurd (true≢false is)
    by false false is rest m = absurd (true≢false (sym is))

pub sorted_at : (ks : List LiveOp) (ps : List Placed) → AreAlike ks ps → (x : ℕ × ℕ)
    → In x (live_at (restored.in_order ks) (in_order ps)) → In x (live_at ks ps)
sorted_at [] [] alike x h = h
sorted_at [] (p ∷ ps) alike x h = absurd alike
sorted_at (k ∷ ks) [] alike x h = absurd alike
sorted_at (k ∷ ks) (p ∷ ps) alike x h =
    elim (put_at k p (restored.in_order ks) (in_order ps)
    (place_in_order k p ks ps alike.1 alike.0) x h) [
      | inl e ↦ inl e
      | inr m ↦ inr (sorted_at ks ps alike.1 x m)
    ]

-- what a family has in the log, and behind it the rest
ops_at : (f e : Name) (hs : List HeldOp) (ps : List Placed) (ks : List LiveOp) (qs : List Placed)
    → AreHeldOps hs ps → (x : ℕ × ℕ)
    → In x (live_at (map (of_family f) hs ++ ks) (map (for_family e) ps ++ qs))
    → In x (map at (zip hs ps)) ⊎ In x (live_at ks qs)
ops_at f e [] [] ks qs held x h = inr h
ops_at f e [] (p ∷ ps) ks qs held x h = absurd held
ops_at f e (k ∷ hs) [] ks qs held x h = absurd held
ops_at f e (k ∷ hs) (p ∷ ps) ks qs held x (inl is) = inl (inl is)
ops_at f e (k ∷ hs) (p ∷ ps) ks qs held x (inr h) =
    elim (ops_at f e hs ps ks qs held.1 x h) [ inl a ↦ inl (inr a) | inr b ↦ inr b ]

at_append : (x : ℕ × ℕ) (bs cs : List (HeldOp × Placed)) → In x (map at bs) ⊎ In x (map at cs)
    → In x (map at (bs ++ cs))
at_append x [] cs (inl h) = absurd h
at_append x [] cs (inr h) = h
at_append x (b ∷ bs) cs (inl (inl e)) = inl e
at_append x (b ∷ bs) cs (inl (inr h)) = inr (at_append x bs cs (inl h))
at_append x (b ∷ bs) cs (inr h) = inr (at_append x bs cs (inr h))

pub groups_at : (L : List Deed) (s : ℕ) (know : Knowledge)
    → ((u : Name) → knows_abort know u ≡ informed L s u false)
    → (hs : List Held) (gs : List (Name × List Placed)) → AreHeld hs gs → (x : ℕ × ℕ)
    → In x (live_at (flat_map (ops_of know) hs) (groups L s gs)) → In x (held_at hs gs)
groups_at L s know tells [] [] held x h = h
groups_at L s know tells [] (g ∷ gs) held x h = absurd held
groups_at L s know tells (k ∷ hs) [] held x h = absurd held
groups_at L s know tells (k ∷ hs) (g ∷ gs) held x h =
    at_append x (zip k.ops g.1) (beside hs gs)
    (by (knows_abort know k.family) (informed L s g.0 false)
    (tells k.family ∙ ap (λ (u : Name). informed L s u false) held.0)
    (groups_at L s know tells hs gs held.2 x) h)
  where
    by : (b c : Bool) → b ≡ c
        → (In x (live_at (flat_map (ops_of know) hs) (groups L s gs)) → In x (held_at hs gs))
        → In x
        (live_at ((if b then [] else map (of_family k.family) k.ops) ++ flat_map (ops_of know) hs)
        ((if c then [] else map (for_family g.0) g.1) ++ groups L s gs))
        → In x (map at (zip k.ops g.1)) ⊎ In x (held_at hs gs)
    by true true is rest m = inr (rest m)
    by false false is rest m =
        elim (ops_at k.family g.0 k.ops g.1 (flat_map (ops_of know) hs)
        (groups L s gs) held.1 x m) [ inl a ↦ inl a | inr r ↦ inr (rest r) ]
    by true false is rest m = absurd (true≢false is)
    by false true is rest m = absurd (true≢false (sym is))
