-- Each operation that a log holds, or that is live, was performed.
use Rattle.std.proofs.Common.{inl, inr, ℕ, ◌<◌, List, [], ◌∷◌, ◌++◌, zip, reverse, sym, subst}
use Rattle.cam_names.specs.declared.name.Name.{Name}
use Rattle.cam_type.specs.declared.Held.{Held}
use Rattle.cam_type.specs.declared.HeldOp.{HeldOp}
use Rattle.cam_event.specs.HeldSites.{Placed, Site}
use Rattle.cam_locks.specs.declared.LiveOp.{LiveOp}
use Rattle.cam_locks.specs.Members.{In}
use Rattle.cam_locks.proofs.Members.{in_either}
use Rattle.cam_server.specs.Recovered.{beside}
use Rattle.cam_node.specs.LogOrder.{held_at, live_at}
use Rattle.cam_node.proofs.Places.{from_map, at}
use Rattle.cam_node.proofs.PlacedPast.{ArePast, AllPast, IsPast, all_backwards}

live_past : (n : ℕ) (ks : List LiveOp) (ps : List Placed) → ArePast n ps → (x : ℕ × ℕ)
    → In x (live_at ks ps) → x.1 < n
live_past n [] ps past x h = absurd h
live_past n (k ∷ ks) [] past x h = absurd h
live_past n (k ∷ ks) (p ∷ ps) past x (inl e) = subst (λ (y : ℕ × ℕ). y.1 < n) (sym e) past.0
live_past n (k ∷ ks) (p ∷ ps) past x (inr h) = live_past n ks ps past.1 x h

zip_past : (n : ℕ) (hs : List HeldOp) (ps : List Placed) → ArePast n ps → (b : HeldOp × Placed)
    → In b (zip hs ps) → b.1.index < n
zip_past n [] ps past b h = absurd h
zip_past n (k ∷ hs) [] past b h = absurd h
zip_past n (k ∷ hs) (p ∷ ps) past b (inl e) =
    subst (λ (c : HeldOp × Placed). c.1.index < n) (sym e) past.0
zip_past n (k ∷ hs) (p ∷ ps) past b (inr h) = zip_past n hs ps past.1 b h

beside_past : (n : ℕ) (hs : List Held) (gs : List (Name × List Placed)) → AllPast n gs
    → (b : HeldOp × Placed) → In b (beside hs gs) → b.1.index < n
beside_past n [] gs past b h = absurd h
beside_past n (k ∷ hs) [] past b h = absurd h
beside_past n (k ∷ hs) (g ∷ gs) past b h = elim (in_either b (zip k.ops g.1) (beside hs gs) h) [
  | inl a ↦ zip_past n k.ops g.1 past.0 b a
  | inr c ↦ beside_past n hs gs past.1 b c
]

pub all_past : (n : ℕ) (site : Site) (logged : List Held) (live : List LiveOp) → IsPast n site
    → (x : ℕ × ℕ) → In x (held_at logged (reverse site.secured) ++ live_at live site.live) → x.1 < n
all_past n site logged live past x h =
    elim (in_either x (held_at logged (reverse site.secured)) (live_at live site.live) h) [
      | inl a ↦
          let found = from_map at x (beside logged (reverse site.secured)) a in
          subst (λ (y : ℕ × ℕ). y.1 < n) (sym found.2)
          (beside_past n logged (reverse site.secured)
          (all_backwards n site.secured past.secured) found.0 found.1)
      | inr b ↦ live_past n live site.live past.live x b
    ]
