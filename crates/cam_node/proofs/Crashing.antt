-- After a restart the order of what the log holds and of what is live is that of the log.
use Rattle.std.proofs.Common.{◌≡◌, inl, inr, ℕ, ◌<◌, ◌≤◌, nat_lt, List, [], ◌∷◌, ◌++◌, map, flat_map, reverse, refl, sym, ap, subst, arith}
use Rattle.cam_names.specs.declared.name.Name.{Name}
use Rattle.cam_type.specs.declared.Held.{Held}
use Rattle.cam_type.specs.declared.HeldOp.{HeldOp}
use Rattle.cam_event.specs.declared.Deed.{Deed}
use Rattle.cam_event.specs.HeldSites.{Placed, Site, in_order, is_any_perform, site, site_after_all}
use Rattle.cam_event.specs.Carried.{deeds_of}
use Rattle.cam_event.specs.ByDeltas.{as_carried}
use Rattle.cam_locks.specs.Members.{In}
use Rattle.cam_locks.specs.Restored as restored
use Rattle.cam_locks.specs.Restored.{ops_of, next_of, all_held}
use Rattle.cam_locks.proofs.Members.{in_either, in_left}
use Rattle.cam_server.specs.Recovered.{AreHeld, beside, OrderIsKept}
use Rattle.cam_server.proofs.LogOrder.{log_ordered, held_beside}
use Rattle.cam_server.proofs.LogAlike.{groups, log_alike}
use Rattle.cam_server.proofs.SortedAlike.{AreAlike}
use Rattle.cam_server.proofs.Restarting.{crash_live}
use Rattle.cam_node.specs.LogOrder.{held_at, live_at, performed, AreAtMost, AreOrdered}
use Rattle.cam_node.specs.OrderLaws.{RestartKeepsOrder}
use Rattle.cam_node.proofs.AllPast.{all_past}
use Rattle.cam_node.proofs.Performed.{no_fewer}
use Rattle.cam_node.proofs.PlacedPast.{site_past}
use Rattle.cam_node.proofs.Places.{in_contained, in_map, from_map, at}
use Rattle.cam_node.proofs.LivePlaces.{sorted_at, groups_at}

-- the next index is above all that the log holds
below_next : (hs : List HeldOp) (h : HeldOp) → In h hs → h.index < next_of hs
below_next [] h member = absurd member
below_next (k ∷ hs) h (inl e) =
    let same : h.index ≡ k.index = ap (λ (j : HeldOp). j.index) e in omega (arith, same)
below_next (k ∷ hs) h (inr member) = let rest = below_next hs h member in omega (arith, rest)

held_below : (hs : List Held) (gs : List (Name × List Placed)) → AreHeld hs gs → (x : ℕ × ℕ)
    → In x (held_at hs gs) → x.0 < next_of (all_held hs)
held_below hs gs held x member =
    let found = from_map at x (beside hs gs) member in
    subst (λ (y : ℕ × ℕ). y.0 < next_of (all_held hs)) (sym found.2)
    (below_next (all_held hs) found.0.0
    (subst (In found.0.0) (held_beside hs gs held)
    (in_map (λ (b : HeldOp × Placed). b.0) found.0 (beside hs gs) found.1)))

-- and at most a number that is above all of them
next_within : (n : ℕ) (hs : List HeldOp) → ((h : HeldOp) → In h hs → h.index < n) → next_of hs ≤ n
next_within n [] below = omega arith
next_within n (k ∷ hs) below =
    let one = below k (inl refl) in
    let rest = next_within n hs (λ h member. below h (inr member)) in
    omega (arith, one, rest)

held_within : (n : ℕ) (hs : List Held) (gs : List (Name × List Placed)) → AreHeld hs gs
    → ((x : ℕ × ℕ) → In x (held_at hs gs) → x.0 < n) → next_of (all_held hs) ≤ n
held_within n hs gs held below =
    next_within n (all_held hs) (λ h member.
    let found = from_map (λ (b : HeldOp × Placed). b.0) h (beside hs gs)
    (subst (In h) (sym (held_beside hs gs held)) member) in
    let less = below (at found.0) (in_map at found.0 (beside hs gs) found.1) in
    subst (λ (k : HeldOp). k.index < n) (sym found.2) less)

-- THE LAW. After a restart from what the log held.
pub restart_in_order : RestartKeepsOrder
restart_in_order objects s history c know logged crash log = record {
  kept = record {
    order = λ one other h k. logs_order one other (among one h) (among other k);
    below = λ one h. held_below logged (reverse gs) log.secured one (among one h);
    at_most = λ one h. logs_at_most one (among one h);
  };
  next =
      let within = held_within (performed history) logged (reverse gs) log.secured
      (λ x h. let low = logs_at_most x h in
      let past = all_past (performed history) (site (map as_carried history)) logged []
      (site_past (map as_carried history)) x (in_left x (held_at logged (reverse gs))
      (live_at [] (site (map as_carried history)).live) h) in
      omega (arith, low, past)) in
      let more = no_fewer is_any_perform L c.event.deeds in
      omega (arith, within, more);
}
  where
    L : List Deed
    L = deeds_of (map as_carried history)

    gs : List (Name × List Placed)
    gs = (site (map as_carried history)).secured

    then : Site
    then = site_after_all L c.mail (site (map as_carried history)) c.event.deeds

    secured_is : then.secured ≡ gs
    secured_is =
        ap (λ (ds : List Deed).
        (site_after_all L c.mail (site (map as_carried history)) ds).secured) crash

    alike : AreAlike (flat_map (ops_of know) logged) (groups L s (reverse gs))
    alike =
        log_alike L s know log.aborts logged (reverse gs) log.secured
        (log_ordered objects s logged (reverse gs) log.secured log.order log.restorable)

    lives : in_order (groups L s (reverse gs)) ≡ then.live
    lives = crash_live objects s (map as_carried history) (as_carried c) know logged crash log

    logs_order : (one other : ℕ × ℕ) → In one (held_at logged (reverse gs))
        → In other (held_at logged (reverse gs)) → nat_lt one.0 other.0 ≡ nat_lt one.1 other.1
    logs_order one other h k = log_order (beside logged (reverse gs)) log.order one other h k
      where
        log_order : (bs : List (HeldOp × Placed)) → OrderIsKept bs → AreOrdered (map at bs)
        log_order bs kept one other h k =
            let b = from_map at one bs h in
            let d = from_map at other bs k in
            subst (λ (y : ℕ × ℕ). nat_lt y.0 other.0 ≡ nat_lt y.1 other.1) (sym b.2)
            (subst (λ (y : ℕ × ℕ). nat_lt b.0.0.index y.0 ≡ nat_lt b.0.1.index y.1) (sym d.2)
            (kept.order b.0 d.0 (in_contained bs b.0 b.1) (in_contained bs d.0 d.1)))

    logs_at_most : AreAtMost (held_at logged (reverse gs))
    logs_at_most one h =
        let b = from_map at one (beside logged (reverse gs)) h in
        subst (λ (y : ℕ × ℕ). y.0 ≤ y.1) (sym b.2)
        (log.order.at_most b.0 (in_contained (beside logged (reverse gs)) b.0 b.1))

    among : (x : ℕ × ℕ)
        → In x
        (held_at logged (reverse then.secured) ++ live_at
        (restored.in_order (flat_map (ops_of know) logged)) then.live) → In x
        (held_at logged (reverse gs))
    among x h =
        elim (in_either x (held_at logged (reverse then.secured))
        (live_at (restored.in_order (flat_map (ops_of know) logged)) then.live) h) [
          | inl a ↦
              subst
              (λ (hs : List (Name × List Placed)). In x (held_at logged (reverse hs))) secured_is a
          | inr b ↦
              groups_at L s know log.aborts logged (reverse gs) log.secured x
              (sorted_at (flat_map (ops_of know) logged) (groups L s (reverse gs)) alike x
              (subst
              (λ (ps : List Placed). In x
              (live_at (restored.in_order (flat_map (ops_of know) logged)) ps)) (sym lives) b))
        ]
