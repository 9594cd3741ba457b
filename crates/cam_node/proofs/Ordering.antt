-- The order of what a log holds and of what is live goes on where operations are dropped, where a family is secured, and where one more is performed.
use Rattle.std.proofs.Common.{◌≡◌, ◌⊎◌, inl, inr, ℕ, ◌+◌, ◌<◌, ◌≤◌, nat_lt, List, [], ◌∷◌, ◌++◌, map, zip, reverse, Contains, sym, ap, ◌∙◌, subst, arith}
use Rattle.std.proofs.lemmas.Bool.{lt-ltb, le-ltb}
use Rattle.std.proofs.lemmas.List.{reverse-append}
use Rattle.cam_names.specs.declared.name.Name.{Name}
use Rattle.cam_type.specs.declared.Held.{Held}
use Rattle.cam_type.specs.declared.HeldOp.{HeldOp}
use Rattle.cam_event.specs.HeldSites.{Placed, Site}
use Rattle.cam_locks.specs.declared.LiveOp.{LiveOp}
use Rattle.cam_locks.specs.Members.{In}
use Rattle.cam_locks.proofs.Members.{in_left, in_right, in_either, in_last}
use Rattle.cam_server.specs.Server.{AreLiveOps}
use Rattle.cam_server.specs.Recovered.{AreHeld, beside, OrderIsKept}
use Rattle.cam_node.specs.LogOrder.{held_at, live_at, OrderIsKeptWith}
use Rattle.cam_node.proofs.Places.{contained_in, in_map, from_map, live_append, family_ops, held_ops, family_at, at, beside_more}
use Rattle.cam_node.proofs.PlacedPast.{IsPast}
use Rattle.cam_node.proofs.AllPast.{all_past}

-- Where nothing comes, the order goes on.
pub fewer : (old new : Site) (logged more : List Held) (live left : List LiveOp) (next : ℕ)
    → ((x : ℕ × ℕ) → In x (held_at more (reverse new.secured) ++ live_at left new.live)
    → In x (held_at logged (reverse old.secured) ++ live_at live old.live))
    → OrderIsKeptWith old logged live next → OrderIsKeptWith new more left next
fewer old new logged more live left next among is =
    record {
      order = λ one other h k. is.order one other (among one h) (among other k);
      below = λ one h. is.below one (among one h);
      at_most = λ one h. is.at_most one (among one h);
    }

-- where operations are dropped
pub dropped_in_order : (old new : Site) (logged : List Held) (live left : List LiveOp) (next : ℕ)
    → new.secured ≡ old.secured
    → ((x : ℕ × ℕ) → In x (live_at left new.live) → In x (live_at live old.live))
    → OrderIsKeptWith old logged live next → OrderIsKeptWith new logged left next
dropped_in_order old new logged live left next there among is =
    fewer old new logged logged live left next within is
  where
    logs : held_at logged (reverse new.secured) ≡ held_at logged (reverse old.secured)
    logs = ap (λ (gs : List (Name × List Placed)). held_at logged (reverse gs)) there

    within : (x : ℕ × ℕ) → In x (held_at logged (reverse new.secured) ++ live_at left new.live)
        → In x (held_at logged (reverse old.secured) ++ live_at live old.live)
    within x h =
        elim (in_either x (held_at logged (reverse new.secured)) (live_at left new.live) h) [
          | inl a ↦
              in_left x (held_at logged (reverse old.secured)) (live_at live old.live)
              (subst (In x) logs a)
          | inr b ↦
              in_right x (held_at logged (reverse old.secured)) (live_at live old.live) (among x b)
        ]

-- Where a family is secured, what the log holds of it was live.
abbrev pub with_family : Name → Site → Site
with_family f site = record site { secured = (f, family_ops f site.live) ∷ site.secured }

secured_among : (f : Name) (old : Site) (logged : List Held) (h : Held) (live : List LiveOp)
    → AreLiveOps live old.live
    → AreHeld logged (reverse old.secured) → h.ops ≡ held_ops f live
    → (x : ℕ × ℕ) → In x (held_at (logged ++ h ∷ []) (reverse (with_family f old).secured))
    → In x (held_at logged (reverse old.secured) ++ live_at live old.live)
secured_among f old logged h live are held is x member =
    let found =
    from_map at x (beside (logged ++ h ∷ []) (reverse (with_family f old).secured)) member in
    let b : HeldOp × Placed = found.0 in
    subst (λ (y : ℕ × ℕ). In y (held_at logged (reverse old.secured) ++ live_at live old.live))
    (sym found.2)
    (elim
    (in_either b (beside logged (reverse old.secured)) (zip h.ops ops ++ [])
    (subst (In b) list found.1)) [
      | inl a ↦
          in_left (at b) (held_at logged (reverse old.secured)) (live_at live old.live)
          (in_map at b (beside logged (reverse old.secured)) a)
      | inr c ↦
          in_right (at b) (held_at logged (reverse old.secured)) (live_at live old.live)
          (elim (in_either b (zip h.ops ops) [] c) [
            | inl d ↦
                family_at f live old.live are (at b)
                (subst (λ (hs : List HeldOp). In (at b) (map at (zip hs ops))) is
                (in_map at b (zip h.ops ops) d))
            | inr none ↦ absurd none
          ])
    ])
  where
    ops : List Placed
    ops = family_ops f old.live

    list : beside (logged ++ h ∷ []) (reverse (with_family f old).secured) ≡ beside logged
        (reverse old.secured) ++ (zip h.ops ops ++ [])
    list =
        ap (beside (logged ++ h ∷ [])) (reverse-append ((f, ops) ∷ []) old.secured)
        ∙ beside_more logged (reverse old.secured) h (f, ops) held

pub secured_in_order : (f : Name) (old : Site) (logged : List Held) (h : Held) (live : List LiveOp)
    (next : ℕ) → AreLiveOps live old.live
    → AreHeld logged (reverse old.secured) → h.ops ≡ held_ops f live
    → OrderIsKeptWith old logged live next
    → OrderIsKeptWith (with_family f old) (logged ++ h ∷ []) live next
secured_in_order f old logged h live next are held is kept =
    fewer old (with_family f old) logged (logged ++ h ∷ []) live live next
    (λ x member. elim
    (in_either x (held_at (logged ++ h ∷ []) (reverse (with_family f old).secured))
    (live_at live old.live) member) [
      | inl a ↦ secured_among f old logged h live are held is x a
      | inr b ↦ in_right x (held_at logged (reverse old.secured)) (live_at live old.live) b
    ]) kept

pub secured_order : (f : Name) (old : Site) (logged : List Held) (h : Held) (live : List LiveOp)
    (next : ℕ) → AreLiveOps live old.live
    → AreHeld logged (reverse old.secured) → h.ops ≡ held_ops f live
    → OrderIsKeptWith old logged live next
    → OrderIsKept (beside (logged ++ h ∷ []) (reverse (with_family f old).secured))
secured_order f old logged h live next are held is kept = record {
  order = λ one other p q. kept.order (at one) (at other) (within one p) (within other q);
  at_most = λ one p. kept.at_most (at one) (within one p);
}
  where
    within : (b : HeldOp × Placed)
        → Contains (beside (logged ++ h ∷ []) (reverse (with_family f old).secured)) b
        → In (at b) (held_at logged (reverse old.secured) ++ live_at live old.live)
    within b has =
        secured_among f old logged h live are held is (at b)
        (in_map at b (beside (logged ++ h ∷ []) (reverse (with_family f old).secured))
        (contained_in (beside (logged ++ h ∷ []) (reverse (with_family f old).secured)) b has))

-- Where one more is performed, it comes last in both orders.
both_less : (i j m n : ℕ) → i < m → j < n → nat_lt i m ≡ nat_lt j n
both_less i j m n h k = lt-ltb i m h ∙ sym (lt-ltb j n k)

both_back : (i j m n : ℕ) → i < m → j < n → nat_lt m i ≡ nat_lt n j
both_back i j m n h k = le-ltb m i (omega (arith, h)) ∙ sym (le-ltb n j (omega (arith, k)))

pub performed_in_order : (n : ℕ) (old : Site) (logged : List Held) (live : List LiveOp) (next : ℕ)
    (k : LiveOp) (p : Placed) → AreLiveOps live old.live
    → IsPast n old → k.index ≡ next → p.index ≡ n → next ≤ n
    → OrderIsKeptWith old logged live next
    → OrderIsKeptWith (record old { live = old.live ++ p ∷ [] }) logged (live ++ k ∷ []) (next + 1)
performed_in_order n old logged live next k p are past index place within is = record {
  order = λ one other h m. by one other (either one h) (either other m);
  below = λ one h. elim (either one h) [
    | inl a ↦ omega (arith, is.below one a)
    | inr e ↦ let here : one.0 ≡ next = ap (λ (y : ℕ × ℕ). y.0) e ∙ index in omega (arith, here)
  ];
  at_most = λ one h. elim (either one h) [
    | inl a ↦ is.at_most one a
    | inr e ↦ subst (λ (y : ℕ × ℕ). y.0 ≤ y.1) (sym (last one e)) within
  ];
}
  where
    all : List (ℕ × ℕ)
    all = held_at logged (reverse old.secured) ++ live_at live old.live

    either : (x : ℕ × ℕ)
        → In x
        (held_at logged (reverse old.secured) ++ live_at (live ++ k ∷ []) (old.live ++ p ∷ []))
        → In x all ⊎ (x ≡ (k.index, p.index))
    either x h =
        elim (in_either x (held_at logged (reverse old.secured))
        (live_at (live ++ k ∷ []) (old.live ++ p ∷ [])) h) [
          | inl a ↦ inl (in_left x (held_at logged (reverse old.secured)) (live_at live old.live) a)
          | inr b ↦
              elim (in_either x (live_at live old.live) ((k.index, p.index) ∷ [])
              (subst (In x) (live_append live (k ∷ []) old.live (p ∷ []) are) b)) [
                | inl c ↦ inl (in_right x (held_at logged (reverse old.secured)) (live_at live old.live) c)
                | inr d ↦ inr (in_last x (k.index, p.index) d)
              ]
        ]

    last : (x : ℕ × ℕ) → x ≡ (k.index, p.index) → x ≡ (next, n)
    last x e = e ∙ (λ i. (index i, place i))

    by : (one other : ℕ × ℕ) → In one all ⊎ (one ≡ (k.index, p.index))
        → In other all ⊎ (other ≡ (k.index, p.index)) → nat_lt one.0 other.0 ≡ nat_lt one.1 other.1
    by one other (inl h) (inl m) = is.order one other h m
    by one other (inl h) (inr e) =
        subst (λ (y : ℕ × ℕ). nat_lt one.0 y.0 ≡ nat_lt one.1 y.1) (sym (last other e))
        (both_less one.0 one.1 next n (is.below one h) (all_past n old logged live past one h))
    by one other (inr e) (inl m) =
        subst (λ (y : ℕ × ℕ). nat_lt y.0 other.0 ≡ nat_lt y.1 other.1) (sym (last one e))
        (both_back other.0 other.1 next n (is.below other m)
        (all_past n old logged live past other m))
    by one other (inr e) (inr d) =
        subst (λ (y : ℕ × ℕ). nat_lt y.0 other.0 ≡ nat_lt y.1 other.1) (sym (last one e))
        (subst (λ (y : ℕ × ℕ). nat_lt next y.0 ≡ nat_lt n y.1) (sym (last other d))
        (le-ltb next next (omega arith) ∙ sym (le-ltb n n (omega arith))))
