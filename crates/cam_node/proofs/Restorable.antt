-- What a log holds of a node's history can be restored, where numbers are left.
use Rattle.std.proofs.Common.{◌≡◌, inl, inr, ℕ, ◌≤◌, nat_le, nat_lt, eqb, Bool, true, false, ◌&&◌, List, [], ◌∷◌, ◌++◌, zip, reverse, Contains, refl, sym, ap, subst, ◌∙◌, arith}
use Rattle.std.specs.List.{list_all}
use Rattle.std.proofs.lemmas.Bool.{true≢false, or_parts, or_from, and_parts, leb-true}
use Rattle.std.proofs.lemmas.List.Folds.{list_all-append}
use Rattle.cam_names.specs.declared.name.Name.{Name}
use Rattle.cam_type.specs.declared.ObjectDecl.{ObjectDecl}
use Rattle.cam_type.specs.declared.Op.{Op}
use Rattle.cam_type.specs.declared.Held.{Held}
use Rattle.cam_type.specs.declared.HeldOp.{HeldOp}
use Rattle.cam_commit.specs.Events.{families_of}
use Rattle.cam_event.specs.HeldSites.{Placed}
use Rattle.cam_locks.specs.Members.{In}
use Rattle.cam_locks.specs.Restored.{all_held, has_index, MayBeHeld, CanRestore}
use Rattle.cam_locks.specs.Site.{fits_here}
use Rattle.cam_server.specs.Recovered.{AreHeldOps, AreHeld, beside, OrderIsKept}
use Rattle.cam_node.specs.Restartable.{is_low, are_low, EachOnce, AreOnce}
use Rattle.cam_node.proofs.Places.{in_contained}
use Rattle.cam_node.proofs.PlacedOnce.{AreApart, AreRight, AreGroups, all_of, has_place, names_of, places}
use Rattle.cam_node.proofs.PlacedTogether.{right_append}
use Rattle.cam_node.proofs.PlacedFamilies.{groups_apart}
use Rattle.cam_node.proofs.GroupsBackwards.{groups_backwards, once_backwards}

-- Of operations beside those for which they stand the order is kept.
abbrev InOrder : List (HeldOp × Placed) → Type 0
InOrder pairs =
    (one other : HeldOp × Placed) → In one pairs → In other pairs
    → nat_lt one.0.index other.0.index ≡ nat_lt one.1.index other.1.index

-- Where no place stands twice, no index does.
same_from : (i j : ℕ) → nat_lt i j ≡ false → nat_lt j i ≡ false → eqb j i ≡ true
same_from i j one other = grind (arith, one, other)

not_less : (i j : ℕ) → eqb j i ≡ true → (nat_lt i j ≡ false) × (nat_lt j i ≡ false)
not_less i j same = (grind (arith, same), grind (arith, same))

no_index : (h : HeldOp) (p : Placed) (hs : List HeldOp) (ps : List Placed) → AreHeldOps hs ps
    → InOrder ((h, p) ∷ zip hs ps) → has_place (places ps) p.index ≡ false
    → has_index hs h.index ≡ false
no_index h p [] ps held order none = refl
no_index h p (k ∷ hs) [] held order none = absurd held
no_index h p (k ∷ hs) (q ∷ ps) held order none =
    let parts = or_parts (eqb q.index p.index) (has_place (places ps) p.index) none in
    or_from (eqb k.index h.index) (has_index hs h.index) (by (eqb k.index h.index) refl parts.0)
    (no_index h p hs ps held.1 (λ one other a b. order one other (further one a) (further other b))
    parts.1)
  where
    further : (x : HeldOp × Placed) → In x ((h, p) ∷ zip hs ps)
        → In x ((h, p) ∷ (k, q) ∷ zip hs ps)
    further x (inl e) = inl e
    further x (inr m) = inr (inr m)

    by : (b : Bool) → eqb k.index h.index ≡ b → eqb q.index p.index ≡ false → b ≡ false
    by false is off = refl
    by true is off =
        let less = not_less h.index k.index is in
        let one = sym (order (h, p) (k, q) (inl refl) (inr (inl refl))) ∙ less.0 in
        let other = sym (order (k, q) (h, p) (inr (inl refl)) (inl refl)) ∙ less.1 in
        absurd (true≢false (sym (same_from p.index q.index one other) ∙ off))

low_index : (i : ℕ) → nat_le i 499999999 ≡ true → i ≤ 999999999
low_index i low = let less = leb-true i 499999999 low in omega (arith, less)

may_be_held : (objects : List ObjectDecl) (s n : ℕ) (owner : ℕ → Name) (hs : List HeldOp)
    (ps : List Placed) → AreHeldOps hs ps → AreRight objects s n owner ps → AreApart ps
    → InOrder (zip hs ps) → list_all is_low hs ≡ true → MayBeHeld objects s hs
may_be_held objects s n owner [] ps held right apart order low = tt
may_be_held objects s n owner (h ∷ hs) [] held right apart order low = absurd held
may_be_held objects s n owner (h ∷ hs) (p ∷ ps) held right apart order low =
    let parts = and_parts (is_low h) (list_all is_low hs) low in (
      subst (λ (op : Op). fits_here objects s h.object op ≡ true) (sym held.0.1)
          (subst (λ (x : ℕ). fits_here objects s x p.operation.op ≡ true) (sym held.0.0)
          right.0.fits),
      low_index h.index parts.0,
      no_index h p hs ps held.1 order apart.0,
      may_be_held objects s n owner hs ps held.1 right.1 apart.1
          (λ one other a b. order one other (inr a) (inr b)) parts.1,
    )

-- all that is held beside all that is secured
held_append : (hs ks : List HeldOp) (ps qs : List Placed) → AreHeldOps hs ps → AreHeldOps ks qs
    → AreHeldOps (hs ++ ks) (ps ++ qs)
held_append [] ks [] qs one other = other
held_append [] ks (p ∷ ps) qs one other = absurd one
held_append (h ∷ hs) ks [] qs one other = absurd one
held_append (h ∷ hs) ks (p ∷ ps) qs one other = (one.0, held_append hs ks ps qs one.1 other)

zip_append : (hs ks : List HeldOp) (ps qs : List Placed) → AreHeldOps hs ps
    → zip (hs ++ ks) (ps ++ qs) ≡ zip hs ps ++ zip ks qs
zip_append [] ks [] qs one = refl
zip_append [] ks (p ∷ ps) qs one = absurd one
zip_append (h ∷ hs) ks [] qs one = absurd one
zip_append (h ∷ hs) ks (p ∷ ps) qs one =
    ap (λ (l : List (HeldOp × Placed)). (h, p) ∷ l) (zip_append hs ks ps qs one.1)

all_are_held : (held : List Held) (gs : List (Name × List Placed)) → AreHeld held gs
    → AreHeldOps (all_held held) (all_of gs)
all_are_held [] [] are = tt
all_are_held [] (g ∷ gs) are = absurd are
all_are_held (h ∷ hs) [] are = absurd are
all_are_held (h ∷ hs) (g ∷ gs) are =
    held_append h.ops (all_held hs) g.1 (all_of gs) are.1 (all_are_held hs gs are.2)

beside_all : (held : List Held) (gs : List (Name × List Placed)) → AreHeld held gs
    → beside held gs ≡ zip (all_held held) (all_of gs)
beside_all [] [] are = refl
beside_all [] (g ∷ gs) are = absurd are
beside_all (h ∷ hs) [] are = absurd are
beside_all (h ∷ hs) (g ∷ gs) are =
    ap (λ (l : List (HeldOp × Placed)). zip h.ops g.1 ++ l) (beside_all hs gs are.2)
    ∙ sym (zip_append h.ops (all_held hs) g.1 (all_of gs) are.1)

low_all : (held : List Held) → are_low held ≡ true → list_all is_low (all_held held) ≡ true
low_all [] low = refl
low_all (h ∷ hs) low =
    let parts = and_parts (list_all is_low h.ops) (are_low hs) low in
    list_all-append is_low h.ops (all_held hs)
    ∙ (λ i. parts.0 i && low_all hs parts.1 i)

right_all : (objects : List ObjectDecl) (s n : ℕ) (owner : ℕ → Name)
    (gs : List (Name × List Placed)) → AreGroups objects s n owner gs
    → AreRight objects s n owner (all_of gs)
right_all objects s n owner [] groups = tt
right_all objects s n owner (g ∷ gs) groups =
    right_append objects s n owner g.1 (all_of gs) groups.0.0
    (right_all objects s n owner gs groups.1)

pub held_names : (held : List Held) (gs : List (Name × List Placed)) → AreHeld held gs
    → families_of held ≡ names_of gs
held_names [] [] are = refl
held_names [] (g ∷ gs) are = absurd are
held_names (h ∷ hs) [] are = absurd are
held_names (h ∷ hs) (g ∷ gs) are = λ i. are.0 i ∷ held_names hs gs are.2 i

-- A log that holds these families in order holds what can be restored, and each once.
pub held_is_restorable : (objects : List ObjectDecl) (s n : ℕ) (owner : ℕ → Name)
    (gs : List (Name × List Placed)) (held : List Held) → AreGroups objects s n owner gs
    → EachOnce (names_of gs) → AreHeld held (reverse gs) → OrderIsKept (beside held (reverse gs))
    → are_low held ≡ true → CanRestore objects s held × AreOnce held
held_is_restorable objects s n owner gs held groups once are order low = (
  may_be_held objects s n owner (all_held held) (all_of (reverse gs))
      (all_are_held held (reverse gs) are) (right_all objects s n owner (reverse gs) back)
      (groups_apart objects s n owner (reverse gs) back (once_backwards gs once))
      (λ one other a b. order.order one other (there one a) (there other b)) (low_all held low),
  subst EachOnce (sym (held_names held (reverse gs) are)) (once_backwards gs once),
)
  where
    back : AreGroups objects s n owner (reverse gs)
    back = groups_backwards objects s n owner gs groups

    there : (x : HeldOp × Placed) → In x (zip (all_held held) (all_of (reverse gs)))
        → Contains (beside held (reverse gs)) x
    there x m =
        in_contained (beside held (reverse gs)) x
        (subst (In x) (sym (beside_all held (reverse gs) are)) m)
