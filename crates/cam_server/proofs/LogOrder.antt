-- What a log held keeps the order in which its operations were performed, and no two stand at one place.
use Rattle.std.proofs.Common.{◌≡◌, ℕ, zero, suc, eqb, nat_lt, false, not, List, [], ◌∷◌, ◌++◌, map, zip, Contains, sym, ap, subst, refl, arith, inl, inr}
use Rattle.cam_names.specs.declared.name.Name.{Name}
use Rattle.cam_type.specs.declared.ObjectDecl.{ObjectDecl}
use Rattle.cam_type.specs.declared.Held.{Held}
use Rattle.cam_type.specs.declared.HeldOp.{HeldOp}
use Rattle.cam_event.specs.HeldSites.{Placed}
use Rattle.cam_locks.specs.Members.{In}
use Rattle.cam_locks.specs.Restored.{all_held, has_index, MayBeHeld}
use Rattle.cam_locks.proofs.Bools.{or_parts}
use Rattle.cam_server.specs.Recovered.{AreHeldOps, AreHeld, beside, OrderIsKept}

-- two logged operations, each beside the one for which it stands, are in the same order, and not at one place
pub record AreOrdered (one other : HeldOp × Placed) : Type 0 where
  pub order : nat_lt other.0.index one.0.index ≡ not (nat_lt one.1.index other.1.index)
  pub apart : eqb one.1.index other.1.index ≡ false

abbrev pub EachOrdered : HeldOp × Placed → List (HeldOp × Placed) → Type 0
EachOrdered b [] = Unit {0}
EachOrdered b (c ∷ bs) = AreOrdered b c × EachOrdered b bs

abbrev pub AllOrdered : List (HeldOp × Placed) → Type 0
AllOrdered [] = Unit {0}
AllOrdered (b ∷ bs) = EachOrdered b bs × AllOrdered bs

by_numbers : (i j x y : ℕ) → eqb j i ≡ false → nat_lt j i ≡ nat_lt y x → nat_lt i j ≡ nat_lt x y
    → (nat_lt j i ≡ not (nat_lt x y)) × (eqb x y ≡ false)
by_numbers i j x y apart back on = (grind arith, grind arith)

-- a member is contained
contained : (bs : List (HeldOp × Placed)) (b : HeldOp × Placed) → In b bs → Contains bs b
contained [] b h = absurd h
contained (c ∷ bs) b (inl e) = (zero, omega arith, sym e)
contained (c ∷ bs) b (inr h) = let rest = contained bs b h in (suc rest.0, omega (arith, rest.1), rest.2)

each_ordered : (b : HeldOp × Placed) (bs : List (HeldOp × Placed))
    → has_index (map (λ p. p.0) bs) b.0.index ≡ false
    → ((c : HeldOp × Placed) → In c bs → (nat_lt c.0.index b.0.index ≡ nat_lt c.1.index b.1.index) × (nat_lt b.0.index c.0.index ≡ nat_lt b.1.index c.1.index))
    → EachOrdered b bs
each_ordered b [] absent kept = tt
each_ordered b (c ∷ bs) absent kept =
    let parts = or_parts (eqb c.0.index b.0.index) (has_index (map (λ p. p.0) bs) b.0.index) absent in
    let same = kept c (inl refl) in
    let facts = by_numbers b.0.index c.0.index b.1.index c.1.index parts.0 same.0 same.1 in
    (record { order = facts.0; apart = facts.1 }, each_ordered b bs parts.1 (λ d h. kept d (inr h)))

all_ordered : (objects : List ObjectDecl) (s : ℕ) (bs : List (HeldOp × Placed))
    → MayBeHeld objects s (map (λ p. p.0) bs)
    → ((one other : HeldOp × Placed) → In one bs → In other bs → nat_lt one.0.index other.0.index ≡ nat_lt one.1.index other.1.index)
    → AllOrdered bs
all_ordered objects s [] may kept = tt
all_ordered objects s (b ∷ bs) may kept =
    (each_ordered b bs may.2 (λ c h. (kept c b (inr h) (inl refl), kept b c (inl refl) (inr h))), all_ordered objects s bs may.3 (λ c d h k. kept c d (inr h) (inr k)))

-- the logged operations are those of the log
ops_beside : (hs : List HeldOp) (ps : List Placed) (bs : List (HeldOp × Placed)) (gs : List HeldOp)
    → AreHeldOps hs ps → map (λ p. p.0) bs ≡ gs
    → map (λ p. p.0) (zip hs ps ++ bs) ≡ hs ++ gs
ops_beside [] [] bs gs held is = is
ops_beside [] (p ∷ ps) bs gs held is = absurd held
ops_beside (h ∷ hs) [] bs gs held is = absurd held
ops_beside (h ∷ hs) (p ∷ ps) bs gs held is = ap (λ (xs : List HeldOp). h ∷ xs) (ops_beside hs ps bs gs held.1 is)

pub held_beside : (hs : List Held) (gs : List (Name × List Placed)) → AreHeld hs gs
    → map (λ p. p.0) (beside hs gs) ≡ all_held hs
held_beside [] [] held = refl
held_beside [] (g ∷ gs) held = absurd held
held_beside (h ∷ hs) [] held = absurd held
held_beside (h ∷ hs) (g ∷ gs) held = ops_beside h.ops g.1 (beside hs gs) (all_held hs) held.1 (held_beside hs gs held.2)

pub log_ordered : (objects : List ObjectDecl) (s : ℕ) (hs : List Held) (gs : List (Name × List Placed))
    → AreHeld hs gs → OrderIsKept (beside hs gs)
    → MayBeHeld objects s (all_held hs) → AllOrdered (beside hs gs)
log_ordered objects s hs gs held kept may =
    all_ordered objects s (beside hs gs) (subst (λ (xs : List HeldOp). MayBeHeld objects s xs) (sym (held_beside hs gs held)) may)
    (λ one other h k. kept.order one other (contained (beside hs gs) one h) (contained (beside hs gs) other k))
