-- Where operations stand, in a log and in a table: what is left, one more, and one family.
use Rattle.std.proofs.Common.{◌≡◌, ◌⊎◌, inl, inr, ℕ, ◌<◌, Bool, true, false, not, cond, zero, suc, length, List, [], ◌∷◌, ◌++◌, map, filter, zip, Contains, refl, sym, ap, ◌∙◌, arith}
use Rattle.std.specs.Prelude.{slice_index_or}
use Rattle.std.specs.List.{list_any}
use Rattle.cam_names.specs.declared.name.Name.{Name}
use Rattle.std.proofs.lemmas.List.{append_assoc}
use Rattle.cam_names.specs.Names.{name_eq, ancestors, family}
use Rattle.cam_type.specs.declared.Held.{Held}
use Rattle.cam_type.specs.declared.HeldOp.{HeldOp}
use Rattle.cam_event.specs.HeldSites.{Placed}
use Rattle.cam_locks.specs.declared.LiveOp.{LiveOp}
use Rattle.cam_locks.specs.Calls.{is_of, held_op}
use Rattle.cam_locks.specs.Members.{In}
use Rattle.cam_server.specs.Server.{AreLiveOps}
use Rattle.cam_server.specs.Recovered.{AreHeldOps, AreHeld, beside}
use Rattle.cam_server.proofs.QuietDeeds.{is_down, left}
use Rattle.cam_node.specs.LogOrder.{live_at, left_live}

-- what is contained is a member
pub contained_in : {X : Type 0} (xs : List X) (x : X) → Contains xs x → In x xs
contained_in {X} xs x h = by xs h.0 h.1 h.2
  where
    by : (xs : List X) (k : ℕ) → k < length xs → slice_index_or xs k x ≡ x → In x xs
    by [] k less is = absurd (omega (arith, less))
    by (y ∷ ys) zero less is = inl (sym is)
    by (y ∷ ys) (suc k) less is = inr (by ys k (omega (arith, less)) is)

pub in_contained : {X : Type 0} (xs : List X) (x : X) → In x xs → Contains xs x
in_contained [] x h = absurd h
in_contained (y ∷ xs) x (inl e) = (zero, omega arith, sym e)
in_contained (y ∷ xs) x (inr h) =
    let rest = in_contained xs x h in (suc rest.0, omega (arith, rest.1), rest.2)

-- a member's image is a member, and each member of the images is one
pub in_map : {X Y : Type 0} (f : X → Y) (x : X) (xs : List X) → In x xs → In (f x) (map f xs)
in_map f x [] h = absurd h
in_map f x (y ∷ xs) (inl e) = inl (ap f e)
in_map f x (y ∷ xs) (inr h) = inr (in_map f x xs h)

pub from_map : {X Y : Type 0} (f : X → Y) (y : Y) (xs : List X) → In y (map f xs)
    → (x : X) × In x xs × (y ≡ f x)
from_map f y [] h = absurd h
from_map f y (x ∷ xs) (inl e) = (x, inl refl, e)
from_map f y (x ∷ xs) (inr h) = let rest = from_map f y xs h in (rest.0, inr rest.1, rest.2)

-- one list of live operations after another
pub live_append : (ks js : List LiveOp) (ps qs : List Placed) → AreLiveOps ks ps
    → live_at (ks ++ js) (ps ++ qs) ≡ live_at ks ps ++ live_at js qs
live_append [] js [] qs are = refl
live_append [] js (p ∷ ps) qs are = absurd are
live_append (k ∷ ks) js [] qs are = absurd are
live_append (k ∷ ks) js (p ∷ ps) qs are =
    ap (λ (at : List (ℕ × ℕ)). (k.index, p.index) ∷ at) (live_append ks js ps qs are.1)

-- what an abort leaves was there
pub left_at : (down : Name → Bool) (ks : List LiveOp) (ps : List Placed) → AreLiveOps ks ps
    → (x : ℕ × ℕ)
    → In x (live_at (left_live down ks) (left down ps)) → In x (live_at ks ps)
left_at down [] [] are x h = h
left_at down [] (p ∷ ps) are x h = absurd are
left_at down (k ∷ ks) [] are x h = absurd are
left_at down (k ∷ ks) (p ∷ ps) are x h =
    by (not (list_any down (ancestors k.action))) (not (is_down down p))
    (ap (λ (a : Name). not (list_any down (ancestors a))) are.0.action)
    (left_at down ks ps are.1 x) h
  where
    by : (b c : Bool) → b ≡ c
        → (In x (live_at (left_live down ks) (left down ps)) → In x (live_at ks ps))
        → In x
        (live_at (cond b (k ∷ left_live down ks) (left_live down ks))
        (cond c (p ∷ left down ps) (left down ps)))
        → (x ≡ (k.index, p.index)) ⊎ In x (live_at ks ps)
    by true true is rest (inl e) = inl e
    by true true is rest (inr m) = inr (rest m)
    by false false is rest m = inr (rest m)
    by true false is rest m = cc
    by false true is rest m = cc

-- the live operations of a family, as they are held and as they stand at the site
abbrev pub family_ops : Name → List Placed → List Placed
family_ops f ps = filter (λ p. name_eq f (family p.operation.action)) ps

abbrev pub held_ops : Name → List LiveOp → List HeldOp
held_ops f ks = map held_op (filter (is_of f) ks)

pub family_held : (f : Name) (ks : List LiveOp) (ps : List Placed) → AreLiveOps ks ps
    → AreHeldOps (held_ops f ks) (family_ops f ps)
family_held f [] [] are = tt
family_held f [] (p ∷ ps) are = absurd are
family_held f (k ∷ ks) [] are = absurd are
family_held f (k ∷ ks) (p ∷ ps) are =
    by (is_of f k) (name_eq f (family p.operation.action))
    (ap (λ (a : Name). name_eq f (family a)) are.0.action) (family_held f ks ps are.1)
  where
    by : (b c : Bool) → b ≡ c → AreHeldOps (held_ops f ks) (family_ops f ps)
        → AreHeldOps (map held_op (cond b (k ∷ filter (is_of f) ks) (filter (is_of f) ks)))
        (cond c (p ∷ family_ops f ps) (family_ops f ps))
    by true true is rest = ((are.0.object, are.0.op), rest)
    by false false is rest = rest
    by true false is rest = cc
    by false true is rest = cc

abbrev pub at : HeldOp × Placed → ℕ × ℕ
at b = (b.0.index, b.1.index)

pub family_at : (f : Name) (ks : List LiveOp) (ps : List Placed) → AreLiveOps ks ps → (x : ℕ × ℕ)
    → In x (map at (zip (held_ops f ks) (family_ops f ps))) → In x (live_at ks ps)
family_at f [] [] are x h = h
family_at f [] (p ∷ ps) are x h = absurd are
family_at f (k ∷ ks) [] are x h = absurd are
family_at f (k ∷ ks) (p ∷ ps) are x h =
    by (is_of f k) (name_eq f (family p.operation.action))
    (ap (λ (a : Name). name_eq f (family a)) are.0.action) (family_at f ks ps are.1 x) h
  where
    by : (b c : Bool) → b ≡ c
        → (In x (map at (zip (held_ops f ks) (family_ops f ps))) → In x (live_at ks ps))
        → In x
        (map at
        (zip (map held_op (cond b (k ∷ filter (is_of f) ks) (filter (is_of f) ks)))
        (cond c (p ∷ family_ops f ps) (family_ops f ps))))
        → (x ≡ (k.index, p.index)) ⊎ In x (live_at ks ps)
    by true true is rest (inl e) = inl e
    by true true is rest (inr m) = inr (rest m)
    by false false is rest m = inr (rest m)
    by true false is rest m = cc
    by false true is rest m = cc

-- one more family in the log
pub beside_more : (hs : List Held) (gs : List (Name × List Placed)) (h : Held)
    (g : Name × List Placed) → AreHeld hs gs
    → beside (hs ++ h ∷ []) (gs ++ g ∷ []) ≡ beside hs gs ++ (zip h.ops g.1 ++ [])
beside_more [] [] h g held = refl
beside_more [] (e ∷ gs) h g held = absurd held
beside_more (i ∷ hs) [] h g held = absurd held
beside_more (i ∷ hs) (e ∷ gs) h g held =
    ap (λ (bs : List (HeldOp × Placed)). zip i.ops e.1 ++ bs) (beside_more hs gs h g held.2)
    ∙ sym (append_assoc (zip i.ops e.1) (beside hs gs) (zip h.ops g.1 ++ []))
