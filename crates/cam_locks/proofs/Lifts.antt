-- Laws of lifts: a lift is an ancestor that is not committed, and where there is none all are committed.
use Rattle.std.proofs.Common.{◌≡◌, ◌+◌, ◌≤◌, Bool, true, false, not, ◌||◌, List, [], ◌∷◌, ◌++◌, length, map, reverse, Option, Some, None, refl, sym, ap, subst, ◌∙◌, arith}
use Rattle.std.proofs.Math.Logic.{inl, inr}
use Rattle.std.specs.Prelude.{find}
use Rattle.std.specs.List.{list_any}
use Rattle.std.specs.Option.{option_or}
use Rattle.std.proofs.lemmas.List.{map-append, reverse-append, append_assoc}
use Rattle.std.proofs.lemmas.List.Folds.{find-append}
use Rattle.cam_names.specs.Part.{PartFields}
use Rattle.cam_names.specs.Names.{name_eq, is_ancestor, is_prefix, ancestors, parent, before_last}
use Rattle.cam_names.proofs.Names.{name_eq_refl, name_eq_same, is_prefix_append, is_prefix_split, ancestors_any}
use Rattle.cam_know.proofs.Climbs.{lift_here}
use Rattle.cam_locks.specs.Members.{In}
use Rattle.cam_locks.specs.Names.{has_name}
use Rattle.cam_locks.specs.Moss.{lift_in}
use Rattle.cam_locks.specs.Changes.{lift_eq}
use Rattle.cam_locks.proofs.Bools.{not_true, not_false}
use Rattle.cam_locks.proofs.Members.{in_left, in_right, in_either, in_last, find_none_all, found_in, any_passes}

-- a name, as the list of its parts
abbrev pub Name : Type 0
Name = List PartFields

in_any : (a : Name) (us : List Name) → list_any (name_eq a) us ≡ true → In a us
in_any a [] h = cc
in_any a (u ∷ us) h = by_test (name_eq a u) refl h (in_any a us)
  where
    by_test : (b : Bool) → name_eq a u ≡ b → (b || list_any (name_eq a) us) ≡ true → (list_any (name_eq a) us ≡ true → In a us) → In a (u ∷ us)
    by_test true is k rest = inl (name_eq_same a u is)
    by_test false is k rest = inr (rest k)

in_reverse : {X : Type 0} (x : X) (xs : List X) → In x xs → In x (reverse xs)
in_reverse x [] h = absurd h
in_reverse {X} x (y ∷ xs) h =
    subst (λ (zs : List X). In x zs) (sym (reverse-append (y ∷ []) xs))
    (elim h [ inl e ↦ in_right x (reverse xs) (y ∷ []) (inl e) | inr k ↦ in_left x (reverse xs) (y ∷ []) (in_reverse x xs k) ])

-- a member of a list backwards is a member of it
pub of_reverse : {X : Type 0} (x : X) (xs : List X) → In x (reverse xs) → In x xs
of_reverse x [] h = absurd h
of_reverse {X} x (y ∷ xs) h =
    elim (in_either x (reverse xs) (y ∷ []) (subst (λ (zs : List X). In x zs) (reverse-append (y ∷ []) xs) h)) [ inl k ↦ inr (of_reverse x xs k) | inr e ↦ inl (in_last x y e) ]

-- a lift is an ancestor that is not committed
pub lift_ancestor : (ns : List Name) (a u : Name) → lift_in ns a ≡ Some u → is_ancestor u a ≡ true
lift_ancestor ns a u h =
    let f = found_in (λ v. not (has_name ns v)) (reverse (ancestors a)) u h in
    sym (ancestors_any u a) ∙ any_passes (name_eq u) u (ancestors a) (of_reverse u (ancestors a) f.0) (name_eq_refl u)

-- a lift is not known committed
pub lift_open : (ns : List Name) (a u : Name) → lift_in ns a ≡ Some u → has_name ns u ≡ false
lift_open ns a u h = not_true (has_name ns u) (found_in (λ v. not (has_name ns v)) (reverse (ancestors a)) u h).1

-- where a lift is past the top every ancestor is committed
pub past_top : (ns : List Name) (a v : Name) → lift_in ns a ≡ None → is_ancestor v a ≡ true → has_name ns v ≡ true
past_top ns a v h is =
    not_false (has_name ns v)
    (find_none_all (λ w. not (has_name ns w)) (reverse (ancestors a)) h v (in_reverse v (ancestors a) (in_any v (ancestors a) (ancestors_any v a ∙ is))))

-- the ancestors of a name that goes on from u
map_same : (us : List Name) → map (λ u. [] ++ u) us ≡ us
map_same [] = refl
map_same (u ∷ us) = ap (λ (vs : List Name). u ∷ vs) (map_same us)

map_twice : (p : PartFields) (u : Name) (us : List Name) → map (λ v. p ∷ v) (map (λ v. u ++ v) us) ≡ map (λ v. (p ∷ u) ++ v) us
map_twice p u [] = refl
map_twice p u (v ∷ us) = ap (λ (ws : List Name). ((p ∷ u) ++ v) ∷ ws) (map_twice p u us)

ancestors_on : (u w : Name) → ancestors (u ++ w) ≡ ancestors u ++ map (λ v. u ++ v) (ancestors w)
ancestors_on [] w = sym (map_same (ancestors w))
ancestors_on (p ∷ u) w =
    ap (λ (us : List Name). (p ∷ []) ∷ map (λ v. p ∷ v) us) (ancestors_on u w)
    ∙ ap (λ (us : List Name). (p ∷ []) ∷ us) (map-append (λ v. p ∷ v) (ancestors u) (map (λ v. u ++ v) (ancestors w))
    ∙ ap (λ (us : List Name). map (λ v. p ∷ v) (ancestors u) ++ us) (map_twice p u (ancestors w)))

find_reverse : {X : Type 0} (test : X → Bool) (xs ys : List X) → find test (reverse (xs ++ ys)) ≡ option_or (find test (reverse ys)) (find test (reverse xs))
find_reverse test xs ys = ap (find test) (reverse-append xs ys) ∙ find-append test (reverse ys) (reverse xs)

-- the lift of a name that goes on from u: that of the part behind, or else that of u
abbrev pub behind : List Name → Name → Name → Option Name
behind ns u w = find (λ v. not (has_name ns v)) (reverse (map (λ v. u ++ v) (ancestors w)))

-- The lift of a name that goes on from another is found on the way to that one, or it is that one's lift.
pub lift_on : (ns : List Name) (u w : Name) → lift_in ns (u ++ w) ≡ option_or (behind ns u w) (lift_in ns u)
lift_on ns u w =
    ap (λ (us : List Name). find (λ v. not (has_name ns v)) (reverse us)) (ancestors_on u w)
    ∙ find_reverse (λ v. not (has_name ns v)) (ancestors u) (map (λ v. u ++ v) (ancestors w))

-- each name behind u goes on from u by a part or more
pub in_map : (u v : Name) (ws : List Name) → In v (map (λ w. u ++ w) ws) → (w : Name) × In w ws × (v ≡ u ++ w)
in_map u v [] h = absurd h
in_map u v (w ∷ ws) (inl e) = (w, inl refl, e)
in_map u v (w ∷ ws) (inr h) = let r = in_map u v ws h in (r.0, inr r.1, r.2)

-- A parent has one part less.
pub parent_length : (a p : Name) → Some p ≡ parent a → length p + 1 ≡ length a
parent_length [] p h = cc
parent_length (q ∷ []) p h = cc
parent_length (q ∷ r ∷ b) p h = let is : p ≡ before_last (q ∷ r ∷ b) = cc in ap (λ (u : Name). length u + 1) is ∙ shorter q (r ∷ b)
  where
    shorter : (q : PartFields) (b : Name) → length (before_last (q ∷ b)) + 1 ≡ length (q ∷ b)
    shorter q [] = refl
    shorter q (r ∷ b) = let rest : length (before_last (r ∷ b)) + 1 ≡ length (r ∷ b) = shorter r b in omega (arith, rest)

-- an ancestor has a part
pub ancestor_part : (w z : Name) → In w (ancestors z) → 1 ≤ length w
ancestor_part w [] h = absurd h
ancestor_part w (p ∷ z) (inl e) = subst (λ (v : Name). 1 ≤ length v) (sym e) (omega arith)
ancestor_part w (p ∷ z) (inr h) = let r = in_map (p ∷ []) w (ancestors z) h in subst (λ (v : Name). 1 ≤ length v) (sym r.2) (omega arith)

-- the length of a name that goes on from another
pub length_on : (u w : Name) → length (u ++ w) ≡ length u + length w
length_on [] w = omega arith
length_on (p ∷ u) w = let rest : length (u ++ w) ≡ length u + length w = length_on u w in omega arith

-- an ancestor is a prefix
pub as_prefix : (u a : Name) → is_ancestor u a ≡ true → is_prefix u a ≡ true
as_prefix [] a h = cc
as_prefix (p ∷ u) a h = h

some_parts : (u a : Name) → is_ancestor u a ≡ true → 1 ≤ length u
some_parts [] a h = cc
some_parts (p ∷ u) a h = omega arith

pub ancestor_on : (u w : Name) → 1 ≤ length u → is_ancestor u (u ++ w) ≡ true
ancestor_on [] w h = absurd (omega arith)
ancestor_on (p ∷ u) w h = is_prefix_append (p ∷ u) w

-- what goes on from an ancestor's descendant
pub ancestor_through : (u v a : Name) → is_ancestor u v ≡ true → is_ancestor v a ≡ true → is_ancestor u a ≡ true
ancestor_through u v a h k =
    let one = is_prefix_split u v (as_prefix u v h) in
    let other = is_prefix_split v a (as_prefix v a k) in
    subst (λ (x : Name). is_ancestor u x ≡ true) (sym (other.1 ∙ ap (λ (y : Name). y ++ other.0) one.1 ∙ append_assoc u one.0 other.0)) (ancestor_on u (one.0 ++ other.0) (some_parts u v h))

-- an action that is not committed holds for all below it
pub lift_below : (ns : List Name) (n a : Name) → has_name ns n ≡ false → is_ancestor n a ≡ true → (u : Name) × (lift_in ns a ≡ Some u) × (is_ancestor n u ≡ true)
lift_below ns n a open_yet is = subst (λ (x : Name). (u : Name) × (lift_in ns x ≡ Some u) × (is_ancestor n u ≡ true)) (sym split.1) (by_found (behind ns n w) refl)
  where
    split : (w : Name) × (a ≡ n ++ w)
    split = is_prefix_split n a (as_prefix n a is)

    w : Name
    w = split.0

    parts : 1 ≤ length n
    parts = some_parts n a is

    empty : n ++ [] ≡ n
    empty = nil n
      where
        nil : (x : Name) → x ++ [] ≡ x
        nil [] = refl
        nil (p ∷ x) = ap (λ (y : Name). p ∷ y) (nil x)

    here : lift_in ns n ≡ Some n
    here = sym (lift_here (has_name ns) n parts open_yet)

    by_found : (r : Option Name) → behind ns n w ≡ r → (u : Name) × (lift_in ns (n ++ w) ≡ Some u) × (is_ancestor n u ≡ true)
    by_found None none = (n, lift_on ns n w ∙ ap (λ (r : Option Name). option_or r (lift_in ns n)) none ∙ here, subst (λ (x : Name). is_ancestor n x ≡ true) empty (ancestor_on n [] parts))
    by_found (Some v) found =
        let f = found_in (λ x. not (has_name ns x)) (reverse (map (λ x. n ++ x) (ancestors w))) v found in
        let m = in_map n v (ancestors w) (of_reverse v (map (λ x. n ++ x) (ancestors w)) f.0) in
        (v, lift_on ns n w ∙ ap (λ (r : Option Name). option_or r (lift_in ns n)) found, subst (λ (x : Name). is_ancestor n x ≡ true) (sym m.2) (ancestor_on n m.0 parts))

-- lifts that are tested to be the same are the same
pub lift_eq_same : (r s : Option Name) → lift_eq r s ≡ true → r ≡ s
lift_eq_same None None h = refl
lift_eq_same None (Some u) h = cc
lift_eq_same (Some u) None h = cc
lift_eq_same (Some u) (Some v) h = ap Some (name_eq_same u v h)
