-- Operations in the order of their places: those of several families, put together in order, are those of the whole that are of one of them.
use Rattle.std.proofs.Common.{◌≡◌, cond, ◌<◌, Bool, true, false, ◌||◌, List, [], ◌∷◌, ◌++◌, filter, refl, sym, ap, ◌∙◌, arith, subst}
use Rattle.std.specs.Prelude.{nat_lt, flat_map}
use Rattle.std.specs.List.{list_any}
use Rattle.std.proofs.lemmas.Bool.{true≢false, lt-ltb, le-ltb}
use Rattle.cam_names.specs.declared.name.Name.{Name}
use Rattle.cam_names.specs.Names.{name_eq, family}
use Rattle.cam_names.proofs.Names.{name_eq_same, name_eq_sym}
use Rattle.cam_event.specs.HeldSites.{Placed, put_placed, in_order}
use Rattle.cam_names.proofs.Every.{Every, Pairs, every_filter}

-- places rise along the list
abbrev pub IsBefore : Placed → Placed → Type 0
IsBefore p q = p.index < q.index

-- each name stands once
abbrev pub Distinct : List Name → Type 0
Distinct [] = Unit {0}
Distinct (f ∷ fs) = (list_any (name_eq f) fs ≡ false) × Distinct fs

-- whether an operation is of the family, or of one of the families
abbrev pub of_family : Name → Placed → Bool
of_family f p = name_eq f (family p.operation.action)

abbrev pub of_families : List Name → Placed → Bool
of_families fs p = list_any (λ f. of_family f p) fs

-- all of these put in order among those
abbrev put_all : List Placed → List Placed → List Placed
put_all [] qs = qs
put_all (p ∷ ps) qs = put_placed p (put_all ps qs)

not_before : (p q : Placed) → IsBefore q p → nat_lt p.index q.index ≡ false
not_before p q h = le-ltb p.index q.index (omega (arith, h))

is_before : (p q : Placed) → IsBefore p q → nat_lt p.index q.index ≡ true
is_before p q h = lt-ltb p.index q.index h

order_append : (ps qs : List Placed) → in_order (ps ++ qs) ≡ put_all ps (in_order qs)
order_append [] qs = refl
order_append (p ∷ ps) qs = ap (put_placed p) (order_append ps qs)

put_first : (p : Placed) (qs : List Placed) → Every (IsBefore p) qs → put_placed p qs ≡ p ∷ qs
put_first p [] h = refl
put_first p (q ∷ qs) h = rw (is_before p q h.0) refl

put_behind : (x : Placed) (ys zs : List Placed) → Every (IsBefore x) ys → put_all ys (x ∷ zs) ≡ x ∷ put_all ys zs
put_behind x [] zs h = refl
put_behind x (y ∷ ys) zs h = ap (put_placed y) (put_behind x ys zs h.1) ∙ rw (not_before y x h.0) refl

-- two parts of a rising list that have nothing in common
merge : (p q : Placed → Bool) (xs : List Placed) → Pairs IsBefore xs → ((x : Placed) → p x ≡ true → q x ≡ true → ⊥) → put_all (filter p xs) (filter q xs) ≡ filter (λ x. p x || q x) xs
merge p q [] rising apart = refl
merge p q (x ∷ xs) rising apart = by (merge p q xs rising.1 apart) (p x) refl (q x) refl
  where
    by : put_all (filter p xs) (filter q xs) ≡ filter (λ y. p y || q y) xs → (b : Bool) → p x ≡ b → (c : Bool) → q x ≡ c → put_all (cond b (x ∷ filter p xs) (filter p xs)) (cond c (x ∷ filter q xs) (filter q xs)) ≡ cond (b || c) (x ∷ filter (λ y. p y || q y) xs) (filter (λ y. p y || q y) xs)
    by ih true e true d = absurd (apart x e d)
    by ih true e false d = ap (put_placed x) ih ∙ put_first x (filter (λ y. p y || q y) xs) (every_filter (λ y. p y || q y) (IsBefore x) xs (weaker xs rising.0))
      where
        weaker : (ys : List Placed) → Every (IsBefore x) ys → Every (λ y. (p y || q y) ≡ true → IsBefore x y) ys
        weaker [] h = tt
        weaker (y ∷ ys) h = ((λ t. h.0), weaker ys h.1)
    by ih false e true d = put_behind x (filter p xs) (filter q xs) (every_filter p (IsBefore x) xs (weaker xs rising.0)) ∙ ap (λ ys. x ∷ ys) ih
      where
        weaker : (ys : List Placed) → Every (IsBefore x) ys → Every (λ y. p y ≡ true → IsBefore x y) ys
        weaker [] h = tt
        weaker (y ∷ ys) h = ((λ t. h.0), weaker ys h.1)
    by ih false e false d = ih

none : (xs : List Placed) → [] ≡ filter (λ p. false) xs
none [] = refl
none (x ∷ xs) = none xs

-- the operations of several families, put together in order
pub grouped : (fs : List Name) (xs : List Placed) → Pairs IsBefore xs → Distinct fs → in_order (flat_map (λ f. filter (of_family f) xs) fs) ≡ filter (of_families fs) xs
grouped [] xs rising distinct = none xs
grouped (f ∷ fs) xs rising distinct =
    order_append (filter (of_family f) xs) (flat_map (λ g. filter (of_family g) xs) fs) ∙ ap (put_all (filter (of_family f) xs)) (grouped fs xs rising distinct.1)
    ∙ merge (of_family f) (of_families fs) xs rising (λ p here there. true≢false (sym (other fs (family p.operation.action) here there) ∙ distinct.0))
  where
    other : (gs : List Name) (a : Name) → name_eq f a ≡ true → list_any (λ g. name_eq g a) gs ≡ true → list_any (name_eq f) gs ≡ true
    other gs a e h = subst (λ (x : Name). list_any (name_eq x) gs ≡ true) (sym (name_eq_same f a e)) (turned gs a ∙ h)
      where
        turned : (gs : List Name) (a : Name) → list_any (name_eq a) gs ≡ list_any (λ g. name_eq g a) gs
        turned [] a = refl
        turned (g ∷ gs) a = λ i. name_eq_sym a g i || turned gs a i
