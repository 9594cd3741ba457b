-- Operations in the order of their places: in which order their groups come does not matter, where no two have one place.
use Rattle.std.proofs.Common.{◌≡◌, ℕ, eqb, nat_lt, true, false, List, [], ◌∷◌, ◌++◌, flat_map, reverse, sym, ap, subst, ◌∙◌, refl, arith, inl, inr}
use Rattle.std.proofs.lemmas.Bool.{cases_Bool}
use Rattle.std.proofs.lemmas.List.{reverse-append}
use Rattle.cam_event.specs.HeldSites.{Placed, put_placed, in_order}

-- a place that is none of these
abbrev pub IsAway : Placed → List Placed → Type 0
IsAway p [] = Unit {0}
IsAway p (q ∷ qs) = (eqb p.index q.index ≡ false) × IsAway p qs

abbrev pub AreAway : List Placed → List Placed → Type 0
AreAway [] qs = Unit {0}
AreAway (p ∷ ps) qs = IsAway p qs × AreAway ps qs

-- put in order, before what stands in order
abbrev put_all : List Placed → List Placed → List Placed
put_all [] rest = rest
put_all (p ∷ ps) rest = put_placed p (put_all ps rest)

not_back : (i j : ℕ) → nat_lt i j ≡ true → nat_lt j i ≡ false
not_back i j h = grind arith

or_back : (i j : ℕ) → eqb i j ≡ false → nat_lt i j ≡ false → nat_lt j i ≡ true
or_back i j h k = grind arith

between : (i j k : ℕ) → nat_lt i k ≡ true → nat_lt j k ≡ false → nat_lt j i ≡ false
between i j k h l = grind arith

put_swap : (p q : Placed) (rs : List Placed) → eqb p.index q.index ≡ false
    → put_placed p (put_placed q rs) ≡ put_placed q (put_placed p rs)
put_swap p q [] apart =
    elim (cases_Bool (nat_lt p.index q.index)) [
      | inl less ↦ simp (less, not_back p.index q.index less) refl
      | inr no_less ↦ simp (no_less, or_back p.index q.index apart no_less) refl
    ]
put_swap p q (r ∷ rs) apart =
    elim (cases_Bool (nat_lt p.index r.index)) [
      | inl p_first ↦ elim (cases_Bool (nat_lt q.index r.index)) [
        | inl q_first ↦ elim (cases_Bool (nat_lt p.index q.index)) [
          | inl less ↦ simp (p_first, q_first, less, not_back p.index q.index less) refl
          | inr no_less ↦ simp (p_first, q_first, no_less, or_back p.index q.index apart no_less) refl
        ]
        | inr q_later ↦ simp (p_first, q_later, between p.index q.index r.index p_first q_later) refl
      ]
      | inr p_later ↦ elim (cases_Bool (nat_lt q.index r.index)) [
        | inl q_first ↦ simp (p_later, q_first, between q.index p.index r.index q_first p_later) refl
        | inr q_later ↦ simp (p_later, q_later) (ap (λ (ps : List Placed). r ∷ ps) (put_swap p q rs apart))
      ]
    ]

put_one : (p : Placed) (qs rest : List Placed) → IsAway p qs
    → put_placed p (put_all qs rest) ≡ put_all qs (put_placed p rest)
put_one p [] rest away = refl
put_one p (q ∷ qs) rest away = put_swap p q (put_all qs rest) away.0 ∙ ap (put_placed q) (put_one p qs rest away.1)

put_both : (ps qs rest : List Placed) → AreAway ps qs
    → put_all ps (put_all qs rest) ≡ put_all qs (put_all ps rest)
put_both [] qs rest away = refl
put_both (p ∷ ps) qs rest away = ap (put_placed p) (put_both ps qs rest away.1) ∙ put_one p qs (put_all ps rest) away.0

put_append : (ps qs rest : List Placed) → put_all (ps ++ qs) rest ≡ put_all ps (put_all qs rest)
put_append [] qs rest = refl
put_append (p ∷ ps) qs rest = ap (put_placed p) (put_append ps qs rest)

in_order_all : (ps : List Placed) → in_order ps ≡ put_all ps []
in_order_all [] = refl
in_order_all (p ∷ ps) = ap (put_placed p) (in_order_all ps)

-- groups of which no two share a place
abbrev pub IsApart : {X : Type 0} → (X → List Placed) → X → List X → Type 0
IsApart f g [] = Unit {0}
IsApart f g (h ∷ gs) = AreAway (f g) (f h) × IsApart f g gs

abbrev pub AreApart : {X : Type 0} → (X → List Placed) → List X → Type 0
AreApart f [] = Unit {0}
AreApart f (g ∷ gs) = IsApart f g gs × AreApart f gs

apart_last : {X : Type 0} (f : X → List Placed) (g : X) (gs : List X) (h : X) → IsApart f g gs
    → AreAway (f g) (f h) → IsApart f g (gs ++ h ∷ [])
apart_last f g [] h apart away = (away, tt)
apart_last f g (k ∷ gs) h apart away = (apart.0, apart_last f g gs h apart.1 away)

apart_reverse : {X : Type 0} (f : X → List Placed) (g : X) (gs : List X) → IsApart f g gs
    → IsApart f g (reverse gs)
apart_reverse f g [] apart = tt
apart_reverse {X} f g (h ∷ gs) apart =
    subst (λ (ks : List X). IsApart f g ks) (sym (reverse-append (h ∷ []) gs)) (apart_last f g (reverse gs) h (apart_reverse f g gs apart.1) apart.0)

-- one group put in before the others or behind them
put_group : {X : Type 0} (f : X → List Placed) (g : X) (gs : List X) (rest : List Placed) → IsApart f g gs
    → put_all (f g) (put_all (flat_map f gs) rest) ≡ put_all (flat_map f gs) (put_all (f g) rest)
put_group f g [] rest apart = refl
put_group f g (h ∷ gs) rest apart =
    ap (put_all (f g)) (put_append (f h) (flat_map f gs) rest)
    ∙ put_both (f g) (f h) (put_all (flat_map f gs) rest) apart.0
    ∙ ap (put_all (f h)) (put_group f g gs rest apart.1)
    ∙ sym (put_append (f h) (flat_map f gs) (put_all (f g) rest))

flat_last : {X : Type 0} (f : X → List Placed) (gs : List X) (g : X) (rest : List Placed)
    → put_all (flat_map f (gs ++ g ∷ [])) rest ≡ put_all (flat_map f gs) (put_all (f g) rest)
flat_last f [] g rest = put_append (f g) [] rest
flat_last f (h ∷ gs) g rest =
    put_append (f h) (flat_map f (gs ++ g ∷ [])) rest ∙ ap (put_all (f h)) (flat_last f gs g rest)
    ∙ sym (put_append (f h) (flat_map f gs) (put_all (f g) rest))

put_reverse : {X : Type 0} (f : X → List Placed) (gs : List X) → AreApart f gs
    → put_all (flat_map f (reverse gs)) [] ≡ put_all (flat_map f gs) []
put_reverse f [] apart = refl
put_reverse {X} f (g ∷ gs) apart =
    ap (λ (ks : List X). put_all (flat_map f ks) []) (reverse-append (g ∷ []) gs)
    ∙ flat_last f (reverse gs) g []
    ∙ sym (put_group f g (reverse gs) [] (apart_reverse f g gs apart.0))
    ∙ ap (put_all (f g)) (put_reverse f gs apart.1)
    ∙ sym (put_append (f g) (flat_map f gs) [])

-- Groups put in order are the same backwards.
pub order_backwards : {X : Type 0} (f : X → List Placed) (gs : List X) → AreApart f gs
    → in_order (flat_map f (reverse gs)) ≡ in_order (flat_map f gs)
order_backwards f gs apart = in_order_all (flat_map f (reverse gs)) ∙ put_reverse f gs apart ∙ sym (in_order_all (flat_map f gs))
