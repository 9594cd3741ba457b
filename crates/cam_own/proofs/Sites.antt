-- The live operations of a site, from those of its objects.
use Rattle.std.proofs.Common.{◌≡◌, ◌≤◌, ◌<◌, ◌⊎◌, inl, inr, ℕ, eqb, Bool, true, false, ◌&&◌, leb, ◌||◌, if◌then◌else◌, List, [], ◌∷◌, length, filter, Option, refl, sym, ap, ◌∙◌, subst, arith}
use Rattle.std.specs.List.{list_any}
use Rattle.std.specs.Option.{option_map_or}
use Rattle.std.specs.HashMap.{HashMap}
use Rattle.std.proofs.lemmas.Bool.{eq-eqb, eqb-true, or_left, or_right}
use Rattle.std.proofs.lemmas.Bool.Decides.{eqb_tells, leb_tells}
use Rattle.std.proofs.lemmas.Option.{slice_get_past}
use Rattle.cam_type.specs.declared.ObjectDecl.{ObjectDecl}
use Rattle.cam_event.specs.declared.Operation.{Operation}
use Rattle.cam_event.specs.declared.Deed.{Deed}
use Rattle.cam_event.specs.Live.{live, live_at, live_on, site_of}
use Rattle.cam_event.proofs.Snoc.{filter_filter, filter_same}
use Rattle.cam_own.specs.Live.{KeepsLive, operations_in}

-- an object of a node is declared
pub is_declared : (objects : List ObjectDecl) (x : ℕ) → 1 ≤ site_of objects x → x < length objects
is_declared objects x some = by (leb_tells (length objects) x)
  where
    past : length objects ≤ x → site_of objects x ≡ 0
    past over =
        ap (λ (o : Option ObjectDecl). option_map_or (λ d. d.node) o 0)
        (slice_get_past objects x over)

    by : ((leb (length objects) x ≡ true) × (length objects ≤ x))
        ⊎ ((leb (length objects) x ≡ false) × (x < length objects)) → x < length objects
    by (inl over) = omega (arith, some, past over.1)
    by (inr within) = within.1

-- those on an object of the site are those on the object,
pub on_here :
    (objects : List ObjectDecl) (L : List Deed) (s x : ℕ) → site_of objects x ≡ s
    → live_on objects L x ≡ filter (λ o. eqb o.object x) (live_at objects L s)
on_here objects L s x at =
    sym (filter_filter on here (live objects L)
    ∙ filter_same (λ o. here o && on o) on (live objects L) (λ o. by o (on o) refl))
  where
    on : Operation → Bool
    on o = eqb o.object x

    here : Operation → Bool
    here o = eqb (site_of objects o.object) s

    none : (b : Bool) → (b && false) ≡ false
    none true = refl
    none false = refl

    by : (o : Operation) (b : Bool) → on o ≡ b → (here o && b) ≡ b
    by o false e = none (here o)
    by o true e =
        ap (λ (b : Bool). b && true) (eq-eqb (site_of objects o.object) s
        (ap (site_of objects) (eqb-true o.object x e) ∙ at))

-- and on another object there are none.
pub on_other :
    (objects : List ObjectDecl) (L : List Deed) (s x : ℕ) → (site_of objects x ≡ s → ⊥)
    → [] ≡ filter (λ o. eqb o.object x) (live_at objects L s)
on_other objects L s x apart = none (live objects L)
  where
    none : (os : List Operation)
        → [] ≡ filter (λ o. eqb o.object x)
        (filter (λ o. eqb (site_of objects o.object) s) os)
    none [] = refl
    none (o ∷ os) = by (eqb_tells (site_of objects o.object) s) (none os)
      where
        on : Operation → Bool
        on p = eqb p.object x

        rest : List Operation
        rest = filter (λ p. eqb (site_of objects p.object) s) os

        off : site_of objects o.object ≡ s → on o ≡ false
        off at = elim (eqb_tells o.object x) [
          | inl y ↦ absurd (apart (ap (site_of objects) (sym y.1) ∙ at))
          | inr n ↦ n.0
        ]

        by : ((eqb (site_of objects o.object) s ≡ true) × (site_of objects o.object ≡ s))
            ⊎ ((eqb (site_of objects o.object) s ≡ false) × (site_of objects o.object ≡ s → ⊥))
            → [] ≡ filter on rest
            → [] ≡ filter on (filter (λ p. eqb (site_of objects p.object) s) (o ∷ os))
        by (inl y) done =
            done
            ∙ sym (ap (λ (b : Bool). filter on (if b then o ∷ rest else rest)) y.0
            ∙ ap (λ (b : Bool). if b then o ∷ filter on rest else filter on rest) (off y.1))
        by (inr n) done =
            done ∙ sym (ap (λ (b : Bool). filter on (if b then o ∷ rest else rest)) n.0)

-- What is on an object of the site is at the site,
any_here :
    (objects : List ObjectDecl) (s x : ℕ) (p : Operation → Bool) (os : List Operation)
    → site_of objects x ≡ s → list_any p (filter (λ o. eqb o.object x) os) ≡ true
    → list_any p (filter (λ o. eqb (site_of objects o.object) s) os) ≡ true
any_here objects s x p [] at there = there
any_here objects s x p (o ∷ os) at there = by (eqb o.object x) refl (any_here objects s x p os at)
  where
    on : List Operation
    on = filter (λ q. eqb q.object x) os

    here : List Operation
    here = filter (λ q. eqb (site_of objects q.object) s) os

    Here : Bool → Type 0
    Here b = list_any p (if b then o ∷ here else here) ≡ true

    more : (b : Bool) → list_any p here ≡ true → Here b
    more true h = or_right (p o) (list_any p here) h
    more false h = h

    first : (b : Bool) → p o ≡ b → (b || list_any p on) ≡ true
        → (list_any p on ≡ true → list_any p here ≡ true)
        → (p o || list_any p here) ≡ true
    first true is h rest = or_left (p o) (list_any p here) is
    first false is h rest = or_right (p o) (list_any p here) (rest h)

    by : (b : Bool) → eqb o.object x ≡ b → (list_any p on ≡ true → list_any p here ≡ true)
        → Here (eqb (site_of objects o.object) s)
    by true same rest =
        let has : (p o || list_any p on) ≡ true =
        sym (ap (λ (b : Bool). list_any p (if b then o ∷ on else on)) same) ∙ there in
        subst Here (sym (eq-eqb (site_of objects o.object) s
        (ap (site_of objects) (eqb-true o.object x same) ∙ at))) (first (p o) refl has rest)
    by false other rest =
        let has : list_any p on ≡ true =
        sym (ap (λ (b : Bool). list_any p (if b then o ∷ on else on)) other) ∙ there in
        more (eqb (site_of objects o.object) s) (rest has)

-- and if nothing passes on an object of the site, nothing does at the site.
none_here :
    (objects : List ObjectDecl) (s : ℕ) (p : Operation → Bool) (os : List Operation)
    → ((x : ℕ) → site_of objects x ≡ s → list_any p (filter (λ o. eqb o.object x) os) ≡ false)
    → list_any p (filter (λ o. eqb (site_of objects o.object) s) os) ≡ false
none_here objects s p [] all = refl
none_here objects s p (o ∷ os) all =
    by (eqb_tells (site_of objects o.object) s) (none_here objects s p os fewer)
  where
    on : ℕ → List Operation
    on x = filter (λ q. eqb q.object x) os

    here : List Operation
    here = filter (λ q. eqb (site_of objects q.object) s) os

    later : (b : Bool) (x : ℕ) → list_any p (if b then o ∷ on x else on x) ≡ false
        → list_any p (on x) ≡ false
    later true x h = right (p o) (list_any p (on x)) h
      where
        right : (c d : Bool) → (c || d) ≡ false → d ≡ false
        right false d h = h
        right true d h = cc
    later false x h = h

    fewer : (x : ℕ) → site_of objects x ≡ s → list_any p (on x) ≡ false
    fewer x at = later (eqb o.object x) x (all x at)

    first : site_of objects o.object ≡ s → p o ≡ false
    first at =
        left (p o) (list_any p (on o.object))
        (sym (ap (λ (b : Bool). list_any p (if b then o ∷ on o.object else on o.object))
        (eq-eqb o.object o.object refl)) ∙ all o.object at)
      where
        left : (c d : Bool) → (c || d) ≡ false → c ≡ false
        left false d h = refl
        left true d h = cc

    by : ((eqb (site_of objects o.object) s ≡ true) × (site_of objects o.object ≡ s))
        ⊎ ((eqb (site_of objects o.object) s ≡ false) × (site_of objects o.object ≡ s → ⊥))
        → list_any p here ≡ false
        → list_any p (if eqb (site_of objects o.object) s then o ∷ here else here) ≡ false
    by (inl y) rest =
        ap (λ (b : Bool). list_any p (if b then o ∷ here else here)) y.0
        ∙ ap (λ (b : Bool). b || list_any p here) (first y.1) ∙ rest
    by (inr n) rest = ap (λ (b : Bool). list_any p (if b then o ∷ here else here)) n.0 ∙ rest

-- So of what a table has of the objects.
pub kept_any :
    {S : Type 0} (objects : List ObjectDecl) (L : List Deed) (s x : ℕ) (p : Operation → Bool)
    (table : HashMap ℕ (List Operation) S) → 1 ≤ s → KeepsLive objects L table
    → site_of objects x ≡ s → list_any p (operations_in table x) ≡ true
    → list_any p (live_at objects L s) ≡ true
kept_any objects L s x p table some keeps at there =
    any_here objects s x p (live objects L) at
    (ap (list_any p) (sym (keeps x (omega (arith, some, at)))) ∙ there)

pub kept_none :
    {S : Type 0} (objects : List ObjectDecl) (L : List Deed) (s : ℕ) (p : Operation → Bool)
    (table : HashMap ℕ (List Operation) S) → 1 ≤ s → KeepsLive objects L table
    → ((x : ℕ) → x < length objects → site_of objects x ≡ s
    → list_any p (operations_in table x) ≡ false)
    → list_any p (live_at objects L s) ≡ false
kept_none objects L s p table some keeps all =
    none_here objects s p (live objects L) (λ x at.
    let here : 1 ≤ site_of objects x = omega (arith, some, at) in
    ap (list_any p) (sym (keeps x here)) ∙ all x (is_declared objects x here) at)
