-- The operations that stand by their counts are those that no crash has removed.
use Rattle.std.proofs.Common.{◌≡◌, ℕ, ◌+◌, ◌≤◌, eqb, leb, Bool, true, false, not, ◌&&◌, ◌||◌, if◌then◌else◌, cond, List, [], ◌∷◌, ◌++◌, map, filter, Option, Some, None, is_some, refl, sym, ap, ◌∙◌, arith}
use Rattle.std.specs.Option.{option_or}
use Rattle.std.specs.List.{list_all}
use Rattle.std.proofs.lemmas.List.{map-append}
use Rattle.std.proofs.lemmas.List.Elements.{filter-append}
use Rattle.std.proofs.lemmas.Bool.{and_parts, and_from, or_left, true≢false, eqb-true, eq-eqb, ne_eqb, leb-true, le-leb, lt-leb}
use Rattle.std.proofs.lemmas.Option.{same_Some}
use Rattle.cam_names.specs.declared.name.Name.{Name}
use Rattle.cam_names.specs.Names.{name_eq, family}
use Rattle.cam_type.specs.declared.ObjectDecl.{ObjectDecl}
use Rattle.cam_event.specs.declared.Deed.{Deed}
use Rattle.cam_event.specs.declared.Deed.TheVariants.{Perform, Secure, Crash}
use Rattle.cam_event.specs.declared.Operation.{Operation}
use Rattle.cam_event.specs.History.{count, secured_at, Addressed, call_of}
use Rattle.cam_event.specs.Live.{site_of, of_call, is_kept, surviving, is_dropped, live}
use Rattle.cam_event.proofs.Snoc.{filter_filter}
use Rattle.cam_live.specs.declared.performed.Performed.{Performed}
use Rattle.cam_live.specs.Tables.{first_secured}
use Rattle.cam_live.specs.Counted.{counted, performed, is_secured_by, stands, live_of}

-- tests of all of a list
all_append : {X : Type 0} (test : X → Bool) (xs ys : List X) → list_all test xs ≡ true → list_all test ys ≡ true → list_all test (xs ++ ys) ≡ true
all_append test [] ys h g = g
all_append test (x ∷ xs) ys h g = let parts = and_parts (test x) (list_all test xs) h in and_from (test x) (list_all test (xs ++ ys)) parts.0 (all_append test xs ys parts.1 g)

all_weaker : {X : Type 0} (p q : X → Bool) (xs : List X) → ((x : X) → p x ≡ true → q x ≡ true) → list_all p xs ≡ true → list_all q xs ≡ true
all_weaker p q [] more h = refl
all_weaker p q (x ∷ xs) more h = let parts = and_parts (p x) (list_all p xs) h in and_from (q x) (list_all q xs) (more x parts.0) (all_weaker p q xs more parts.1)

-- tests that give the same of each element that passes a third
filter_alike : {X : Type 0} (t p q : X → Bool) (xs : List X) → list_all t xs ≡ true → ((x : X) → t x ≡ true → p x ≡ q x) → filter p xs ≡ filter q xs
filter_alike t p q [] h same = refl
filter_alike {X} t p q (x ∷ xs) h same =
    let parts = and_parts (t x) (list_all t xs) h in
    λ i. cond (same x parts.0 i) (x ∷ filter_alike t p q xs parts.1 same i) (filter_alike t p q xs parts.1 same i)

-- to choose among images is to choose among what they are images of
filter_map : {X Y : Type 0} (test : Y → Bool) (f : X → Y) (xs : List X) → filter test (map f xs) ≡ map f (filter (λ x. test (f x)) xs)
filter_map test f [] = refl
filter_map {X} {Y} test f (x ∷ xs) =
    elim (test (f x)) as (λ b. cond b (f x ∷ filter test (map f xs)) (filter test (map f xs)) ≡ map f (cond b (x ∷ filter (λ y. test (f y)) xs) (filter (λ y. test (f y)) xs))) [
      | true ↦ ap (λ (ys : List Y). f x ∷ ys) (filter_map test f xs)
      | false ↦ filter_map test f xs
    ]

-- the count of each operation is at most that of its site
abbrev within : List ObjectDecl → List Deed → Performed → Bool
within objects L p = leb p.count (count L (site_of objects p.operation.object))

crash_grows : (L : List Deed) (s t : ℕ) → count L t ≤ count (Crash s ∷ L) t
crash_grows L s t = elim (eqb t s) as (λ b. count L t ≤ (if b then count L t + 1 else count L t)) [ true ↦ omega arith | false ↦ omega arith ]

all_within : (objects : List ObjectDecl) (L : List Deed) → list_all (within objects L) (performed objects L) ≡ true
all_within objects [] = refl
all_within objects (Perform a n answer ∷ L) =
    all_append (within objects L) (performed objects L) (map (counted objects L) (of_call a n answer (call_of L a n))) (all_within objects L) (new (call_of L a n))
  where
    new : (o : Option Addressed) → list_all (within objects L) (map (counted objects L) (of_call a n answer o)) ≡ true
    new None = refl
    new (Some call) = and_from (leb (count L (site_of objects call.object)) (count L (site_of objects call.object))) true (le-leb (count L (site_of objects call.object)) (count L (site_of objects call.object)) (omega arith)) refl
all_within objects (Crash s ∷ L) = all_weaker (within objects L) (within objects (Crash s ∷ L)) (performed objects L) more (all_within objects L)
  where
    more : (p : Performed) → within objects L p ≡ true → within objects (Crash s ∷ L) p ≡ true
    more p h =
        let site = site_of objects p.operation.object in
        le-leb p.count (count (Crash s ∷ L) site) (omega (arith, leb-true p.count (count L site) h, crash_grows L s site))
all_within objects (_ ∷ L) = all_within objects L

-- and so is the count at which a family was first secured
first_within : (L : List Deed) (s : ℕ) (f : Name) (k : ℕ) → first_secured L s f ≡ Some k → k ≤ count L s
first_within [] s f k h = cc
first_within (Secure g t c ∷ L) s f k h = by (first_secured L s f) refl h (first_within L s f k)
  where
    now : (b : Bool) → (if b then Some (count L s) else None) ≡ Some k → k ≤ count L s
    now true e = omega (arith, same_Some (count L s) k e)
    now false e = cc

    by : (o : Option ℕ) → first_secured L s f ≡ o → option_or o (if eqb s t && name_eq f g then Some (count L s) else None) ≡ Some k → (first_secured L s f ≡ Some k → k ≤ count L s) → k ≤ count L s
    by None e now_one before = now (eqb s t && name_eq f g) now_one
    by (Some j) e h before = before (e ∙ h)
first_within (Crash t ∷ L) s f k h = omega (arith, first_within L s f k h, crash_grows L t s)
first_within (_ ∷ L) s f k h = first_within L s f k h

-- a family is secured where there is such a count
pub secured_first : (L : List Deed) (s : ℕ) (f : Name) → secured_at L f s ≡ is_some (first_secured L s f)
secured_first [] s f = refl
secured_first (Secure g t c ∷ L) s f = ap (λ b. (name_eq f g && eqb s t) || b) (secured_first L s f) ∙ by (first_secured L s f) (eqb s t) (name_eq f g)
  where
    by : (o : Option ℕ) (x y : Bool) → ((y && x) || is_some o) ≡ is_some (option_or o (if x && y then Some (count L s) else None))
    by (Some k) true true = refl
    by (Some k) true false = refl
    by (Some k) false true = refl
    by (Some k) false false = refl
    by None true true = refl
    by None true false = refl
    by None false true = refl
    by None false false = refl
secured_first (_ ∷ L) s f = secured_first L s f

-- a Secure changes for no operation whether it stands
after_secure : (objects : List ObjectDecl) (L : List Deed) (g : Name) (t c : ℕ) (p : Performed) → within objects L p ≡ true → stands objects L p ≡ stands objects (Secure g t c ∷ L) p
after_secure objects L g t c p h = by (first_secured L site (family p.operation.action)) (eqb site t && name_eq (family p.operation.action) g)
  where
    site : ℕ
    site = site_of objects p.operation.object

    late : (b : Bool) → eqb p.count (count L site) ≡ b → (b || false) ≡ (b || leb (count L site) p.count)
    late true e = refl
    late false e = sym (lt-leb (count L site) p.count (omega (arith, leb-true p.count (count L site) h, differ e)))
      where
        differ : eqb p.count (count L site) ≡ false → p.count ≡ count L site → ⊥
        differ n same = true≢false (sym (eq-eqb p.count (count L site) same) ∙ n)

    by : (o : Option ℕ) (b : Bool) → (eqb p.count (count L site) || is_secured_by o p.count) ≡ (eqb p.count (count L site) || is_secured_by (option_or o (if b then Some (count L site) else None)) p.count)
    by (Some k) b = refl
    by None false = refl
    by None true = late (eqb p.count (count L site)) refl

-- a crash removes those of its site whose family was not secured there at their count
after_crash : (objects : List ObjectDecl) (L : List Deed) (s : ℕ) (p : Performed) → within objects L p ≡ true → (stands objects L p && is_kept objects L s p.operation) ≡ stands objects (Crash s ∷ L) p
after_crash objects L s p h = at (eqb site s) refl
  where
    site : ℕ
    site = site_of objects p.operation.object

    f : Name
    f = family p.operation.action

    both : (b : Bool) → (b && true) ≡ b
    both true = refl
    both false = refl

    kept : (o : Option ℕ) → ((k : ℕ) → o ≡ Some k → k ≤ count L site) → ((eqb p.count (count L site) || is_secured_by o p.count) && is_some o) ≡ is_secured_by o p.count
    kept None low = none (eqb p.count (count L site) || false)
      where
        none : (b : Bool) → (b && false) ≡ false
        none true = refl
        none false = refl
    kept (Some k) low = both (eqb p.count (count L site) || leb k p.count) ∙ least (eqb p.count (count L site)) refl
      where
        least : (b : Bool) → eqb p.count (count L site) ≡ b → (b || leb k p.count) ≡ leb k p.count
        least true e = sym (le-leb k p.count (omega (arith, low k refl, eqb-true p.count (count L site) e)))
        least false e = refl

    gone : eqb p.count (count L site + 1) ≡ false
    gone = ne_eqb p.count (count L site + 1) (λ (e : p.count ≡ count L site + 1). omega (arith, e, leb-true p.count (count L site) h))

    at : (b : Bool) → eqb site s ≡ b → (stands objects L p && (not b || secured_at L f s)) ≡ (eqb p.count (if b then count L site + 1 else count L site) || is_secured_by (first_secured L site f) p.count)
    at false e = both (stands objects L p)
    at true e =
        ap (λ x. stands objects L p && x) (ap (secured_at L f) (sym (eqb-true site s e)) ∙ secured_first L site f)
        ∙ kept (first_secured L site f) (first_within L site f)
        ∙ ap (λ b. b || is_secured_by (first_secured L site f) p.count) (sym gone)

-- the operations that stand are those that no crash has removed
surviving_stand : (objects : List ObjectDecl) (L : List Deed) → surviving objects L ≡ map (λ p. p.operation) (filter (stands objects L) (performed objects L))
surviving_stand objects [] = refl
surviving_stand objects (Perform a n answer ∷ L) =
    (λ i. surviving_stand objects L i ++ sym (new (call_of L a n)) i)
    ∙ sym (map-append (λ p. p.operation) (filter (stands objects L) (performed objects L)) (filter (stands objects L) (map (counted objects L) (of_call a n answer (call_of L a n)))))
    ∙ ap (map (λ p. p.operation)) (sym (filter-append (stands objects L) (performed objects L) (map (counted objects L) (of_call a n answer (call_of L a n)))))
  where
    new : (o : Option Addressed) → map (λ p. p.operation) (filter (stands objects L) (map (counted objects L) (of_call a n answer o))) ≡ of_call a n answer o
    new None = refl
    new (Some call) =
        let operation : Operation = record { action = a; number = n; object = call.object; op = call.op; answer = answer } in
        let site = site_of objects call.object in
        ap (λ b. map (λ p. p.operation) (cond b (counted objects L operation ∷ []) []))
        (or_left (eqb (count L site) (count L site)) (is_secured_by (first_secured L site (family a)) (count L site)) (eq-eqb (count L site) (count L site) refl))
surviving_stand objects (Crash s ∷ L) =
    ap (filter (is_kept objects L s)) (surviving_stand objects L)
    ∙ filter_map (is_kept objects L s) (λ p. p.operation) (filter (stands objects L) (performed objects L))
    ∙ ap (map (λ p. p.operation)) (filter_filter (λ p. is_kept objects L s p.operation) (stands objects L) (performed objects L)
    ∙ filter_alike (within objects L) (λ p. stands objects L p && is_kept objects L s p.operation) (stands objects (Crash s ∷ L)) (performed objects L) (all_within objects L) (after_crash objects L s))
surviving_stand objects (Secure g t c ∷ L) =
    surviving_stand objects L
    ∙ ap (map (λ p. p.operation)) (filter_alike (within objects L) (stands objects L) (stands objects (Secure g t c ∷ L)) (performed objects L) (all_within objects L) (after_secure objects L g t c))
surviving_stand objects (_ ∷ L) = surviving_stand objects L

-- The live ones of the performed operations are the live operations.
pub live_is : (objects : List ObjectDecl) (L : List Deed) → live_of objects L (performed objects L) ≡ live objects L
live_is objects L =
    sym (ap (filter (λ o. not (is_dropped objects L o))) (surviving_stand objects L)
    ∙ filter_map (λ o. not (is_dropped objects L o)) (λ p. p.operation) (filter (stands objects L) (performed objects L))
    ∙ ap (map (λ p. p.operation)) (filter_filter (λ p. not (is_dropped objects L p.operation)) (stands objects L) (performed objects L)))
