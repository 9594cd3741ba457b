-- What one more Perform adds to the operations of a family, and that they tell whether all live ones have been handed up.
use Rattle.std.proofs.Common.{◌≡◌, ℕ, ◌+◌, ◌<◌, length, drop, get_or, zero, suc, eqb, Bool, true, false, not, ◌&&◌, ◌||◌, if◌then◌else◌, cond, List, [], ◌∷◌, ◌++◌, map, filter, Option, Some, None, is_some, refl, sym, ap, ◌∙◌, arith}
use Rattle.std.specs.Prelude.{find}
use Rattle.std.specs.HashMap.{HashMap}
use Rattle.std.specs.List.{list_any, list_all}
use Rattle.std.proofs.lemmas.Bool.{and_parts, eqb-true}
use Rattle.std.proofs.lemmas.List.{map-append}
use Rattle.std.proofs.lemmas.List.Elements.{filter-append}
use Rattle.cam_names.specs.declared.name.Name.{Name}
use Rattle.cam_names.specs.Names.{name_eq, ancestors, family}
use Rattle.cam_names.proofs.Names.{name_eq_same, name_eq_sym}
use Rattle.cam_type.specs.declared.ObjectDecl.{ObjectDecl}
use Rattle.cam_type.specs.declared.Answer.{Answer}
use Rattle.cam_event.specs.declared.Operation.{Operation}
use Rattle.cam_event.specs.declared.Deed.{Deed}
use Rattle.cam_event.specs.declared.Deed.TheVariants.{Perform}
use Rattle.cam_event.specs.History.{count, informed, secured_at, Addressed, call_of}
use Rattle.cam_event.specs.Live.{site_of, of_call, lift}
use Rattle.cam_live.specs.declared.performed.Performed.{Performed}
use Rattle.cam_live.specs.Tables.{first_secured}
use Rattle.cam_live.specs.Counted.{counted, performed, is_secured_by, is_live, live_of}
use Rattle.cam_live.proofs.Counting.{secured_first, live_is}
use Rattle.cam_plain.specs.declared.marks.Place.{Place}
use Rattle.cam_plain.specs.declared.marks.Mark.{Mark}
use Rattle.cam_plain.specs.Lines.{is_lift}
use Rattle.cam_plain.specs.Tests.{handed_up}
use Rattle.cam_plain.specs.Marks.{place_eq, place_at, marks_in, mark_of, is_of, marks_of, KeepsMarks, is_clear}

-- something passes where a search finds it
pub found_some : {X : Type 0} (t : X → Bool) (xs : List X) → list_any t xs ≡ is_some (find t xs)
found_some t [] = refl
found_some {X} t (x ∷ xs) = by (t x) (found_some t xs)
  where
    by : (b : Bool) → list_any t xs ≡ is_some (find t xs) → (b || list_any t xs) ≡ is_some (if b then Some x else find t xs)
    by true rest = refl
    by false rest = rest

-- tests of all of a list, one after another
mark_at : (ms : List Mark) (i : ℕ) (m : Mark) → i < length ms → m ≡ get_or ms i m → drop i ms ≡ m ∷ drop (suc i) ms
mark_at [] i m h is = absurd (omega (arith, h))
mark_at (n ∷ ms) zero m h is = ap (λ (q : Mark). q ∷ ms) (sym is)
mark_at (n ∷ ms) (suc i) m h is = mark_at ms i m (omega (arith, h)) is

pub mark_failed : (q : Mark → Bool) (ms : List Mark) (i : ℕ) (m : Mark) → i < length ms → m ≡ get_or ms i m
    → list_all q (drop i ms) ≡ list_all q ms → q m ≡ false → false ≡ list_all q ms
mark_failed q ms i m h is so_far fails =
    sym (sym so_far ∙ ap (list_all q) (mark_at ms i m h is) ∙ ap (λ (b : Bool). b && list_all q (drop (suc i) ms)) fails)

pub mark_passed : (q : Mark → Bool) (ms : List Mark) (i : ℕ) (m : Mark) → i < length ms → m ≡ get_or ms i m
    → list_all q (drop i ms) ≡ list_all q ms → q m ≡ true → list_all q (drop (i + 1) ms) ≡ list_all q ms
mark_passed q ms i m h is so_far passes =
    let next : i + 1 ≡ suc i = omega arith in
    ap (λ (k : ℕ). list_all q (drop k ms)) next
    ∙ sym (ap (list_all q) (mark_at ms i m h is) ∙ ap (λ (b : Bool). b && list_all q (drop (suc i) ms)) passes) ∙ so_far

nothing_more : (ms : List Mark) → ms ++ [] ≡ ms
nothing_more [] = refl
nothing_more (m ∷ ms) = ap (λ ns. m ∷ ns) (nothing_more ms)

-- the mark of a Perform of a call
performed_mark : (objects : List ObjectDecl) (L : List Deed) (a : Name) (n : ℕ) (answer : Answer) (call : Addressed) (s : ℕ) (f : Name) → call_of L a n ≡ Some call
    → marks_of objects (Perform a n answer ∷ L) s f
    ≡ marks_of objects L s f ++ cond (eqb (site_of objects call.object) s && name_eq f (family a)) (record { action = a; count = count L (site_of objects call.object) } ∷ []) []
performed_mark objects L a n answer call s f called =
    ap (λ c. map mark_of (filter (is_of objects s f) (performed objects L ++ map (counted objects L) (of_call a n answer c)))) called
    ∙ ap (map mark_of) (filter-append (is_of objects s f) (performed objects L) (new ∷ []))
    ∙ map-append mark_of (filter (is_of objects s f) (performed objects L)) (filter (is_of objects s f) (new ∷ []))
    ∙ ap (λ ms. marks_of objects L s f ++ ms) (by (is_of objects s f new))
  where
    new : Performed
    new = counted objects L (record { action = a; number = n; object = call.object; op = call.op; answer = answer })

    by : (b : Bool) → map mark_of (cond b (new ∷ []) []) ≡ cond b (mark_of new ∷ []) []
    by true = refl
    by false = refl

pub mark_put : {S : Type 0} (objects : List ObjectDecl) (L : List Deed) (a : Name) (n : ℕ) (answer : Answer) (call : Addressed) (place : Place) (mark : Mark) (old new : HashMap Place (List Mark) S)
    → call_of L a n ≡ Some call → place ≡ place_at (site_of objects call.object) (family a) → mark ≡ record { action = a; count = count L (site_of objects call.object) }
    → ((q : Place) → marks_in new q ≡ (if place_eq place q then marks_in old place ++ mark ∷ [] else marks_in old q))
    → KeepsMarks objects L old → KeepsMarks objects (Perform a n answer ∷ L) new
mark_put objects L a n answer call place mark old new called at is put before s f =
    put (place_at s f) ∙ (λ i. if place_eq (at i) (place_at s f) then marks_in old (at i) ++ is i ∷ [] else marks_in old (place_at s f))
    ∙ by (eqb site s && name_eq (family a) f) refl
    ∙ sym (performed_mark objects L a n answer call s f called ∙ ap (λ b. marks_of objects L s f ++ cond (eqb site s && b) (one ∷ []) []) (name_eq_sym f (family a)))
  where
    site : ℕ
    site = site_of objects call.object

    one : Mark
    one = record { action = a; count = count L site }

    by : (b : Bool) → (eqb site s && name_eq (family a) f) ≡ b
        → (if b then marks_in old (place_at site (family a)) ++ one ∷ [] else marks_in old (place_at s f)) ≡ marks_of objects L s f ++ cond b (one ∷ []) []
    by true same =
        let parts = and_parts (eqb site s) (name_eq (family a) f) same in
        ap (λ ms. ms ++ one ∷ [])
        ((λ i. marks_in old (place_at (eqb-true site s parts.0 i) (name_eq_same (family a) f parts.1 i))) ∙ before s f)
    by false other = before s f ∙ sym (nothing_more (marks_of objects L s f))

-- a Perform of no call adds none
pub none_put : {S : Type 0} (objects : List ObjectDecl) (L : List Deed) (a : Name) (n : ℕ) (answer : Answer) (old : HashMap Place (List Mark) S)
    → call_of L a n ≡ None → KeepsMarks objects L old → KeepsMarks objects (Perform a n answer ∷ L) old
none_put objects L a n answer old called before s f =
    before s f
    ∙ sym (ap (λ c. map mark_of (filter (is_of objects s f) (performed objects L ++ map (counted objects L) (of_call a n answer c)))) called
    ∙ ap (λ ps. map mark_of (filter (is_of objects s f) ps)) (no_more (performed objects L)))
  where
    no_more : (ps : List Performed) → ps ++ [] ≡ ps
    no_more [] = refl
    no_more (p ∷ ps) = ap (λ qs. p ∷ qs) (no_more ps)

-- no other deed performs
pub other_marks : {S : Type 0} (objects : List ObjectDecl) (L : List Deed) (d : Deed) (table : HashMap Place (List Mark) S) → ((a : Name) (n : ℕ) (answer : Answer) → d ≡ Perform a n answer → ⊥)
    → KeepsMarks objects L table → KeepsMarks objects (d ∷ L) table
other_marks objects L (Perform a n answer) table other before s f = absurd (other a n answer refl)
other_marks objects L _ table other before s f = before s f

-- Where the family is not secured at the site, its marks tell whether all its live operations there have been handed up.
pub marks_clear : (objects : List ObjectDecl) (L : List Deed) (s : ℕ) (f : Name) → secured_at L f s ≡ false → list_all (is_clear L s f) (marks_of objects L s f) ≡ handed_up objects L f s
marks_clear objects L s f unsecured =
    each (performed objects L)
    ∙ ap (λ os. list_all lifted (filter fam (filter at os))) (live_is objects L)
  where
    at : Operation → Bool
    at o = eqb (site_of objects o.object) s

    fam : Operation → Bool
    fam o = name_eq f (family o.action)

    lifted : Operation → Bool
    lifted o = is_lift f (lift L s o.action)

    none_first : (o : Option ℕ) → is_some o ≡ false → o ≡ None
    none_first None h = refl
    none_first (Some k) h = cc

    clear : (x y z : Bool) → (not x || (y || z)) ≡ (not ((x || false) && not y) || z)
    clear true true z = refl
    clear true false z = refl
    clear false y z = refl

    one : (p : Performed) → at p.operation ≡ true → fam p.operation ≡ true → is_clear L s f (mark_of p) ≡ (not (is_live objects L p) || lifted p.operation)
    one p here own =
        let site : site_of objects p.operation.object ≡ s = eqb-true (site_of objects p.operation.object) s here in
        let same : f ≡ family p.operation.action = name_eq_same f (family p.operation.action) own in
        let first : first_secured L s f ≡ None = none_first (first_secured L s f) (sym (secured_first L s f) ∙ unsecured) in
        clear (eqb p.count (count L s)) (list_any (λ u. informed L s u false) (ancestors p.operation.action)) (lifted p.operation)
        ∙ ap (λ o. not ((eqb p.count (count L s) || is_secured_by o p.count) && not (list_any (λ u. informed L s u false) (ancestors p.operation.action))) || lifted p.operation) (sym first)
        ∙ (λ i. not ((eqb p.count (count L (sym site i)) || is_secured_by (first_secured L (sym site i) (same i)) p.count) && not (list_any (λ u. informed L (sym site i) u false) (ancestors p.operation.action))) || lifted p.operation)

    each : (ps : List Performed) → list_all (is_clear L s f) (map mark_of (filter (is_of objects s f) ps)) ≡ list_all lifted (filter fam (filter at (live_of objects L ps)))
    each [] = refl
    each (p ∷ ps) = by (at p.operation) (fam p.operation) (is_live objects L p) refl refl refl (each ps)
      where
        by : (b c d : Bool) → at p.operation ≡ b → fam p.operation ≡ c → is_live objects L p ≡ d
            → list_all (is_clear L s f) (map mark_of (filter (is_of objects s f) ps)) ≡ list_all lifted (filter fam (filter at (live_of objects L ps)))
            → list_all (is_clear L s f) (map mark_of (cond (b && c) (p ∷ filter (is_of objects s f) ps) (filter (is_of objects s f) ps)))
            ≡ list_all lifted (filter fam (filter at (map (λ q. q.operation) (cond d (p ∷ filter (is_live objects L) ps) (filter (is_live objects L) ps)))))
        by true true true e g l rest =
            (λ i. (one p e g i) && rest i) ∙ ap (λ t. (not t || lifted p.operation) && list_all lifted (filter fam (filter at (live_of objects L ps)))) l
            ∙ sym ((λ i. list_all lifted (filter fam (cond (e i) (p.operation ∷ filter at (live_of objects L ps)) (filter at (live_of objects L ps)))))
            ∙ (λ i. list_all lifted (cond (g i) (p.operation ∷ filter fam (filter at (live_of objects L ps))) (filter fam (filter at (live_of objects L ps))))))
        by true true false e g l rest =
            (λ i. (one p e g i) && rest i) ∙ ap (λ t. (not t || lifted p.operation) && list_all lifted (filter fam (filter at (live_of objects L ps)))) l
        by true false true e g l rest =
            rest
            ∙ sym ((λ i. list_all lifted (filter fam (cond (e i) (p.operation ∷ filter at (live_of objects L ps)) (filter at (live_of objects L ps)))))
            ∙ (λ i. list_all lifted (cond (g i) (p.operation ∷ filter fam (filter at (live_of objects L ps))) (filter fam (filter at (live_of objects L ps))))))
        by true false false e g l rest = rest
        by false c true e g l rest = rest ∙ sym (λ i. list_all lifted (filter fam (cond (e i) (p.operation ∷ filter at (live_of objects L ps)) (filter at (live_of objects L ps)))))
        by false c false e g l rest = rest
