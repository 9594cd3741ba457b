-- What one more deed adds to the tables.
use Rattle.std.proofs.Common.{◌≡◌, ℕ, eqb, Bool, true, false, ◌&&◌, ◌||◌, if◌then◌else◌, cond, List, ◌∷◌, Option, Some, None, is_some, unwrap_or, refl, sym, ap, ◌∙◌, arith}
use Rattle.std.specs.Option.{option_map, option_or}
use Rattle.std.specs.Ordering.{is_eq, nat_cmp, ordering_then}
use Rattle.std.specs.declared.cmp.Ordering.{Ordering}
use Rattle.std.specs.declared.cmp.Ordering.TheVariants.{Less, Equal, Greater}
use Rattle.std.specs.BTreeMap.{BTreeMap, get}
use Rattle.std.specs.BTreeSet.{BTreeSet, contains}
use Rattle.std.proofs.lemmas.Bool.{and_parts, eqb-true}
use Rattle.cam_names.specs.declared.name.Name.{Name}
use Rattle.cam_names.specs.Names.{name_cmp, name_eq}
use Rattle.cam_names.proofs.Names.{name_eq_same}
use Rattle.cam_names.proofs.Names.{name_ties_back}
use Rattle.cam_type.specs.declared.ObjectDecl.{ObjectDecl}
use Rattle.cam_type.specs.declared.Answer.{Answer}
use Rattle.cam_event.specs.declared.Deed.{Deed}
use Rattle.cam_event.specs.declared.Deed.TheVariants.{Call, Perform, Secure}
use Rattle.cam_event.specs.History.{count, Addressed, call_of}
use Rattle.cam_live.specs.declared.tables.AddressedCall.{AddressedCall}
use Rattle.cam_live.specs.Counted.{performed}
use Rattle.cam_live.specs.Ledger.{addressed}
use Rattle.cam_live.specs.Tables.{site_name_cmp, call_cmp, asked_of, TellsCalls, first_secured, TellsSecured, AddsName}

-- two keys tie where their parts do
both_equal : (o p : Ordering) → is_eq (ordering_then o p) ≡ (is_eq o && is_eq p)
both_equal Less p = refl
both_equal Equal p = refl
both_equal Greater p = refl

pub number_ties : (m n : ℕ) → is_eq (nat_cmp m n) ≡ eqb n m
number_ties m n = grind arith

site_name_ties : (t s : ℕ) (b a : Name) → is_eq (site_name_cmp (t, b) (s, a)) ≡ (eqb s t && name_eq a b)
site_name_ties t s b a = both_equal (nat_cmp t s) (name_cmp b a) ∙ (λ i. number_ties t s i && name_ties_back a b i)

call_ties : (b a : Name) (m n : ℕ) → is_eq (call_cmp (b, m) (a, n)) ≡ (name_eq a b && eqb n m)
call_ties b a m n = both_equal (name_cmp b a) (nat_cmp m n) ∙ (λ i. name_ties_back a b i && number_ties m n i)

-- one more call
pub calls_put : (L : List Deed) (b : Name) (m : ℕ) (call : Addressed) (old new : BTreeMap (Name × ℕ) AddressedCall) → TellsCalls L old
    → ((q : Name × ℕ) → get call_cmp new q ≡ cond (is_eq (call_cmp (b, m) q)) (Some (asked_of call)) (get call_cmp old q))
    → TellsCalls (Call b m call.object call.op call.count ∷ L) new
calls_put L b m call old new before put a n =
    put (a, n) ∙ (λ i. cond (call_ties b a m n i) (Some (asked_of call)) (before a n i)) ∙ chosen (name_eq a b && eqb n m)
  where
    chosen : (t : Bool) → cond t (Some (asked_of call)) (option_map asked_of (call_of L a n)) ≡ option_map asked_of (if t then Some call else call_of L a n)
    chosen true = refl
    chosen false = refl

-- one more name at a site
pub name_put : (t : ℕ) (b : Name) (old new : BTreeSet (ℕ × Name))
    → ((q : ℕ × Name) → contains site_name_cmp new q ≡ cond (is_eq (site_name_cmp (t, b) q)) true (contains site_name_cmp old q))
    → AddsName t b old new
name_put t b old new put s a =
    put (s, a) ∙ (λ i. cond (site_name_ties t s b a i) true (contains site_name_cmp old (s, a))) ∙ cond_or (eqb s t && name_eq a b) (contains site_name_cmp old (s, a))
  where
    cond_or : (x y : Bool) → cond x true y ≡ (x || y)
    cond_or true y = refl
    cond_or false y = refl

-- the first of two, where there is one
or_none : (o : Option ℕ) → option_or o None ≡ o
or_none None = refl
or_none (Some k) = refl

nothing : (o : Option ℕ) → is_some o ≡ false → o ≡ None
nothing None h = refl
nothing (Some k) h = cc

or_some : (o p : Option ℕ) → is_some o ≡ true → option_or o p ≡ o
or_some None p h = cc
or_some (Some k) p h = refl

-- a family that is secured at a site for the first time
pub secured_put : (L : List Deed) (t : ℕ) (g : Name) (c v : ℕ) (old new : BTreeMap (ℕ × Name) ℕ) → TellsSecured L old → is_some (get site_name_cmp old (t, g)) ≡ false → v ≡ count L t
    → ((q : ℕ × Name) → get site_name_cmp new q ≡ cond (is_eq (site_name_cmp (t, g) q)) (Some v) (get site_name_cmp old q))
    → TellsSecured (Secure g t c ∷ L) new
secured_put L t g c v old new before none is put s f =
    put (s, f) ∙ (λ i. cond (site_name_ties t s g f i) (Some v) (before s f i)) ∙ by (eqb s t && name_eq f g) refl
  where
    by : (b : Bool) → (eqb s t && name_eq f g) ≡ b → cond b (Some v) (first_secured L s f) ≡ option_or (first_secured L s f) (if b then Some (count L s) else None)
    by false e = sym (or_none (first_secured L s f))
    by true e =
        let parts = and_parts (eqb s t) (name_eq f g) e in
        let first : first_secured L s f ≡ None = (λ i. first_secured L (eqb-true s t parts.0 i) (name_eq_same f g parts.1 i)) ∙ sym (before t g) ∙ nothing (get site_name_cmp old (t, g)) none in
        ap (λ k. Some k) (is ∙ ap (count L) (sym (eqb-true s t parts.0))) ∙ sym (ap (λ o. option_or o (Some (count L s))) first)

-- a family that was secured there before
pub secured_same : (L : List Deed) (t : ℕ) (g : Name) (c : ℕ) (old : BTreeMap (ℕ × Name) ℕ) → TellsSecured L old → is_some (get site_name_cmp old (t, g)) ≡ true → TellsSecured (Secure g t c ∷ L) old
secured_same L t g c old before there s f = before s f ∙ by (eqb s t && name_eq f g) refl
  where
    by : (b : Bool) → (eqb s t && name_eq f g) ≡ b → first_secured L s f ≡ option_or (first_secured L s f) (if b then Some (count L s) else None)
    by false e = sym (or_none (first_secured L s f))
    by true e =
        let parts = and_parts (eqb s t) (name_eq f g) e in
        let first : is_some (first_secured L s f) ≡ true =
        ap is_some ((λ i. first_secured L (eqb-true s t parts.0 i) (name_eq_same f g parts.1 i)) ∙ sym (before t g)) ∙ there
        in
        sym (or_some (first_secured L s f) (Some (count L s)) first)

-- a deed that is no Perform adds no operation
pub other_performed : (objects : List ObjectDecl) (L : List Deed) (d : Deed) → ((a : Name) (n : ℕ) (answer : Answer) → d ≡ Perform a n answer → ⊥) → performed objects L ≡ performed objects (d ∷ L)
other_performed objects L (Perform a n answer) other = absurd (other a n answer refl)
other_performed objects L _ other = refl

-- what the table of calls has, as the deeds have it
pub addressed_of : (o : Option AddressedCall) (call : Option Addressed) → o ≡ option_map asked_of call → addressed o ≡ call
addressed_of o call is = ap addressed is ∙ back call
  where
    back : (p : Option Addressed) → addressed (option_map asked_of p) ≡ p
    back None = refl
    back (Some asked) = refl
