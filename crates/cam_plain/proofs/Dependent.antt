-- What each deed adds to the table of what actions depend on.
use Rattle.std.proofs.Common.{◌≡◌, inl, inr, ℕ, ◌+◌, ◌<◌, ◌≤◌, eqb, Bool, true, false, ◌&&◌, ◌||◌, if◌then◌else◌, cond, List, [], ◌∷◌, ◌++◌, length, take, get_or, Some, unwrap_or, refl, sym, ap, ◌∙◌}
use Rattle.std.specs.Ordering.{is_eq}
use Rattle.std.specs.BTreeMap.{BTreeMap, get}
use borrow.Author.Tests.{eqb-true}
use Rattle.std.proofs.lemmas.Bool.{cases_Bool, and_parts}
use Rattle.std.proofs.lemmas.List.{take_more}
use Rattle.cam_names.specs.declared.name.Name.{Name}
use Rattle.cam_names.specs.Names.{name_cmp, name_eq, parent, home_node, home_count}
use Rattle.cam_names.specs.Dependencies.{has_pair}
use Rattle.cam_names.proofs.Names.{name_eq_same, name_eq_sym, name_ties}
use Rattle.cam_type.specs.declared.ObjectDecl.{ObjectDecl}
use Rattle.cam_event.specs.declared.Deed.{Deed}
use Rattle.cam_event.specs.declared.Deed.TheVariants.{Ask, Commit}
use Rattle.cam_event.specs.Gained.{deps, home}
use Rattle.cam_plain.specs.Depending.{pairs_in, AddsPairs, DependsOn}
use Rattle.cam_names.proofs.Children.{is_some_name, child_of}

or_grouped : (x y z : Bool) → (x || (y || z)) ≡ ((x || y) || z)
or_grouped true y z = refl
or_grouped false y z = refl

or_nothing : (x : Bool) → (x || false) ≡ x
or_nothing true = refl
or_nothing false = refl

has_pair_append : (ps qs : List (ℕ × ℕ)) (s c : ℕ) → has_pair (ps ++ qs) s c ≡ (has_pair ps s c || has_pair qs s c)
has_pair_append [] qs s c = refl
has_pair_append (p ∷ ps) qs s c = ap (λ (b : Bool). (eqb p.0 s && eqb p.1 c) || b) (has_pair_append ps qs s c) ∙ or_grouped (eqb p.0 s && eqb p.1 c) (has_pair ps s c) (has_pair qs s c)

or_turned : (x y : Bool) → (x || y) ≡ (y || x)
or_turned true true = refl
or_turned true false = refl
or_turned false true = refl
or_turned false false = refl

-- one more pair at the end
pub has_pair_end : (ps : List (ℕ × ℕ)) (p : ℕ × ℕ) (s c : ℕ) → has_pair (ps ++ p ∷ []) s c ≡ ((eqb p.0 s && eqb p.1 c) || has_pair ps s c)
has_pair_end ps p s c =
    has_pair_append ps (p ∷ []) s c ∙ ap (λ (b : Bool). has_pair ps s c || b) (or_nothing (eqb p.0 s && eqb p.1 c)) ∙ or_turned (has_pair ps s c) (eqb p.0 s && eqb p.1 c)

-- a pair that is there already
pub has_pair_already : (ps : List (ℕ × ℕ)) (n k : ℕ) → has_pair ps n k ≡ true → (s c : ℕ) → has_pair ps s c ≡ ((eqb n s && eqb k c) || has_pair ps s c)
has_pair_already ps n k h s c =
    elim (cases_Bool (eqb n s && eqb k c)) [
      | inl same ↦
          let parts = and_parts (eqb n s) (eqb k c) same in
          (λ i. has_pair ps (sym (eqb-true n s parts.0) i) (sym (eqb-true k c parts.1) i)) ∙ h ∙ ap (λ (b : Bool). b || has_pair ps s c) (sym same)
      | inr other ↦ ap (λ (b : Bool). b || has_pair ps s c) (sym other)
    ]

-- one more pair of a list
pub has_pair_further : (qs : List (ℕ × ℕ)) (i : ℕ) (d : ℕ × ℕ) (old new first : List (ℕ × ℕ)) → i < length qs
    → ((s c : ℕ) → has_pair old s c ≡ (has_pair (take i qs) s c || has_pair first s c))
    → ((s c : ℕ) → has_pair new s c ≡ ((eqb (get_or qs i d).0 s && eqb (get_or qs i d).1 c) || has_pair old s c))
    → (s c : ℕ) → has_pair new s c ≡ (has_pair (take (i + 1) qs) s c || has_pair first s c)
has_pair_further qs i d old new first h so_far step s c =
    let q = get_or qs i d in
    step s c ∙ ap (λ (b : Bool). (eqb q.0 s && eqb q.1 c) || b) (so_far s c)
    ∙ or_grouped (eqb q.0 s && eqb q.1 c) (has_pair (take i qs) s c) (has_pair first s c)
    ∙ ap (λ (b : Bool). b || has_pair first s c)
    (sym (has_pair_end (take i qs) q s c) ∙ ap (λ (ps : List (ℕ × ℕ)). has_pair ps s c) (sym (take_more qs i d h)))

-- what is put into the table at a name, and what stays
pub put_pairs : (old new : BTreeMap Name (List (ℕ × ℕ))) (b : Name) (more pairs : List (ℕ × ℕ))
    → ((s c : ℕ) → has_pair pairs s c ≡ (has_pair more s c || has_pair (pairs_in old b) s c))
    → ((q : Name) → get name_cmp new q ≡ cond (is_eq (name_cmp b q)) (Some pairs) (get name_cmp old q))
    → AddsPairs old b more new
put_pairs old new b more pairs joined put a s c =
    elim (cases_Bool (name_eq a b)) [
      | inl same ↦
          let tied : is_eq (name_cmp b a) ≡ true = sym (name_ties b a) ∙ name_eq_sym b a ∙ same in
          ap (λ o. has_pair (unwrap_or o []) s c) (put a ∙ ap (λ t. cond t (Some pairs) (get name_cmp old a)) tied)
          ∙ joined s c ∙ ap (λ (n : Name). has_pair more s c || has_pair (pairs_in old n) s c) (sym (name_eq_same a b same))
          ∙ ap (λ (t : Bool). if t then has_pair more s c || has_pair (pairs_in old a) s c else has_pair (pairs_in old a) s c) (sym same)
      | inr other ↦
          let apart : is_eq (name_cmp b a) ≡ false = sym (name_ties b a) ∙ name_eq_sym b a ∙ other in
          ap (λ o. has_pair (unwrap_or o []) s c) (put a ∙ ap (λ t. cond t (Some pairs) (get name_cmp old a)) apart)
          ∙ ap (λ (t : Bool). if t then has_pair more s c || has_pair (pairs_in old a) s c else has_pair (pairs_in old a) s c) (sym other)
    ]

-- pairs in front of others, or only the others
in_front : (t : Bool) (more new old : List (ℕ × ℕ)) (s c : ℕ) (x : Bool) → x ≡ has_pair old s c
    → has_pair more s c ≡ has_pair new s c
    → (if t then has_pair more s c || x else x) ≡ has_pair (if t then new ++ old else old) s c
in_front true more new old s c x is same = ap (λ (b : Bool). has_pair more s c || b) is ∙ ap (λ (b : Bool). b || has_pair old s c) same ∙ sym (has_pair_append new old s c)
in_front false more new old s c x is same = is

pub ask_step : (old new : BTreeMap Name (List (ℕ × ℕ))) (p b : Name) (pairs : List (ℕ × ℕ)) → 1 ≤ length p
    → ((s c : ℕ) → has_pair pairs s c ≡ ((eqb (home_node b) s && eqb (home_count b) c) || has_pair (pairs_in old p) s c)) → AddsPairs old b pairs new
    → (objects : List ObjectDecl) (L : List Deed) → DependsOn objects L old → DependsOn objects (Ask p b ∷ L) new
ask_step old new p b pairs parent_named holds adds objects L depends a s c named =
    adds a s c ∙ in_front (name_eq a b) pairs (home b ∷ deps objects L p) (deps objects L a) s c (has_pair (pairs_in old a) s c) (depends a s c named)
    (holds s c ∙ ap (λ (t : Bool). (eqb (home_node b) s && eqb (home_count b) c) || t) (depends p s c parent_named))

pub commit_step : (old new : BTreeMap Name (List (ℕ × ℕ))) (b p : Name) → 1 ≤ length b → Some p ≡ parent b → AddsPairs old p (pairs_in old b) new
    → (objects : List ObjectDecl) (L : List Deed) → DependsOn objects L old → DependsOn objects (Commit b ∷ L) new
commit_step old new b p child_named is adds objects L depends a s c named =
    adds a s c ∙ in_front (name_eq a p) (pairs_in old b) (deps objects L b) (deps objects L a) s c (has_pair (pairs_in old a) s c) (depends a s c named) (depends b s c child_named)
    ∙ ap (λ (t : Bool). has_pair (if t then deps objects L b ++ deps objects L a else deps objects L a) s c) (ap (is_some_name a) is ∙ sym (child_of a b named))
