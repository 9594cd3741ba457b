-- The nodes on which an action depends, deed by deed.
use Rattle.std.proofs.Common.{◌≡◌, ◌≤◌, ℕ, max, eqb, Bool, true, false, ◌&&◌, if◌then◌else◌, cond, List, [], ◌∷◌, ◌++◌, length, Some, refl, sym, ap, ◌∙◌, arith}
use Rattle.std.specs.Prelude.{replicate}
use Rattle.std.specs.HashMap.{HashMap, get}
use Rattle.std.proofs.lemmas.List.{map-append}
use Rattle.cam_names.specs.declared.name.Name.{Name}
use Rattle.cam_names.specs.Names.{name_eq, is_top, parent, home_node}
use Rattle.cam_names.specs.Dependencies.{greatest_count, as_counts, greater_counts}
use Rattle.cam_names.proofs.Names.{name_eq_same}
use Rattle.cam_names.proofs.Children.{is_some_name, child_of}
use Rattle.cam_type.specs.declared.ObjectDecl.{ObjectDecl}
use Rattle.cam_event.specs.declared.Deed.{Deed}
use Rattle.cam_event.specs.declared.Deed.TheVariants.{Create, Ask, Commit}
use Rattle.cam_event.specs.Gained.{deps, home}
use Rattle.cam_own.specs.Depending.{at_one, nodes_of, nodes_in, KeepsDeps, Depends}
use Rattle.cam_own.proofs.Putting.{put_at}

-- the greatest count that both together have of a node
greatest_append : (xs ys : List (ℕ × ℕ)) (m : ℕ) → greatest_count (xs ++ ys) m ≡ max (greatest_count ys m) (greatest_count xs m)
greatest_append [] ys m = omega arith
greatest_append (x ∷ xs) ys m = by (eqb x.0 m) (greatest_append xs ys m)
  where
    by : (t : Bool) → greatest_count (xs ++ ys) m ≡ max (greatest_count ys m) (greatest_count xs m)
        → (if t then max x.1 (greatest_count (xs ++ ys) m) else greatest_count (xs ++ ys) m)
        ≡ max (greatest_count ys m) (if t then max x.1 (greatest_count xs m) else greatest_count xs m)
    by true rest = omega (arith, rest)
    by false rest = rest

-- both together have the greater count of each node
counts_append : (xs ys : List (ℕ × ℕ)) → as_counts (xs ++ ys) ≡ greater_counts (as_counts ys) (as_counts xs)
counts_append xs ys =
    λ i. greatest_append xs ys 1 i ∷ greatest_append xs ys 2 i ∷ greatest_append xs ys 3 i ∷ greatest_append xs ys 4 i ∷ greatest_append xs ys 5 i ∷ greatest_append xs ys 6 i ∷ greatest_append xs ys 7 i ∷ greatest_append xs ys 8 i ∷ []

nodes_append : (xs ys : List (ℕ × ℕ)) → nodes_of (xs ++ ys) ≡ greater_counts (nodes_of ys) (nodes_of xs)
nodes_append xs ys = ap as_counts (map-append (λ (p : ℕ × ℕ). (p.0, 1)) xs ys) ∙ counts_append (at_one xs) (at_one ys)

-- what is put at an action
pub depends_put : {S : Type 0} (b : Name) (more r : List ℕ) (old new : HashMap Name (List ℕ) S) → r ≡ greater_counts (nodes_in old b) more
    → ((q : Name) → get name_eq new q ≡ cond (name_eq b q) (Some r) (get name_eq old q)) → Depends b more old new
depends_put b more r old new is put a =
    put_at (replicate 8 0) r old new b put a ∙ by (name_eq a b) refl
  where
    by : (t : Bool) → name_eq a b ≡ t → (if t then r else nodes_in old a) ≡ (if t then greater_counts (nodes_in old a) more else nodes_in old a)
    by true same = is ∙ ap (λ n. greater_counts (nodes_in old n) more) (sym (name_eq_same a b same))
    by false other = refl

-- pairs in front of others, or only the others
in_front : (t : Bool) (kept more : List ℕ) (new old : List (ℕ × ℕ)) → kept ≡ nodes_of old → more ≡ nodes_of new
    → (if t then greater_counts kept more else kept) ≡ nodes_of (if t then new ++ old else old)
in_front true kept more new old is same = (λ i. greater_counts (is i) (same i)) ∙ sym (nodes_append new old)
in_front false kept more new old is same = is

pub create_step : {S : Type 0} (old new : HashMap Name (List ℕ) S) (b : Name) (more : List ℕ) → is_top b ≡ true → more ≡ as_counts ((home_node b, 1) ∷ []) → Depends b more old new
    → (objects : List ObjectDecl) (L : List Deed) → KeepsDeps objects L old → KeepsDeps objects (Create b ∷ L) new
create_step old new b more top is depends objects L before a named =
    depends a ∙ in_front (name_eq a b) (nodes_in old a) more (home b ∷ []) (deps objects L a) (before a named) is
    ∙ ap (λ t. nodes_of (if t then home b ∷ deps objects L a else deps objects L a)) (and_true (name_eq a b) ∙ ap (λ t. name_eq a b && t) (sym top))
  where
    and_true : (t : Bool) → t ≡ (t && true)
    and_true true = refl
    and_true false = refl

pub child_step : {S : Type 0} (old : HashMap Name (List ℕ) S) (b : Name) → is_top b ≡ false
    → (objects : List ObjectDecl) (L : List Deed) → KeepsDeps objects L old → KeepsDeps objects (Create b ∷ L) old
child_step old b child objects L before a named =
    before a named ∙ ap (λ t. nodes_of (if t then home b ∷ deps objects L a else deps objects L a)) (and_false (name_eq a b) ∙ ap (λ t. name_eq a b && t) (sym child))
  where
    and_false : (t : Bool) → false ≡ (t && false)
    and_false true = refl
    and_false false = refl

pub ask_step : {S : Type 0} (old new : HashMap Name (List ℕ) S) (p b : Name) (more : List ℕ) → 1 ≤ length p
    → more ≡ greater_counts (nodes_in old p) (as_counts ((home_node b, 1) ∷ [])) → Depends b more old new
    → (objects : List ObjectDecl) (L : List Deed) → KeepsDeps objects L old → KeepsDeps objects (Ask p b ∷ L) new
ask_step old new p b more parent_named is depends objects L before a named =
    depends a
    ∙ in_front (name_eq a b) (nodes_in old a) more (home b ∷ deps objects L p) (deps objects L a) (before a named)
    (is ∙ ap (λ ns. greater_counts ns (as_counts ((home_node b, 1) ∷ []))) (before p parent_named) ∙ sym (nodes_append (home b ∷ []) (deps objects L p)))

pub commit_step : {S : Type 0} (old new : HashMap Name (List ℕ) S) (b p : Name) (more : List ℕ) → 1 ≤ length b → Some p ≡ parent b → more ≡ nodes_in old b → Depends p more old new
    → (objects : List ObjectDecl) (L : List Deed) → KeepsDeps objects L old → KeepsDeps objects (Commit b ∷ L) new
commit_step old new b p more child_named up is depends objects L before a named =
    depends a ∙ in_front (name_eq a p) (nodes_in old a) more (deps objects L b) (deps objects L a) (before a named) (is ∙ before b child_named)
    ∙ ap (λ (t : Bool). nodes_of (if t then deps objects L b ++ deps objects L a else deps objects L a)) (ap (is_some_name a) up ∙ sym (child_of a b named))

pub gain_step : {S : Type 0} (old new : HashMap Name (List ℕ) S) (b : Name) (pairs : List (ℕ × ℕ)) → Depends b (nodes_of pairs) old new
    → (objects : List ObjectDecl) (L : List Deed) → KeepsDeps objects L old → (a : Name) → 1 ≤ length a
    → nodes_in new a ≡ nodes_of (if name_eq a b then pairs ++ deps objects L a else deps objects L a)
gain_step old new b pairs depends objects L before a named =
    depends a ∙ in_front (name_eq a b) (nodes_in old a) (nodes_of pairs) pairs (deps objects L a) (before a named) refl
