-- Names by a table of their places, and variables by their names.
use Rattle.std.proofs.Common.{◌≡◌, ◌<◌, ℕ, zero, suc, ◌+◌, Bool, true, false, cond, List, [], ◌∷◌, ◌++◌, Vec, Bor, Option, Some, None, length, is_some, refl, sym, ap, subst, ◌∙◌, arith}
use Rattle.std.specs.Prelude.{IfSome, bytes_eq, slice_get, option_map, option_and_then}
use Rattle.std.specs.Cmp.Lexicographic.{bytes_decides, nat_list_eq_equiv}
use Rattle.std.specs.declared.alloc.Global.{Global}
use Rattle.std.specs.Option.{option_copied}
use Rattle.std.specs.Slice.{IsItemAt}
use Rattle.std.proofs.lemmas.Option.{slice_get_past, slice_get_read}
use Rattle.std.specs.HashMap.{HashMap}
use Rattle.std.specs.Map.{KeepsOthers}
use Rattle.cam_words.specs.Words.{place_from, place_of}
use Rattle.cam_script.specs.SoFar.{Variable, variable_names}
use Rattle.cam_script.specs.declared.variables.Bound.{Bound}
use Rattle.cam_script.specs.NameTable.{place_in, or_at}
use Rattle.cam_script.specs.Variables.{variable_of}
use Rattle.cam_script.specs.VariableTable.{named, bound_of, all_named}

-- where a name stands in a list with one more at its end
place_more : (k : ℕ) (names : List (List ℕ)) (name q : List ℕ) → place_from k (names ++ name ∷ []) q ≡ or_at (k + length names) (bytes_eq name q) (place_from k names q)
place_more k [] name q = ap (λ (j : ℕ). cond (bytes_eq name q) (Some j) None) (omega arith)
place_more k (n ∷ names) name q = by_test (bytes_eq n q) (place_more (k + 1) names name q)
  where
    by_test : (b : Bool) → place_from (k + 1) (names ++ name ∷ []) q ≡ or_at (k + 1 + length names) (bytes_eq name q) (place_from (k + 1) names q)
        → cond b (Some k) (place_from (k + 1) (names ++ name ∷ []) q) ≡ or_at (k + length (n ∷ names)) (bytes_eq name q) (cond b (Some k) (place_from (k + 1) names q))
    by_test true rest = refl
    by_test false rest = rest ∙ ap (λ (j : ℕ). or_at j (bytes_eq name q) (place_from (k + 1) names q)) (omega arith)

place_pushed : (names : List (List ℕ)) (name q : List ℕ) → or_at (length names) (bytes_eq name q) (place_of names q) ≡ place_of (names ++ name ∷ []) q
place_pushed names name q = subst (λ (k : ℕ). or_at k (bytes_eq name q) (place_of names q) ≡ place_of (names ++ name ∷ []) q) (omega arith) (sym (place_more 0 names name q))

module _ {S : Type 0} where
  -- what a table has of other names stays
  other_places : (m n : HashMap (Vec ℕ Global) ℕ S) (name : List ℕ) → KeepsOthers (λ (j k : Vec ℕ Global). bytes_eq j.items k.items) (λ (k : Vec ℕ Global). bytes_eq name k.items) m.entries n.entries
      → (q : List ℕ) → bytes_eq name q ≡ false → place_in n q ≡ place_in m q
  unfolding KeepsOthers
  other_places m n name keeps q e =
      keeps (λ (k : Vec ℕ Global). bytes_eq q k.items) (λ x y. nat_list_eq_equiv.congr q x.items y.items)
      (λ k t. nat_list_eq_equiv.symm q k.items ∙ sym (nat_list_eq_equiv.congr name k.items q t) ∙ e)

  -- a name that had no place is put at one
  pub place_put : (m n : HashMap (Vec ℕ Global) ℕ S) (name : List ℕ) (place : ℕ) → place_in m name ≡ None → place_in n name ≡ Some place
      → KeepsOthers (λ (j k : Vec ℕ Global). bytes_eq j.items k.items) (λ (k : Vec ℕ Global). bytes_eq name k.items) m.entries n.entries
      → (q : List ℕ) → place_in n q ≡ or_at place (bytes_eq name q) (place_in m q)
  place_put m n name place none is keeps q = by_test (bytes_eq name q) refl
    where
      by_place : (o : Option ℕ) → o ≡ or_at place false o
      by_place (Some p) = refl
      by_place None = refl

      by_test : (b : Bool) → bytes_eq name q ≡ b → place_in n q ≡ or_at place b (place_in m q)
      by_test true e =
          let same : name ≡ q = (bytes_decides name q).0 e in
          subst (λ (p : List ℕ). place_in n p ≡ or_at place true (place_in m p)) same (is ∙ ap (or_at place true) (sym none))
      by_test false e = other_places m n name keeps q e ∙ by_place (place_in m q)

-- after one more name
pub pushed : (names after : List (List ℕ)) (name word : List ℕ) (place : ℕ) (found finds : List ℕ → Option ℕ) → ((q : List ℕ) → found q ≡ place_of names q) → ((q : List ℕ) → finds q ≡ or_at place (bytes_eq word q) (found q))
    → word ≡ name → place ≡ length names → after ≡ names ++ name ∷ [] → (q : List ℕ) → finds q ≡ place_of after q
pushed names after name word place found finds before put same last more q =
    put q ∙ ap (or_at place (bytes_eq word q)) (before q)
    ∙ ap (λ (w : List ℕ). or_at place (bytes_eq w q) (place_of names q)) same
    ∙ ap (λ (k : ℕ). or_at k (bytes_eq name q) (place_of names q)) last
    ∙ place_pushed names name q ∙ ap (λ (ns : List (List ℕ)). place_of ns q) (sym more)

pub is_none : {A : Type 0} (o : Option A) → is_some o ≡ false → o ≡ None
is_none None h = refl
is_none (Some x) h = absurd (grind (arith, h))

-- the names of the variables are these
pub names_kept : (names : List (List ℕ)) (bounds : List Bound) → length names ≡ length bounds → variable_names (all_named names bounds) ≡ names
names_kept [] bounds same = refl
names_kept (n ∷ names) [] same = absurd (grind (arith, same))
names_kept (n ∷ names) (b ∷ bounds) same = ap (λ (ns : List (List ℕ)). n ∷ ns) (names_kept names bounds (omega (arith, same)))

named_more : (names : List (List ℕ)) (bounds : List Bound) (name : List ℕ) (bound : Bound) → length names ≡ length bounds
    → all_named (names ++ name ∷ []) (bounds ++ bound ∷ []) ≡ all_named names bounds ++ named name bound ∷ []
named_more [] [] name bound same = refl
named_more [] (b ∷ bounds) name bound same = absurd (grind (arith, same))
named_more (n ∷ names) [] name bound same = absurd (grind (arith, same))
named_more (n ∷ names) (b ∷ bounds) name bound same = ap (λ (vs : List Variable). named n b ∷ vs) (named_more names bounds name bound (omega (arith, same)))

pub variables_more : (names more_names : List (List ℕ)) (bounds more_bounds : List Bound) (name : List ℕ) (bound : Bound) → length names ≡ length bounds
    → more_names ≡ names ++ name ∷ [] → more_bounds ≡ bounds ++ bound ∷ [] → all_named more_names more_bounds ≡ all_named names bounds ++ named name bound ∷ []
variables_more names more_names bounds more_bounds name bound same longer bound_longer =
    ap (λ (ns : List (List ℕ)). all_named ns more_bounds) longer ∙ ap (all_named (names ++ name ∷ [])) bound_longer ∙ named_more names bounds name bound same

-- what a slice lends at a place
pub lent_at : {A : Type 0} (xs : List A) (i : ℕ) (lent : Option (Bor A)) → IsItemAt xs i lent → option_copied lent ≡ slice_get xs i
lent_at xs i None is = sym (slice_get_past xs i is.3)
lent_at xs i (Some x) is = sym (slice_get_read xs (length xs) i x.now refl is.3.0 is.1)

bound_at : (names : List (List ℕ)) (bounds : List Bound) (i : ℕ) → length names ≡ length bounds → option_map bound_of (slice_get (all_named names bounds) i) ≡ slice_get bounds i
bound_at [] [] i same = refl
bound_at [] (b ∷ bounds) i same = absurd (grind (arith, same))
bound_at (n ∷ names) [] i same = absurd (grind (arith, same))
bound_at (n ∷ names) (b ∷ bounds) zero same = refl
bound_at (n ∷ names) (b ∷ bounds) (suc i) same = bound_at names bounds i (omega (arith, same))

-- what the variable of a name stands for is what stands at its place
bound_by : (names : List (List ℕ)) (bounds : List Bound) (name : List ℕ) (o : Option ℕ) → length names ≡ length bounds → place_of names name ≡ o
    → option_map bound_of (variable_of (all_named names bounds) name) ≡ option_and_then (slice_get bounds) o
bound_by names bounds name o same is =
    ap (λ (ns : List (List ℕ)). option_map bound_of (option_and_then (λ (place : ℕ). slice_get (all_named names bounds) place) (place_of ns name))) (names_kept names bounds same)
    ∙ ap (λ (p : Option ℕ). option_map bound_of (option_and_then (λ (place : ℕ). slice_get (all_named names bounds) place) p)) is ∙ by_place o
  where
    by_place : (p : Option ℕ) → option_map bound_of (option_and_then (λ (place : ℕ). slice_get (all_named names bounds) place) p) ≡ option_and_then (slice_get bounds) p
    by_place None = refl
    by_place (Some p) = bound_at names bounds p same

pub none_found : (names : List (List ℕ)) (bounds : List Bound) (name : List ℕ) → length names ≡ length bounds → place_of names name ≡ None → None ≡ option_map bound_of (variable_of (all_named names bounds) name)
none_found names bounds name same is = sym (bound_by names bounds name None same is)

pub found_at : (names : List (List ℕ)) (bounds : List Bound) (name : List ℕ) (place : ℕ) → length names ≡ length bounds → place_of names name ≡ Some place → slice_get bounds place ≡ option_map bound_of (variable_of (all_named names bounds) name)
found_at names bounds name place same is = sym (bound_by names bounds name (Some place) same is)

-- a place is within the list
within_from : (k : ℕ) (names : List (List ℕ)) (name : List ℕ) → IfSome (place_from k names name) (λ place. place < k + length names)
within_from k [] name = tt
within_from k (n ∷ names) name = by_test (bytes_eq n name) (within_from (k + 1) names name)
  where
    by_test : (b : Bool) → IfSome (place_from (k + 1) names name) (λ place. place < k + 1 + length names) → IfSome (cond b (Some k) (place_from (k + 1) names name)) (λ place. place < k + length (n ∷ names))
    by_test true rest = omega arith
    by_test false rest = subst (λ (limit : ℕ). IfSome (place_from (k + 1) names name) (λ place. place < limit)) (omega arith) rest

pub place_within : (names : List (List ℕ)) (name : List ℕ) (o : Option ℕ) → o ≡ place_of names name → IfSome o (λ place. place < length names)
place_within names name o is =
    subst (λ (p : Option ℕ). IfSome p (λ place. place < length names)) (sym is)
    (subst (λ (limit : ℕ). IfSome (place_of names name) (λ place. place < limit)) (omega arith) (within_from 0 names name))
