-- The order in which outcomes are learnt is one: they are compared by kind, then by name, then by counts.
use Rattle.std.proofs.Common.{◌≡◌, ℕ, eqb, nat_lt, Bool, true, false, ◌&&◌, ◌||◌, cond, List, [], ◌∷◌, sym, ap, subst, ◌∙◌, refl, rules}
use Rattle.std.specs.Cmp.{IsTotalOrder, IsStrictWeakOrder}
use Rattle.std.specs.Cmp.Lexicographic.{slice_cmp, lists_ties}
use Rattle.std.specs.Cmp.Rules.{comparing}
use Rattle.std.specs.Ordering.{nat_cmp, ordering_then, ordering_reverse, is_lt, is_eq, is_gt, on, then_cmp}
use Rattle.std.specs.declared.cmp.Ordering.{Ordering}
use Rattle.std.specs.declared.cmp.Ordering.TheVariants.{Less, Equal, Greater}
use Rattle.std.proofs.lemmas.Cmp.{nat_cmp_total, on_total, then_total, lists_total}
use Rattle.std.proofs.lemmas.List.Sorted.{ranks_by}
use Rattle.cam_names.specs.declared.name.Name.{Name}
use Rattle.cam_names.specs.Part.{part_cmp}
use Rattle.cam_names.specs.Names.{name_eq, name_cmp, name_lt}
use Rattle.cam_names.proofs.Order.{name_total}
use Rattle.cam_know.specs.declared.Outcome.{Outcome}
use Rattle.cam_know.specs.declared.Outcome.TheVariants.{Aborted, Committed}
use Rattle.cam_know.specs.Order.{counts_before, stands_before}

-- by what an outcome is compared: 0 for an abort, 1 for a commit; the name; the counts
abbrev Key : Type 0
Key = ℕ × (Name × List ℕ)

abbrev key : Outcome → Key
key (Aborted a) = (0, (a, []))
key (Committed a d) = (1, (a, d))

abbrev pub counts_cmp : List ℕ → List ℕ → Ordering
counts_cmp = slice_cmp nat_cmp

abbrev key_cmp : Key → Key → Ordering
key_cmp = then_cmp (on (λ (k : Key). k.0) nat_cmp) (then_cmp (on (λ (k : Key). k.1.0) name_cmp) (on (λ (k : Key). k.1.1) counts_cmp))

key_total : IsTotalOrder key_cmp
key_total = then_total (on_total (λ (k : Key). k.0) nat_cmp_total) (then_total (on_total (λ (k : Key). k.1.0) name_total) (on_total (λ (k : Key). k.1.1) (lists_total nat_cmp_total)))

then_equal : (r : Ordering) → ordering_then r Equal ≡ r
then_equal Less = refl
then_equal Equal = refl
then_equal Greater = refl

less_then : (r s : Ordering) → is_lt (ordering_then r s) ≡ (is_lt r || (is_eq r && is_lt s))
less_then Less s = refl
less_then Equal s = refl
less_then Greater s = refl

less_reversed : (r : Ordering) → is_gt (ordering_reverse r) ≡ is_lt r
less_reversed Less = refl
less_reversed Equal = refl
less_reversed Greater = refl

less_number : (x y : ℕ) (r : Ordering) → is_lt (ordering_then (nat_cmp x y) r) ≡ (nat_lt x y || (eqb x y && is_lt r))
less_number x y r = by (nat_lt x y) (eqb x y)
  where
    by : (b c : Bool) → is_lt (ordering_then (cond b Less (cond c Equal Greater)) r) ≡ (b || (c && is_lt r))
    by true c = refl
    by false true = refl
    by false false = refl

counts_less : (d e : List ℕ) → is_lt (counts_cmp d e) ≡ counts_before d e
counts_less [] [] = refl
counts_less [] (y ∷ e) = refl
counts_less (x ∷ d) [] = refl
counts_less (x ∷ d) (y ∷ e) = less_number x y (counts_cmp d e) ∙ ap (λ b. nat_lt x y || (eqb x y && b)) (counts_less d e)

names_tied : (a b : Name) → name_eq a b ≡ is_eq (name_cmp a b)
names_tied = lists_ties part_cmp (search (comparing, rules))

commits_less : (a b : Name) (d e : List ℕ) → is_lt (ordering_then (name_cmp a b) (counts_cmp d e)) ≡ (name_lt a b || (name_eq a b && counts_before d e))
commits_less a b d e = less_then (name_cmp a b) (counts_cmp d e) ∙ (λ i. name_lt a b || (sym (names_tied a b) i && counts_less d e i))

key_less : (o p : Outcome) → is_lt (key_cmp (key o) (key p)) ≡ stands_before o p
key_less (Aborted a) (Aborted b) = ap is_lt (then_equal (name_cmp a b))
key_less (Aborted a) (Committed b e) = refl
key_less (Committed a d) (Aborted b) = refl
key_less (Committed a d) (Committed b e) = commits_less a b d e

-- a comparison that answers by the keys answers by the order
pub by_key_less : (r : Ordering) (o p : Outcome) → r ≡ key_cmp (key o) (key p) → is_lt r ≡ stands_before o p
by_key_less r o p is = ap is_lt is ∙ key_less o p

pub by_key_greater : (r : Ordering) (o p : Outcome) → r ≡ key_cmp (key o) (key p) → is_gt r ≡ stands_before p o
by_key_greater r o p is = ap is_gt (is ∙ key_total.antisymm (key o) (key p)) ∙ less_reversed (key_cmp (key p) (key o)) ∙ key_less p o

pub aborts_by_key : (a b : Name) → name_cmp a b ≡ key_cmp (key (Aborted a)) (key (Aborted b))
aborts_by_key a b = sym (then_equal (name_cmp a b))

pub before_is_order : IsStrictWeakOrder stands_before
before_is_order = subst (λ (lt : Outcome → Outcome → Bool). IsStrictWeakOrder lt) (λ i o p. key_less o p i) (ranks_by key_total key)
