-- The open children that tables have are those of the deeds, if each child was asked for by its parent.
use Rattle.std.proofs.Common.{◌≡◌, ◌⊎◌, inl, inr, Bool, true, false, not, ◌&&◌, ◌||◌, if◌then◌else◌, List, [], ◌∷◌, ◌++◌, filter, Option, Some, refl, sym, ap, ◌∙◌}
use Rattle.std.specs.List.{list_any}
use Rattle.std.specs.Option.{option_map_or}
use Rattle.std.proofs.lemmas.Bool.{true≢false}
use Rattle.std.proofs.lemmas.List.Folds.{list_any-append}
use Rattle.cam_names.specs.declared.name.Name.{Name}
use Rattle.cam_names.specs.Names.{name_eq, parent}
use Rattle.cam_names.proofs.Names.{name_eq_same, name_eq_refl}
use Rattle.cam_event.specs.declared.Deed.{Deed}
use Rattle.cam_event.specs.declared.Deed.TheVariants.{Create, Ask, Call, Perform, Bounce, Got, AskCommit, AskAbort, Commit, Abort, Secure, Inform, Crash}
use Rattle.cam_event.specs.History.{open_children, has_open_child, is_open_child, is_empty}
use Rattle.cam_event.proofs.Members.{In}
use Rattle.cam_own.specs.Children.{is_parent, without, open_of}
use Rattle.cam_timed.specs.Here.{AskedByParents}

or_none : (x : Bool) → (x || false) ≡ x
or_none true = refl
or_none false = refl

or_turned : (x y : Bool) → (x || y) ≡ (y || x)
or_turned true true = refl
or_turned true false = refl
or_turned false true = refl
or_turned false false = refl

-- what passes of what is left
any_left : (t p : Name → Bool) (xs : List Name) → list_any t (filter p xs) ≡ list_any (λ x. p x && t x) xs
any_left t p [] = refl
any_left t p (x ∷ xs) = by (p x) (any_left t p xs)
  where
    by : (b : Bool) → list_any t (filter p xs) ≡ list_any (λ x. p x && t x) xs → list_any t (if b then x ∷ filter p xs else filter p xs) ≡ ((b && t x) || list_any (λ x. p x && t x) xs)
    by true rest = ap (λ r. t x || r) rest
    by false rest = rest

in_left : (p : Name → Bool) (xs : List Name) (c : Name) → In c (filter p xs) → In c xs
in_left p [] c i = absurd i
in_left p (x ∷ xs) c i = by (p x) (in_left p xs c) i
  where
    by : (b : Bool) → (In c (filter p xs) → In c xs) → In c (if b then x ∷ filter p xs else filter p xs) → (c ≡ x) ⊎ In c xs
    by true rest (inl e) = inl e
    by true rest (inr r) = inr (rest r)
    by false rest r = inr (rest r)

all_left : (p : Name → Bool) (xs : List Name) → ((c : Name) → In c xs → p c ≡ true) → filter p xs ≡ xs
all_left p [] h = refl
all_left p (x ∷ xs) h = ap (λ b. if b then x ∷ filter p xs else filter p xs) (h x (inl refl)) ∙ ap (λ ys. x ∷ ys) (all_left p xs (λ c i. h c (inr i)))

-- an open child is one of its parent
of_parent : (L : List Deed) (a c : Name) → AskedByParents L → In c (open_children L a) → parent c ≡ Some a
of_parent [] a c asked i = absurd i
of_parent (Ask p b ∷ L) a c asked i = by (name_eq a p) refl (of_parent L a c asked.1) i
  where
    by : (t : Bool) → name_eq a p ≡ t → (In c (open_children L a) → parent c ≡ Some a) → In c (if t then b ∷ open_children L a else open_children L a) → parent c ≡ Some a
    by true same rest (inl e) = ap parent e ∙ asked.0 ∙ ap (λ x. Some x) (sym (name_eq_same a p same))
    by true same rest (inr r) = rest r
    by false other rest r = rest r
of_parent (Commit b ∷ L) a c asked i = of_parent L a c asked (in_left (λ x. not (name_eq b x)) (open_children L a) c i)
of_parent (Abort b ∷ L) a c asked i = of_parent L a c asked (in_left (λ x. not (name_eq b x)) (open_children L a) c i)
of_parent (Create b ∷ L) a c asked i = of_parent L a c asked i
of_parent (Call b n x op k ∷ L) a c asked i = of_parent L a c asked i
of_parent (Perform b n answer ∷ L) a c asked i = of_parent L a c asked i
of_parent (Bounce b n u ∷ L) a c asked i = of_parent L a c asked i
of_parent (Got b n seen ∷ L) a c asked i = of_parent L a c asked i
of_parent (AskCommit b v ∷ L) a c asked i = of_parent L a c asked i
of_parent (AskAbort b ∷ L) a c asked i = of_parent L a c asked i
of_parent (Secure f s k ∷ L) a c asked i = of_parent L a c asked i
of_parent (Inform s b o ∷ L) a c asked i = of_parent L a c asked i
of_parent (Crash s ∷ L) a c asked i = of_parent L a c asked i

-- a decision of what is no child of the action leaves its open children
others_stay : (L : List Deed) (a b : Name) → AskedByParents L → is_parent a b ≡ false → filter (λ c. not (name_eq b c)) (open_children L a) ≡ open_children L a
others_stay L a b asked other = all_left (λ c. not (name_eq b c)) (open_children L a) apart
  where
    apart : (c : Name) → In c (open_children L a) → not (name_eq b c) ≡ true
    apart c i = by (name_eq b c) refl
      where
        by : (t : Bool) → name_eq b c ≡ t → not t ≡ true
        by true same =
            let up : parent b ≡ Some a = ap parent (name_eq_same b c same) ∙ of_parent L a c asked i in
            absurd (true≢false (sym (ap (λ (o : Option Name). option_map_or (name_eq a) o false) up ∙ name_eq_refl a) ∙ other))
        by false apart = refl

decided : (L : List Deed) (a b : Name) (t : Name → Bool) → AskedByParents L → ((u : Name → Bool) → list_any u (open_of L a) ≡ list_any u (open_children L a))
    → list_any t (if is_parent a b then without b (open_of L a) else open_of L a) ≡ list_any t (filter (λ c. not (name_eq b c)) (open_children L a))
decided L a b t asked rest = by (is_parent a b) refl
  where
    by : (x : Bool) → is_parent a b ≡ x → list_any t (if x then without b (open_of L a) else open_of L a) ≡ list_any t (filter (λ c. not (name_eq b c)) (open_children L a))
    by true mine = any_left t (λ c. not (name_eq b c)) (open_of L a) ∙ rest (λ c. not (name_eq b c) && t c) ∙ sym (any_left t (λ c. not (name_eq b c)) (open_children L a))
    by false other = rest t ∙ ap (list_any t) (sym (others_stay L a b asked other))

-- so as many pass a test
pub open_any : (L : List Deed) (a : Name) → AskedByParents L → (t : Name → Bool) → list_any t (open_of L a) ≡ list_any t (open_children L a)
open_any [] a asked t = refl
open_any (Ask p b ∷ L) a asked t = by (name_eq a p) (open_any L a asked.1 t)
  where
    by : (x : Bool) → list_any t (open_of L a) ≡ list_any t (open_children L a) → list_any t (if x then open_of L a ++ b ∷ [] else open_of L a) ≡ list_any t (if x then b ∷ open_children L a else open_children L a)
    by true rest = list_any-append t (open_of L a) (b ∷ []) ∙ ap (λ r. r || (t b || false)) rest ∙ or_turned (list_any t (open_children L a)) (t b || false) ∙ ap (λ r. r || list_any t (open_children L a)) (or_none (t b))
    by false rest = rest
open_any (Commit b ∷ L) a asked t = decided L a b t asked (open_any L a asked)
open_any (Abort b ∷ L) a asked t = decided L a b t asked (open_any L a asked)
open_any (Create b ∷ L) a asked t = open_any L a asked t
open_any (Call b n x op k ∷ L) a asked t = open_any L a asked t
open_any (Perform b n answer ∷ L) a asked t = open_any L a asked t
open_any (Bounce b n u ∷ L) a asked t = open_any L a asked t
open_any (Got b n seen ∷ L) a asked t = open_any L a asked t
open_any (AskCommit b v ∷ L) a asked t = open_any L a asked t
open_any (AskAbort b ∷ L) a asked t = open_any L a asked t
open_any (Secure f s k ∷ L) a asked t = open_any L a asked t
open_any (Inform s b o ∷ L) a asked t = open_any L a asked t
open_any (Crash s ∷ L) a asked t = open_any L a asked t

pub one_open : (L : List Deed) (a b : Name) → AskedByParents L → list_any (name_eq b) (open_of L a) ≡ is_open_child L a b
one_open L a b asked = open_any L a asked (name_eq b)

pub some_open : (L : List Deed) (a : Name) → AskedByParents L → list_any (λ c. true) (open_of L a) ≡ has_open_child L a
some_open L a asked = open_any L a asked (λ c. true) ∙ by (open_children L a)
  where
    by : (xs : List Name) → list_any (λ c. true) xs ≡ not (is_empty xs)
    by [] = refl
    by (x ∷ xs) = refl
