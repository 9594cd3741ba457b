-- In a legal history the open children of an action are those that it asked for, less those that are decided.
use Rattle.std.proofs.Common.{◌≡◌, inl, inr, ℕ, ◌+◌, ◌<◌, ◌≤◌, eqb, Bool, true, false, not, ◌||◌, if◌then◌else◌, List, [], ◌∷◌, length, filter, Option, Some, None, refl, sym, ap, ◌∙◌, subst, cond, arith}
use Rattle.std.specs.List.{list_any}
use Rattle.std.proofs.lemmas.Bool.{and_parts, cases_Bool, true≢false, or_cases, or_right, eq-eqb, ne_eqb}
use Rattle.cam_names.specs.declared.name.Name.{Name}
use Rattle.cam_names.specs.Names.{name_eq, is_child, parent, last_part}
use Rattle.cam_names.proofs.Names.{name_eq_same}
use Rattle.cam_names.proofs.Ancestry.{parent_is}
use Rattle.cam_names.proofs.Any.{any_weaker}
use Rattle.cam_names.proofs.Children.{is_some_name, child_of}
use Rattle.cam_type.specs.declared.ObjectDecl.{ObjectDecl}
use Rattle.cam_event.specs.declared.Deed.{Deed}
use Rattle.cam_event.specs.declared.Deed.TheVariants.{Create, Ask, AskCommit, Commit, Abort}
use Rattle.cam_event.specs.History.{created, asked, asked_commit, decided, asks, is_ask, is_empty, open_children, has_open_child}
use Rattle.cam_plain.specs.Legal.{Legal}
use Rattle.cam_plain.specs.Lines.{is_ask_for, asked_for, MayAbort}
use Rattle.cam_plain.specs.Actions.{decisions}
use Rattle.cam_plain.proofs.Decided.{child_open, created_child, for_asked}
use Rattle.cam_plain.proofs.Performed.{runs_created}

-- children of an action with numbers up to n, each once
abbrev Numbered : Name → ℕ → List Name → Type 0
Numbered a n [] = Unit {0}
Numbered a n (x ∷ xs) = (is_child a x ≡ true) × ((last_part x).number ≤ n) × (list_any (name_eq x) xs ≡ false) × Numbered a n xs

numbered_more : (a : Name) (n m : ℕ) (xs : List Name) → n ≤ m → Numbered a n xs → Numbered a m xs
numbered_more a n m [] more h = tt
numbered_more a n m (x ∷ xs) more h = (h.0, omega (arith, h.1, more), h.2, numbered_more a n m xs more h.3)

-- a name with a greater number is none of them
above : (a : Name) (n : ℕ) (xs : List Name) (b : Name) → Numbered a n xs → n < (last_part b).number → list_any (name_eq b) xs ≡ false
above a n [] b h more = refl
above a n (x ∷ xs) b h more = elim (cases_Bool (name_eq b x)) [
  | inl same ↦
      let number : (last_part b).number ≡ (last_part x).number = ap (λ c. (last_part c).number) (name_eq_same b x same) in
      absurd (omega (arith, number, h.1, more))
  | inr other ↦ ap (λ t. t || list_any (name_eq b) xs) other ∙ above a n xs b h.3 more
]

-- one of them is a child
is_one : (a : Name) (n : ℕ) (xs : List Name) (b : Name) → Numbered a n xs → list_any (name_eq b) xs ≡ true → is_child a b ≡ true
is_one a n [] b h found = cc
is_one a n (x ∷ xs) b h found = elim (or_cases (name_eq b x) (list_any (name_eq b) xs) found) [
  | inl same ↦ subst (λ c. is_child a c ≡ true) (sym (name_eq_same b x same)) h.0
  | inr later ↦ is_one a n xs b h.3 later
]

-- what is not in a list is not in a part of it
not_in_part : (b : Name) (test : Name → Bool) (xs : List Name) → list_any (name_eq b) xs ≡ false → list_any (name_eq b) (filter test xs) ≡ false
not_in_part b test [] h = refl
not_in_part b test (x ∷ xs) h = by (name_eq b x) (test x) refl h (not_in_part b test xs)
  where
    by : (s t : Bool) → name_eq b x ≡ s → (s || list_any (name_eq b) xs) ≡ false → (list_any (name_eq b) xs ≡ false → list_any (name_eq b) (filter test xs) ≡ false)
        → list_any (name_eq b) (cond t (x ∷ filter test xs) (filter test xs)) ≡ false
    by true t e g rest = absurd (true≢false g)
    by false true e g rest = ap (λ s. s || list_any (name_eq b) (filter test xs)) e ∙ rest g
    by false false e g rest = rest g

numbered_part : (a : Name) (n : ℕ) (test : Name → Bool) (xs : List Name) → Numbered a n xs → Numbered a n (filter test xs)
numbered_part a n test [] h = tt
numbered_part a n test (x ∷ xs) h = elim (test x) as (λ t. Numbered a n (cond t (x ∷ filter test xs) (filter test xs))) [
  | true ↦ (h.0, h.1, not_in_part x test xs h.2, numbered_part a n test xs h.3)
  | false ↦ numbered_part a n test xs h.3
]

open_numbered : (objects : List ObjectDecl) (L : List Deed) (a : Name) → Legal objects L → Numbered a (asks L a) (open_children L a)
open_numbered objects [] a legal = tt
open_numbered objects (Ask p b ∷ L) a legal = by (name_eq a p) refl (open_numbered objects L a legal.1)
  where
    by : (t : Bool) → name_eq a p ≡ t → Numbered a (asks L a) (open_children L a) → Numbered a (if t then asks L a + 1 else asks L a) (if t then b ∷ open_children L a else open_children L a)
    by false other rest = rest
    by true same rest =
        let number : (last_part b).number ≡ asks L a + 1 = legal.0.number ∙ ap (λ q. asks L q + 1) (sym (name_eq_same a p same)) in (
          subst (λ q. is_child q b ≡ true) (sym (name_eq_same a p same)) legal.0.child,
          omega (arith, number),
          above a (asks L a) (open_children L a) b rest (omega (arith, number)),
          numbered_more a (asks L a) (asks L a + 1) (open_children L a) (omega arith) rest,
        )
open_numbered objects (Commit b ∷ L) a legal = numbered_part a (asks L a) (λ c. not (name_eq b c)) (open_children L a) (open_numbered objects L a legal.1)
open_numbered objects (Abort b ∷ L) a legal = numbered_part a (asks L a) (λ c. not (name_eq b c)) (open_children L a) (open_numbered objects L a legal.1)
open_numbered objects (_ ∷ L) a legal = open_numbered objects L a legal.1

-- without what is not in it a list is as long, and without one that stands in it once one shorter
without_none : (b : Name) (xs : List Name) → list_any (name_eq b) xs ≡ false → length (filter (λ c. not (name_eq b c)) xs) ≡ length xs
without_none b [] h = refl
without_none b (x ∷ xs) h = by (name_eq b x) h (without_none b xs)
  where
    by : (t : Bool) → (t || list_any (name_eq b) xs) ≡ false → (list_any (name_eq b) xs ≡ false → length (filter (λ c. not (name_eq b c)) xs) ≡ length xs)
        → length (cond (not t) (x ∷ filter (λ c. not (name_eq b c)) xs) (filter (λ c. not (name_eq b c)) xs)) ≡ length (x ∷ xs)
    by true g tail = absurd (true≢false g)
    by false g tail = let rest : length (filter (λ c. not (name_eq b c)) xs) ≡ length xs = tail g in omega (arith, rest)

without_one : (a : Name) (n : ℕ) (b : Name) (xs : List Name) → Numbered a n xs → list_any (name_eq b) xs ≡ true
    → length (filter (λ c. not (name_eq b c)) xs) + 1 ≡ length xs
without_one a n b [] h found = cc
without_one a n b (x ∷ xs) h found = by (name_eq b x) refl found (without_one a n b xs h.3)
  where
    by : (t : Bool) → name_eq b x ≡ t → (t || list_any (name_eq b) xs) ≡ true
        → (list_any (name_eq b) xs ≡ true → length (filter (λ c. not (name_eq b c)) xs) + 1 ≡ length xs)
        → length (cond (not t) (x ∷ filter (λ c. not (name_eq b c)) xs) (filter (λ c. not (name_eq b c)) xs)) + 1 ≡ length (x ∷ xs)
    by true same g tail =
        let gone : list_any (name_eq b) xs ≡ false = subst (λ c. list_any (name_eq c) xs ≡ false) (sym (name_eq_same b x same)) h.2 in
        let rest : length (filter (λ c. not (name_eq b c)) xs) ≡ length xs = without_none b xs gone in
        omega (arith, rest)
    by false other g tail = let rest : length (filter (λ c. not (name_eq b c)) xs) + 1 ≡ length xs = tail g in omega (arith, rest)

-- an action that asked to commit was created
asked_created : (objects : List ObjectDecl) (L : List Deed) (b : Name) → Legal objects L → asked_commit L b ≡ true → created L b ≡ true
asked_created objects [] b legal h = cc
asked_created objects (AskCommit c v ∷ L) b legal h = elim (or_cases (name_eq b c) (asked_commit L b) h) [
  | inl same ↦ subst (λ q. created L q ≡ true) (sym (name_eq_same b c same)) (runs_created L c legal.0.running)
  | inr earlier ↦ asked_created objects L b legal.1 earlier
]
asked_created objects (Create c ∷ L) b legal h = or_right (name_eq b c) (created L b) (asked_created objects L b legal.1 h)
asked_created objects (_ ∷ L) b legal h = asked_created objects L b legal.1 h

-- the parent of a child
parent_of : (a b : Name) → 1 ≤ length a → is_child a b ≡ true → parent b ≡ Some a
parent_of a b named child = by (parent b) (sym (child_of a b named) ∙ child)
  where
    by : (o : Option Name) → is_some_name a o ≡ true → o ≡ Some a
    by None h = cc
    by (Some c) h = ap (λ x. Some x) (sym (name_eq_same a c h))

-- a child that is decided now was open
still_open : (objects : List ObjectDecl) (L : List Deed) (a b : Name) → Legal objects L → decided L b ≡ false → asked L a b ≡ true → list_any (name_eq b) (open_children L a) ≡ true
still_open objects L a b legal undecided was = elim (child_open objects L a b legal was) [
  | inl done ↦ absurd (true≢false (sym done ∙ undecided))
  | inr there ↦ there
]

-- one more decision of a child, or of another
one_decided : (objects : List ObjectDecl) (L : List Deed) (a b : Name) → Legal objects L → decided L b ≡ false → (is_child a b ≡ true → asked L a b ≡ true)
    → length (open_children L a) + decisions L a ≡ asks L a
    → length (filter (λ c. not (name_eq b c)) (open_children L a)) + (if is_child a b then decisions L a + 1 else decisions L a) ≡ asks L a
one_decided objects L a b legal undecided was so_far = by (is_child a b) refl
  where
    numbered : Numbered a (asks L a) (open_children L a)
    numbered = open_numbered objects L a legal

    by : (t : Bool) → is_child a b ≡ t → length (filter (λ c. not (name_eq b c)) (open_children L a)) + (if t then decisions L a + 1 else decisions L a) ≡ asks L a
    by true child =
        let fewer : length (filter (λ c. not (name_eq b c)) (open_children L a)) + 1 ≡ length (open_children L a) =
        without_one a (asks L a) b (open_children L a) numbered (still_open objects L a b legal undecided (was child)) in
        omega (arith, fewer, so_far)
    by false other =
        let absent : list_any (name_eq b) (open_children L a) ≡ false =
        elim (cases_Bool (list_any (name_eq b) (open_children L a))) [
          | inl found ↦ absurd (true≢false (sym (is_one a (asks L a) (open_children L a) b numbered found) ∙ other))
          | inr absent ↦ absent
        ] in
        let same : length (filter (λ c. not (name_eq b c)) (open_children L a)) ≡ length (open_children L a) = without_none b (open_children L a) absent in
        omega (arith, same, so_far)

open_counted : (objects : List ObjectDecl) (L : List Deed) (a : Name) → 1 ≤ length a → Legal objects L → length (open_children L a) + decisions L a ≡ asks L a
open_counted objects [] a named legal = refl
open_counted objects (Ask p b ∷ L) a named legal = by (name_eq a p) (open_counted objects L a named legal.1)
  where
    by : (t : Bool) → length (open_children L a) + decisions L a ≡ asks L a
        → length (if t then b ∷ open_children L a else open_children L a) + decisions L a ≡ (if t then asks L a + 1 else asks L a)
    by true so_far = omega (arith, so_far)
    by false so_far = so_far
open_counted objects (Commit b ∷ L) a named legal =
    one_decided objects L a b legal.1 legal.0.undecided
    (λ child. (created_child objects L b a legal.1 (parent_of a b named child) (asked_created objects L b legal.1 legal.0.asked)).0)
    (open_counted objects L a named legal.1)
open_counted objects (Abort b ∷ L) a named legal =
    one_decided objects L a b legal.1 legal.0.undecided
    (λ child. (subst (MayAbort L b) (parent_of a b named child) legal.0.may).1)
    (open_counted objects L a named legal.1)
open_counted objects (_ ∷ L) a named legal = open_counted objects L a named legal.1

-- A child is open where not all are decided.
pub open_kept : (objects : List ObjectDecl) (L : List Deed) (a : Name) → 1 ≤ length a → Legal objects L → not (eqb (asks L a) (decisions L a)) ≡ has_open_child L a
open_kept objects L a named legal = by (open_children L a) (open_counted objects L a named legal)
  where
    by : (xs : List Name) → length xs + decisions L a ≡ asks L a → not (eqb (asks L a) (decisions L a)) ≡ not (is_empty xs)
    by [] h = let same : asks L a ≡ decisions L a = omega (arith, h) in ap not (eq-eqb (asks L a) (decisions L a) same)
    by (x ∷ xs) h =
        let apart : asks L a ≡ decisions L a → ⊥ = λ (e : asks L a ≡ decisions L a). omega (arith, e, h) in
        ap not (ne_eqb (asks L a) (decisions L a) apart)

-- An action that was asked for was asked for by its parent.
ask_asks : (p b : Name) (d : Deed) → is_ask p b d ≡ true → is_ask_for b d ≡ true
ask_asks p b (Ask q c) h = (and_parts (name_eq p q) (name_eq b c) h).1
ask_asks p b _ h = cc

pub asked_by_parent : (objects : List ObjectDecl) (L : List Deed) (b p : Name) → Legal objects L → parent b ≡ Some p → asked_for L b ≡ asked L p b
asked_by_parent objects L b p legal is = elim (cases_Bool (asked_for L b)) [
  | inl there ↦ there ∙ sym (for_asked objects L p b legal (parent_is p b is).child there).0
  | inr none ↦ none ∙ sym (elim (cases_Bool (asked L p b)) [
    | inl found ↦ absurd (true≢false (sym (any_weaker (is_ask p b) (is_ask_for b) L (ask_asks p b) found) ∙ none))
    | inr absent ↦ absent
  ])
]
