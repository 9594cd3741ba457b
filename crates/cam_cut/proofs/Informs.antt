-- The first Informs of an event: they are legal, and behind them the node is informed of the outcomes of its base.
use Rattle.std.proofs.Common.{◌≡◌, inl, inr, cond, ℕ, eqb, Bool, true, false, ◌&&◌, ◌||◌, List, [], ◌∷◌, ◌++◌, map, filter, refl, sym, ap, ◌∙◌, subst}
use Rattle.std.specs.Prelude.{flat_map}
use Rattle.std.specs.List.{list_any}
use Rattle.std.proofs.Math.Bool.{or-false}
use Rattle.std.proofs.lemmas.Bool.{eq-eqb, false_from_ne_true}
use Rattle.std.proofs.lemmas.List.Folds.{list_any-append}
use Rattle.cam_names.specs.declared.name.Name.{Name}
use Rattle.cam_names.specs.Names.{name_eq, name_lt}
use Rattle.cam_names.proofs.Names.{name_eq_same, name_eq_refl}
use Rattle.cam_names.proofs.Order.{name_lt_other}
use Rattle.cam_event.proofs.Members.{In, in_any, in_append}
use Rattle.cam_event.proofs.SortedNames.{Rises, sorted_rises, sorted_any}
use Rattle.cam_type.specs.declared.ObjectDecl.{ObjectDecl}
use Rattle.cam_event.specs.declared.Deed.{Deed}
use Rattle.cam_event.specs.declared.Deed.TheVariants.{Commit, Abort, Inform}
use Rattle.cam_event.specs.History.{after, committed, aborted, informed, is_inform}
use Rattle.cam_event.specs.Rules.{sorted_names, informs}
use Rattle.cam_event.specs.ByPast.{abort_in, commit_in}
use Rattle.cam_plain.specs.Lines.{outcome_in}
use Rattle.cam_plain.specs.Legal.{Legal}
use Rattle.cam_cut.proofs.Lists.{in_image}

-- deeds in two parts
pub after_append : (L xs ys : List Deed) → after L (xs ++ ys) ≡ after (after L xs) ys
after_append L [] ys = refl
after_append L (x ∷ xs) ys = after_append (x ∷ L) xs ys

-- the first Informs are Informs at the node
pub record IsInformAt (s : ℕ) (d : Deed) : Type 0 where
  pub name : Name
  pub outcome : Bool
  pub is : d ≡ Inform s name outcome

-- each of them is
pub in_informs : (s : ℕ) (xs ys : List Name) (d : Deed) → In d (informs s xs ys) → IsInformAt s d
in_informs s xs ys d h = elim (in_append (map (λ a. Inform s a false) (sorted_names xs)) (map (λ a. Inform s a true) (sorted_names ys)) d h) [
  | inl l ↦ let found = in_image (λ a. Inform s a false) (sorted_names xs) d l in record { name = found.0; outcome = false; is = found.2 }
  | inr r ↦ let found = in_image (λ a. Inform s a true) (sorted_names ys) d r in record { name = found.0; outcome = true; is = found.2 }
]

-- a function of histories that no Inform changes has one value before and behind them
keep_map : {X : Type 0} (F : List Deed → X) → ((s : ℕ) (a : Name) (o : Bool) (L : List Deed) → F (Inform s a o ∷ L) ≡ F L) → (s : ℕ) (o : Bool) (names : List Name) (L : List Deed) → F (after L (map (λ a. Inform s a o) names)) ≡ F L
keep_map F same s o [] L = refl
keep_map F same s o (a ∷ names) L = keep_map F same s o names (Inform s a o ∷ L) ∙ same s a o L

-- so of all first Informs
pub keep_informs : {X : Type 0} (F : List Deed → X) → ((s : ℕ) (a : Name) (o : Bool) (L : List Deed) → F (Inform s a o ∷ L) ≡ F L) → (s : ℕ) (xs ys : List Name) (L : List Deed) → F (after L (informs s xs ys)) ≡ F L
keep_informs F same s xs ys L =
    ap F (after_append L (map (λ a. Inform s a false) (sorted_names xs)) (map (λ a. Inform s a true) (sorted_names ys)))
    ∙ keep_map F same s true (sorted_names ys) (after L (map (λ a. Inform s a false) (sorted_names xs)))
    ∙ keep_map F same s false (sorted_names xs) L

-- no Inform changes an outcome
pub keep_outcome : (a : Name) (o : Bool) (s : ℕ) (b : Name) (p : Bool) (L : List Deed) → outcome_in (Inform s b p ∷ L) a o ≡ outcome_in L a o
keep_outcome a true s b p L = refl
keep_outcome a false s b p L = refl

-- an Inform of another name changes not whether the node was informed of this one
other_name : (s : ℕ) (a b : Name) (o : Bool) (L : List Deed) → name_eq a b ≡ false → informed (Inform s b o ∷ L) s a o ≡ informed L s a o
other_name s a b true L h = ap (λ t. (eqb s s && t) || informed L s a true) h ∙ ap (λ t. t || informed L s a true) (nothing (eqb s s))
  where
    nothing : (t : Bool) → (t && false) ≡ false
    nothing true = refl
    nothing false = refl
other_name s a b false L h = ap (λ t. (eqb s s && t) || informed L s a false) h ∙ ap (λ t. t || informed L s a false) (nothing (eqb s s))
  where
    nothing : (t : Bool) → (t && false) ≡ false
    nothing true = refl
    nothing false = refl

-- nor does an Inform of the other outcome
other_outcome : (s : ℕ) (a : Name) (names : List Name) (L : List Deed) → informed (after L (map (λ b. Inform s b false) names)) s a true ≡ informed L s a true
other_outcome s a [] L = refl
other_outcome s a (b ∷ names) L = other_outcome s a names (Inform s b false ∷ L)

-- in a rising list a name is before each later one, and so another name
later : (a b : Name) (names : List Name) → Rises (a ∷ names) → In b names → name_lt a b ≡ true
later a b [] rises i = absurd i
later a b (c ∷ names) rises (inl same) = subst (λ x. name_lt a x ≡ true) (sym same) rises.0.0
later a b (c ∷ names) rises (inr i) = later a b names (rises.0.1, rises.1.1) i

later_other : (a b : Name) (names : List Name) → Rises (a ∷ names) → In b names → name_eq b a ≡ false
later_other a b names rises i = false_from_ne_true (name_eq b a) (λ same. name_lt_other a b (later a b names rises i) (sym (name_eq_same b a same)))

-- Informs of names that are decided, in rising order and new to the node, are legal
legal_map : (objects : List ObjectDecl) (s : ℕ) (o : Bool) (names : List Name) (L : List Deed) → Rises names → ((a : Name) → In a names → (outcome_in L a o ≡ true) × (informed L s a o ≡ false)) → Legal objects L → Legal objects (after L (map (λ a. Inform s a o) names))
legal_map objects s o [] L rises new legal = legal
legal_map objects s o (a ∷ names) L rises new legal =
    let here = new a (inl refl) in
    legal_map objects s o names (Inform s a o ∷ L) rises.1
    (λ b i. (keep_outcome b o s a o L ∙ (new b (inr i)).0, other_name s b a o L (later_other a b names rises i) ∙ (new b (inr i)).1))
    (record { decided = here.0; fresh = here.1 }, legal)

-- a name is found in a list that has it
in_name : (a : Name) (names : List Name) → In a names → list_any (name_eq a) names ≡ true
in_name a names i = in_any (name_eq a) names a i (name_eq_refl a)

-- so are the first Informs of names that were aborted, and committed, and of which the node was not informed
pub informs_legal : (objects : List ObjectDecl) (s : ℕ) (xs ys : List Name) (L : List Deed) → ((a : Name) → list_any (name_eq a) xs ≡ true → (aborted L a ≡ true) × (informed L s a false ≡ false)) → ((a : Name) → list_any (name_eq a) ys ≡ true → (committed L a ≡ true) × (informed L s a true ≡ false)) → Legal objects L → Legal objects (after L (informs s xs ys))
informs_legal objects s xs ys L one other legal =
    let first : List Deed = after L (map (λ a. Inform s a false) (sorted_names xs)) in
    subst (Legal objects) (sym (after_append L (map (λ a. Inform s a false) (sorted_names xs)) (map (λ a. Inform s a true) (sorted_names ys))))
    (legal_map objects s true (sorted_names ys) first (sorted_rises ys)
    (λ a i.
    let known = other a (sym (sorted_any (name_eq a) ys) ∙ in_name a (sorted_names ys) i) in
    (keep_map (λ M. outcome_in M a true) (λ r b p M. keep_outcome a true r b p M) s false (sorted_names xs) L ∙ known.0, other_outcome s a (sorted_names xs) L ∙ known.1))
    (legal_map objects s false (sorted_names xs) L (sorted_rises xs) (λ a i. one a (sym (sorted_any (name_eq a) xs) ∙ in_name a (sorted_names xs) i)) legal))

-- which names a node is informed of by them
map_same : (s : ℕ) (a : Name) (o : Bool) (names : List Name) → list_any (is_inform s a o) (map (λ b. Inform s b o) names) ≡ list_any (name_eq a) names
map_same s a o [] = refl
map_same s a true (b ∷ names) = λ i. (eq-eqb s s refl i && name_eq a b) || map_same s a true names i
map_same s a false (b ∷ names) = λ i. (eq-eqb s s refl i && name_eq a b) || map_same s a false names i

-- of none of the other outcome
map_other : (s : ℕ) (a : Name) (names : List Name) → (list_any (is_inform s a true) (map (λ b. Inform s b false) names) ≡ false) × (list_any (is_inform s a false) (map (λ b. Inform s b true) names) ≡ false)
map_other s a [] = (refl, refl)
map_other s a (b ∷ names) = map_other s a names

-- a name is among the first Informs where it is among the names
pub any_informs : (s : ℕ) (a : Name) (xs ys : List Name) → (list_any (is_inform s a false) (informs s xs ys) ≡ list_any (name_eq a) xs) × (list_any (is_inform s a true) (informs s xs ys) ≡ list_any (name_eq a) ys)
any_informs s a xs ys = (
  list_any-append (is_inform s a false) (map (λ b. Inform s b false) (sorted_names xs)) (map (λ b. Inform s b true) (sorted_names ys))
      ∙ (λ i. map_same s a false (sorted_names xs) i || (map_other s a (sorted_names ys)).1 i) ∙ or-false (list_any (name_eq a) (sorted_names xs)) ∙ sorted_any (name_eq a) xs,
  list_any-append (is_inform s a true) (map (λ b. Inform s b false) (sorted_names xs)) (map (λ b. Inform s b true) (sorted_names ys))
      ∙ (λ i. (map_other s a (sorted_names xs)).0 i || map_same s a true (sorted_names ys) i) ∙ sorted_any (name_eq a) ys,
)

-- the names that a history aborts, and commits
pub any_aborts : (a : Name) (L : List Deed) → list_any (name_eq a) (flat_map abort_in L) ≡ aborted L a
any_aborts a [] = refl
any_aborts a (Abort b ∷ L) = ap (λ r. name_eq a b || r) (any_aborts a L)
any_aborts a (_ ∷ L) = any_aborts a L

-- and that it commits
pub any_commits : (a : Name) (L : List Deed) → list_any (name_eq a) (flat_map commit_in L) ≡ committed L a
any_commits a [] = refl
any_commits a (Commit b ∷ L) = ap (λ r. name_eq a b || r) (any_commits a L)
any_commits a (_ ∷ L) = any_commits a L

-- a name is among those that pass where it is among all and passes
pub any_filter_name : (q : Name → Bool) (a : Name) (names : List Name) → list_any (name_eq a) (filter q names) ≡ (q a && list_any (name_eq a) names)
any_filter_name q a [] = nothing (q a)
  where
    nothing : (t : Bool) → false ≡ (t && false)
    nothing true = refl
    nothing false = refl
any_filter_name q a (b ∷ names) = by (q b) refl (name_eq a b) refl (any_filter_name q a names)
  where
    same : name_eq a b ≡ true → q b ≡ q a
    same e = ap q (sym (name_eq_same a b e))

    by : (t : Bool) → q b ≡ t → (e : Bool) → name_eq a b ≡ e → list_any (name_eq a) (filter q names) ≡ (q a && list_any (name_eq a) names) → list_any (name_eq a) (cond t (b ∷ filter q names) (filter q names)) ≡ (q a && (e || list_any (name_eq a) names))
    by true x true y rest = ap (λ z. z || list_any (name_eq a) (filter q names)) y ∙ sym (ap (λ z. z && true) (sym (same y) ∙ x))
    by true x false y rest = ap (λ z. z || list_any (name_eq a) (filter q names)) y ∙ rest
    by false x true y rest = rest ∙ ap (λ z. z && list_any (name_eq a) names) (sym (same y) ∙ x) ∙ sym (ap (λ z. z && true) (sym (same y) ∙ x))
    by false x false y rest = rest
