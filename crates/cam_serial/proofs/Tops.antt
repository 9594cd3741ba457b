-- The committed top actions, in order of their Commits: which of two comes first.
use Rattle.std.proofs.Common.{◌≡◌, inl, inr, Bool, true, false, ◌&&◌, List, [], ◌∷◌, refl, sym, ◌∙◌, subst, ◌⊎◌, not, ◌++◌, if◌then◌else◌, ◌||◌}
use Rattle.std.proofs.lemmas.Bool.{and_parts, and_from, cases_Bool, true≢false, or_cases, or_left, or_right, or_parts, not_from_false}
use Rattle.std.specs.List.{list_any}
use Rattle.cam_names.proofs.Names.{name_eq_same, name_eq_refl, name_eq_sym}
use Rattle.cam_names.specs.Names.{name_eq, is_ancestor, family, is_top}
use Rattle.cam_names.specs.Part.{PartFields}
use Rattle.cam_names.specs.declared.name.Name.{Name}
use Rattle.cam_type.specs.declared.ObjectDecl.{ObjectDecl}
use Rattle.cam_event.specs.History.{aborted, committed}
use Rattle.cam_event.specs.declared.Deed.{Deed}
use Rattle.cam_event.specs.declared.Deed.TheVariants.{Commit}
use Rattle.cam_plain.specs.Legal.{Legal}
use Rattle.cam_names.proofs.Every.{every_append}
use Rattle.cam_serial.proofs.Sorting.{Distinct}
use Rattle.cam_serial.specs.Serial.{committed_tops}

-- f stands in the list, and no g before it
abbrev pub comes_first : Name → Name → List Name → Bool
comes_first f g [] = false
comes_first f g (h ∷ hs) = name_eq h f || (not (name_eq h g) && comes_first f g hs)

-- f stands in the list
abbrev pub stands_in : Name → List Name → Bool
stands_in f hs = list_any (λ h. name_eq h f) hs

-- names at the end change no order
pub comes_first_append : (f g : Name) (hs ks : List Name) → comes_first f g hs ≡ true → comes_first f g (hs ++ ks) ≡ true
comes_first_append f g [] ks e = cc
comes_first_append f g (h ∷ hs) ks e = elim (or_cases (name_eq h f) (not (name_eq h g) && comes_first f g hs) e) [
  | inl y ↦ or_left (name_eq h f) (not (name_eq h g) && comes_first f g (hs ++ ks)) y
  | inr r ↦
      let parts = and_parts (not (name_eq h g)) (comes_first f g hs) r in
      or_right (name_eq h f) (not (name_eq h g) && comes_first f g (hs ++ ks)) (and_from (not (name_eq h g)) (comes_first f g (hs ++ ks)) parts.0 (comes_first_append f g hs ks parts.1))
]

-- what stands in a list comes before what does not
pub comes_first_new : (f g : Name) (hs : List Name) → stands_in f hs ≡ true → stands_in g hs ≡ false → comes_first f g hs ≡ true
comes_first_new f g [] e n = cc
comes_first_new f g (h ∷ hs) e n =
    let none = or_parts (name_eq h g) (stands_in g hs) n in
    elim (or_cases (name_eq h f) (stands_in f hs) e) [
      | inl y ↦ or_left (name_eq h f) (not (name_eq h g) && comes_first f g hs) y
      | inr r ↦ or_right (name_eq h f) (not (name_eq h g) && comes_first f g hs) (and_from (not (name_eq h g)) (comes_first f g hs) (not_from_false (name_eq h g) none.0) (comes_first_new f g hs r none.1))
    ]

-- what stands in a list stands in a longer one
stands_left : (f : Name) (hs ks : List Name) → stands_in f hs ≡ true → stands_in f (hs ++ ks) ≡ true
stands_left f [] ks e = cc
stands_left f (h ∷ hs) ks e = elim (or_cases (name_eq h f) (stands_in f hs) e) [
  | inl y ↦ or_left (name_eq h f) (stands_in f (hs ++ ks)) y
  | inr r ↦ or_right (name_eq h f) (stands_in f (hs ++ ks)) (stands_left f hs ks r)
]

-- the last name stands in the list
stands_last : (f : Name) (hs : List Name) → stands_in f (hs ++ f ∷ []) ≡ true
stands_last f [] = or_left (name_eq f f) false (name_eq_refl f)
stands_last f (h ∷ hs) = or_right (name_eq h f) (stands_in f (hs ++ f ∷ [])) (stands_last f hs)

-- a committed top action is in the list of them
pub tops_have : (L : List Deed) (f : Name) → is_top f ≡ true → committed L f ≡ true → stands_in f (committed_tops L) ≡ true
tops_have [] f top e = cc
tops_have (Commit b ∷ L) f top e =
    elim (or_cases (name_eq f b) (committed L f) e) [
      | inl y ↦ subst (λ x. stands_in f (if is_top x then committed_tops L ++ x ∷ [] else committed_tops L) ≡ true) (name_eq_same f b y) (rw top (stands_last f (committed_tops L)))
      | inr r ↦ elim (is_top b) as (λ t. stands_in f (if t then committed_tops L ++ b ∷ [] else committed_tops L) ≡ true) [
        | true ↦ stands_left f (committed_tops L) (b ∷ []) (tops_have L f top r)
        | false ↦ tops_have L f top r
      ]
    ]
tops_have (_ ∷ L) f top e = tops_have L f top e

-- what stands in a longer list is the last name or stood there before
stands_cases : (f b : Name) (hs : List Name) → stands_in f (hs ++ b ∷ []) ≡ true → (stands_in f hs ≡ true) ⊎ (name_eq b f ≡ true)
stands_cases f b [] e = inr (by (name_eq b f) e)
  where
    by : (x : Bool) → (x || false) ≡ true → x ≡ true
    by true h = refl
    by false h = h
stands_cases f b (h ∷ hs) e = elim (or_cases (name_eq h f) (stands_in f (hs ++ b ∷ [])) e) [
  | inl y ↦ inl (or_left (name_eq h f) (stands_in f hs) y)
  | inr r ↦ elim (stands_cases f b hs r) [ inl i ↦ inl (or_right (name_eq h f) (stands_in f hs) i) | inr l ↦ inr l ]
]

-- and what is in it has committed
pub tops_committed : (L : List Deed) (f : Name) → stands_in f (committed_tops L) ≡ true → committed L f ≡ true
tops_committed [] f e = cc
tops_committed (Commit b ∷ L) f e =
    elim (is_top b) as (λ t. stands_in f (if t then committed_tops L ++ b ∷ [] else committed_tops L) ≡ true → (name_eq f b || committed L f) ≡ true) [
      | true ↦ λ h. elim (stands_cases f b (committed_tops L) h) [
        | inl i ↦ or_right (name_eq f b) (committed L f) (tops_committed L f i)
        | inr l ↦ or_left (name_eq f b) (committed L f) (name_eq_sym f b ∙ l)
      ]
      | false ↦ λ h. or_right (name_eq f b) (committed L f) (tops_committed L f h)
    ] e
tops_committed (_ ∷ L) f e = tops_committed L f e

-- what has not committed is not in the list
pub not_committed_not_in : (L : List Deed) (f : Name) → committed L f ≡ false → stands_in f (committed_tops L) ≡ false
not_committed_not_in L f n = elim (cases_Bool (stands_in f (committed_tops L))) [
  | inl y ↦ absurd (true≢false (sym (tops_committed L f y) ∙ n))
  | inr f ↦ f
]

-- one more name that is not in the list
distinct_push : (hs : List Name) (b : Name) → Distinct hs → stands_in b hs ≡ false → Distinct (hs ++ b ∷ [])
distinct_push [] b d n = (tt, tt)
distinct_push (h ∷ hs) b d n =
    let none = or_parts (name_eq h b) (stands_in b hs) n in
    (every_append (λ g. name_eq h g ≡ false) hs (b ∷ []) d.0 (none.0, tt), distinct_push hs b d.1 none.1)

-- no top action commits twice
pub tops_distinct : (objects : List ObjectDecl) (L : List Deed) → Legal objects L → Distinct (committed_tops L)
tops_distinct objects [] legal = tt
tops_distinct objects (Commit b ∷ L) legal =
    elim (is_top b) as (λ t. Distinct (if t then committed_tops L ++ b ∷ [] else committed_tops L)) [
      | true ↦ distinct_push (committed_tops L) b (tops_distinct objects L legal.1) (not_committed_not_in L b (or_parts (committed L b) (aborted L b) legal.0.undecided).0)
      | false ↦ tops_distinct objects L legal.1
    ]
tops_distinct objects (_ ∷ L) legal = tops_distinct objects L legal.1

-- nor is a family that has not committed among them
pub tops_and : (objects : List ObjectDecl) (L : List Deed) (f : Name) → Legal objects L → committed L f ≡ false → Distinct (committed_tops L ++ f ∷ [])
tops_and objects L f legal n = distinct_push (committed_tops L) f (tops_distinct objects L legal) (not_committed_not_in L f n)

-- the family of a named action is a top action
pub family_top : (u a : List PartFields) → is_ancestor u a ≡ true → is_top (family a) ≡ true
family_top [] a h = cc
family_top (p ∷ u) [] h = cc
family_top (p ∷ u) (q ∷ a) h = refl

-- names that are not equal differ
pub different : (f g : Name) → name_eq f g ≡ false → f ≡ g → ⊥
different f g n e = true≢false (sym (subst (λ x. name_eq f x ≡ true) e (name_eq_refl f)) ∙ n)
