-- A list that replays goes on replaying when its operations are put in groups by family, one group after another.
use Rattle.std.proofs.Common.{◌≡◌, inl, inr, Bool, true, false, ◌&&◌, List, [], ◌∷◌, Some, None, refl, sym, ◌∙◌, subst, ℕ, not, ◌++◌, filter, Option, slice_get}
use Rattle.std.proofs.lemmas.Bool.{cases_Bool, true≢false, not-true}
use Rattle.std.specs.List.{flat_map}
use Rattle.std.specs.Option.{option_map_or}
use Rattle.cam_names.proofs.Names.{name_eq_same, name_eq_refl}
use Rattle.cam_names.specs.Names.{name_eq, family}
use Rattle.cam_names.specs.declared.name.Name.{Name}
use Rattle.cam_type.proofs.Commuting.{commuting}
use Rattle.cam_type.specs.Table.{kind_of, fits, mode_of, compatible}
use Rattle.cam_type.specs.declared.ObjectDecl.{ObjectDecl}
use Rattle.cam_type.specs.declared.Op.{Op}
use Rattle.cam_type.specs.declared.State.{State}
use Rattle.cam_type.specs.declared.State.TheVariants.{Register}
use Rattle.cam_event.proofs.Snoc.{filter_filter, filter_same}
use Rattle.cam_event.specs.Live.{is_fit, start_of}
use Rattle.cam_event.specs.declared.Operation.{Operation}
use Rattle.cam_names.proofs.Every.{Every, Pairs, pairs_weaker, pairs_filter}
use Rattle.cam_serial.proofs.Sequences.{Swaps, ReplaysFrom, OfKind, run, run_kind, pull, replays_parts, replays_append}

-- an op that fits an object fits the kind of its start state
fits_start : (objects : List ObjectDecl) (x : ℕ) (op : Op) → is_fit objects x op ≡ true → fits (kind_of (start_of objects x)) op ≡ true
fits_start objects x op h = at (slice_get objects x) h
  where
    at : (o : Option ObjectDecl) → option_map_or (λ d. fits (kind_of d.start) op) o false ≡ true → fits (kind_of (option_map_or (λ d. d.start) o (Register (Rattle.std.specs.Prelude.pos 0)))) op ≡ true
    at None e = cc
    at (Some d) e = e

-- Operations that fit and whose modes are compatible may change places: the law of the table.
pub compatible_swaps : (objects : List ObjectDecl) (o p : Operation) → is_fit objects o.object o.op ≡ true → is_fit objects p.object p.op ≡ true → compatible (mode_of o.op) (mode_of p.op) ≡ true → Swaps objects o p
compatible_swaps objects o p one other h same state kind =
    commuting state o.op p.op
    (subst (λ k. fits k o.op ≡ true) (sym kind) (fits_start objects o.object o.op one))
    (subst (λ k. fits k p.op ≡ true) (sym kind) (subst (λ x. fits (kind_of (start_of objects x)) p.op ≡ true) (sym same) (fits_start objects p.object p.op other)))
    h

-- whether an operation is of the family
abbrev pub in_family : Name → Operation → Bool
in_family f o = name_eq f (family o.action)

-- no name stands twice
abbrev pub Distinct : List Name → Type 0
Distinct [] = Unit {0}
Distinct (f ∷ fs) = Every (λ g. name_eq f g ≡ false) fs × Distinct fs

-- Where the family of the later of two operations comes first in the list, the two may change places.
abbrev pub FreeOrder : List ObjectDecl → List Name → Operation → Operation → Type 0
FreeOrder objects [] o p = Unit {0}
FreeOrder objects (f ∷ fs) o p = in_family f o ≡ false → (in_family f p ≡ true → Swaps objects o p) × FreeOrder objects fs o p

-- a test that fails
and_false : (b : Bool) → (b && false) ≡ false
and_false true = refl
and_false false = refl

-- a group is the same without the operations of another family
groups_without : (f : Name) (fs : List Name) (os : List Operation) → Every (λ g. name_eq f g ≡ false) fs → flat_map (λ g. filter (in_family g) (filter (λ o. not (in_family f o)) os)) fs ≡ flat_map (λ g. filter (in_family g) os) fs
groups_without f [] os h = refl
groups_without f (g ∷ fs) os h =
    λ i. (filter_filter (in_family g) (λ o. not (in_family f o)) os ∙ filter_same (λ o. not (in_family f o) && in_family g o) (in_family g) os other) i ++ groups_without f fs os h.1 i
  where
    other : (o : Operation) → (not (in_family f o) && in_family g o) ≡ in_family g o
    other o = elim (cases_Bool (in_family g o)) [
      | inl there ↦ elim (cases_Bool (in_family f o)) [
        | inl here ↦ absurd (true≢false (sym (subst (λ n. name_eq f n ≡ true) (name_eq_same f (family o.action) here ∙ sym (name_eq_same g (family o.action) there)) (name_eq_refl f)) ∙ h.0))
        | inr here ↦ rw here refl
      ]
      | inr there ↦ rw there (and_false (not (in_family f o)))
    ]

-- what replays in order of the history replays in groups
pub sorted : (objects : List ObjectDecl) (fs : List Name) (os : List Operation) (st : ℕ → State) → OfKind objects st → Distinct fs → Pairs (FreeOrder objects fs) os → ReplaysFrom st os → ReplaysFrom st (flat_map (λ f. filter (in_family f) os) fs)
sorted objects [] os st kinds distinct free r = tt
sorted objects (f ∷ fs) os st kinds distinct free r =
    let pulled : ReplaysFrom st (filter (in_family f) os ++ filter (λ o. not (in_family f o)) os) =
    pull objects (in_family f) os st kinds (pairs_weaker (FreeOrder objects (f ∷ fs)) (λ o p. in_family f o ≡ false → in_family f p ≡ true → Swaps objects o p) os (λ o p h here there. (h here).0 there) free) r in
    let parts = replays_parts (filter (in_family f) os) (filter (λ o. not (in_family f o)) os) st pulled in
    let rest = sorted objects fs (filter (λ o. not (in_family f o)) os) (run st (filter (in_family f) os)) (run_kind objects (filter (in_family f) os) st kinds) distinct.1
    (pairs_filter (λ o. not (in_family f o)) (FreeOrder objects fs) os
    (pairs_weaker (FreeOrder objects (f ∷ fs)) (λ o p. not (in_family f o) ≡ true → not (in_family f p) ≡ true → FreeOrder objects fs o p) os (λ o p h here there. (h (not-true (in_family f o) here)).1) free)) parts.1 in
    replays_append (filter (in_family f) os) (flat_map (λ g. filter (in_family g) os) fs) st parts.0
    (subst (λ (qs : List Operation). ReplaysFrom (run st (filter (in_family f) os)) qs) (groups_without f fs os distinct.0) rest)
