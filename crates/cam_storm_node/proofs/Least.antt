-- The actions of a node that may have a request are gone over, in order of names, for the first that
-- has one.
use Rattle.std.proofs.Common.{◌≡◌, inl, inr, ℕ, true, false, ◌||◌, List, [], ◌∷◌}
use Rattle.std.proofs.Common.{Some, None, sym, ap, ◌∙◌, subst}
use Rattle.std.specs.Ordering.{is_eq, is_lt, ordering_reverse}
use Rattle.std.specs.declared.cmp.Ordering.TheVariants.{Less}
use Rattle.std.specs.BTreeMap.{is_at}
use Rattle.std.specs.List.{AllByRecursion, list_any}
use Rattle.std.specs.List.Sorted.{IsStrictlySortedBy}
use Rattle.std.proofs.lemmas.Bool.{cases_Bool}
use Rattle.cam_names.specs.declared.name.Name.{Name}
use Rattle.cam_names.specs.Names.{name_cmp, name_lt}
use Rattle.cam_names.proofs.Names.{name_eq_same, name_ties_back}
use Rattle.cam_names.proofs.Order.{name_lt_itself, name_total}
use Rattle.cam_event.specs.declared.Request.{Request}
use Rattle.cam_event.specs.declared.Want.{Want}
use Rattle.cam_event.specs.ByDeltas.{Received}
use Rattle.cam_gen.specs.Storms.{Words}
use Rattle.cam_storm.specs.Own.{OwnRequest}
use Rattle.cam_storm.specs.Core.{IsLeastDrive}

-- a key that is found is the one that was looked for
found_key : (a b : Name) → is_eq (name_cmp b a) ≡ true → a ≡ b
found_key a b is = name_eq_same a b (sym (name_ties_back a b) ∙ is)

-- those behind the first are in order
pub sorted_rest : (a : Name) (names : List Name) → IsStrictlySortedBy name_cmp (a ∷ names)
    → IsStrictlySortedBy name_cmp names
unfolding IsStrictlySortedBy
sorted_rest a names sorted = sorted.1

module _ (words : Words) (s : ℕ) (own : List Received) where
  -- Each action with a request is one of these.
  abbrev pub Remain : List Name → Type 0
  Remain names =
      (b : Name) (want : Want) → OwnRequest words s own b want
      → list_any (is_at (name_cmp b)) names ≡ true

  -- but for one that has none
  pub rest_remain : (a : Name) (names : List Name) → Remain (a ∷ names)
      → ((want : Want) → OwnRequest words s own a want → ⊥) → Remain names
  rest_remain a names all none b want request =
      elim (cases_Bool (is_eq (name_cmp b a))) [
        | inl is ↦
            absurd (none want
            (subst (λ (n : Name). OwnRequest words s own n want) (sym (found_key a b is)) request))
        | inr other ↦
            sym (ap (λ t. t || list_any (is_at (name_cmp b)) names) other) ∙ all b want request
      ]

  -- a name that is found among later ones is later
  later : (a b : Name) (names : List Name)
      → AllByRecursion (λ y. name_cmp a y ≡ Less) names
      → list_any (is_at (name_cmp b)) names ≡ true → name_lt b a ≡ false
  later a b [] all found = cc
  later a b (c ∷ names) all found =
      elim (cases_Bool (is_eq (name_cmp b c))) [
        | inl is ↦
            let less : name_cmp a b ≡ Less =
            subst (λ (n : Name). name_cmp a n ≡ Less) (found_key c b is) all.0 in
            ap is_lt (name_total.antisymm b a ∙ ap ordering_reverse less)
        | inr other ↦
            later a b names all.1
            (sym (ap (λ t. t || list_any (is_at (name_cmp b)) names) other) ∙ found)
      ]

  -- the first with a request is the least
  pub first_is_least : (a : Name) (names : List Name) → Remain (a ∷ names)
      → IsStrictlySortedBy name_cmp (a ∷ names) → (want : Want)
      → OwnRequest words s own a want → IsLeastDrive words s own (Some a)
  unfolding IsStrictlySortedBy
  first_is_least a names all sorted want request = (
    (want, request),
    λ b other has.
        elim (cases_Bool (is_eq (name_cmp b a))) [
          | inl is ↦
              subst (λ (n : Name). name_lt n a ≡ false) (found_key a b is) (name_lt_itself a)
          | inr apart ↦
              later a b names sorted.0
              (sym (ap (λ t. t || list_any (is_at (name_cmp b)) names) apart) ∙ all b other has)
        ],
  )

  -- where none remain, no action has one
  pub none_remain : Remain [] → IsLeastDrive words s own None
  none_remain all a want request = let e = all a want request in cc

  -- the request of the first is that of the least
  pub least_request : (a : Name) (names : List Name) → Remain (a ∷ names)
      → IsStrictlySortedBy name_cmp (a ∷ names) → (r : Request)
      → (r.action ≡ a) × OwnRequest words s own a r.want
      → IsLeastDrive words s own (Some r.action)
  least_request a names all sorted r is =
      subst (λ (n : Name). IsLeastDrive words s own (Some n)) (sym is.0)
      (first_is_least a names all sorted r.want is.1)
