-- What is new among the first names of a list comes after those that are known.
use Rattle.std.proofs.Common.{◌≡◌, ◌≤◌, if◌then◌else◌, ℕ, min, Bool, true, not, List, [], ◌∷◌, ◌++◌, filter, take, drop, refl, sym, ap, ◌∙◌, arith}
use Rattle.std.specs.Prelude.{slice_range}
use Rattle.std.specs.List.{list_any}
use Rattle.std.proofs.lemmas.Bool.{or_left, or_right}
use Rattle.std.proofs.lemmas.List.{take-append-drop, take-take}
use Rattle.std.proofs.lemmas.List.Elements.{filter-append}
use Rattle.std.proofs.lemmas.List.Folds.{list_any-append}
use Rattle.std.proofs.lemmas.Slice.{between_is}
use Rattle.cam_names.specs.declared.name.Name.{Name}
use Rattle.cam_names.specs.Names.{name_eq}
use Rattle.cam_names.proofs.Names.{name_eq_refl}

-- none of the names is new if each is known
none_new :
    (known : Name → Bool) (names : List Name)
    → ((a : Name) → list_any (name_eq a) names ≡ true → known a ≡ true)
    → filter (λ a. not (known a)) names ≡ []
none_new known [] all = refl
none_new known (b ∷ names) all =
    let rest : List Name = filter (λ a. not (known a)) names in
    let here : known b ≡ true =
    all b (or_left (name_eq b b) (list_any (name_eq b) names) (name_eq_refl b)) in
    ap (λ (k : Bool). if not k then b ∷ rest else rest) here
    ∙ none_new known names
    (λ a there. all a (or_right (name_eq a b) (list_any (name_eq a) names) there))

-- what is among the first so many is among all
any_first :
    (p : Name → Bool) (n : ℕ) (names : List Name)
    → list_any p (take n names) ≡ true → list_any p names ≡ true
any_first p n names there =
    ap (list_any p) (sym (take-append-drop n names))
    ∙ list_any-append p (take n names) (drop n names)
    ∙ or_left (list_any p (take n names)) (list_any p (drop n names)) there

-- What is new among the first so many names, some of which were heard, comes after those.
pub left_new :
    (known : Name → Bool) (names : List Name) (heard brought : ℕ)
    → ((a : Name) → list_any (name_eq a) (take heard names) ≡ true → known a ≡ true)
    → filter (λ a. not (known a)) (slice_range names (min heard brought) brought)
    ≡ filter (λ a. not (known a)) (take brought names)
left_new known names heard brought all =
    ap (filter new) (between_is names low brought)
    ∙ sym (ap (filter new) (sym (take-append-drop low all_brought))
    ∙ filter-append new (take low all_brought) (drop low all_brought)
    ∙ ap (λ (xs : List Name). xs ++ filter new (drop low all_brought)) none)
  where
    new : Name → Bool
    new a = not (known a)

    low : ℕ
    low = min heard brought

    all_brought : List Name
    all_brought = take brought names

    less : low ≤ brought
    less = omega arith

    fewer : low ≤ heard
    fewer = omega arith

    were : (a : Name) → list_any (name_eq a) (take low names) ≡ true → known a ≡ true
    were a there =
        all a (any_first (name_eq a) low (take heard names)
        (ap (list_any (name_eq a)) (take-take low heard names fewer) ∙ there))

    none : filter new (take low all_brought) ≡ []
    none =
        ap (filter new) (take-take low brought names less) ∙ none_new known (take low names) were
