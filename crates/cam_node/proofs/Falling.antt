-- Names in falling order, and one that is put among them.
use Rattle.std.proofs.Common.{◌≡◌, inl, inr, ℕ, zero, suc, ◌+◌, ◌-◌, ◌≤◌, ◌<◌, true, false, true≢false, List, [], ◌∷◌, ◌++◌, length, take, drop, reverse, get_or, refl, sym, ap, subst, ◌∙◌, arith}
use Rattle.std.proofs.lemmas.Bool.{cases_Bool}
use Rattle.std.proofs.lemmas.List.{append_assoc, reverse-append, drop_more, take-append-drop}
use Rattle.cam_base.proofs.Newest.{taken_back}
use Rattle.cam_names.specs.declared.name.Name.{Name}
use Rattle.cam_names.specs.Names.{name_eq, name_lt}
use Rattle.cam_names.proofs.Names.{name_eq_same, name_eq_refl}
use Rattle.cam_names.proofs.Order.{name_lt_trans, name_lt_itself, name_lt_other, name_three}
use Rattle.cam_event.specs.Rules.{put_name}

-- it comes behind one that is below it, stays where it is there, and comes before one that is above it
put_behind : (a b : Name) (bs : List Name) → name_lt b a ≡ true → put_name a (b ∷ bs) ≡ b ∷ put_name a bs
put_behind a b bs below =
    let not_less : name_lt a b ≡ false = (elim (cases_Bool (name_lt a b)) [
      | inl less ↦ absurd (true≢false (sym (name_lt_trans a b a less below) ∙ name_lt_itself a))
      | inr no' ↦ no'
    ]) in
    let other : name_eq a b ≡ false = (elim (cases_Bool (name_eq a b)) [
      | inl same ↦ absurd (name_lt_other b a below (sym (name_eq_same a b same)))
      | inr no' ↦ no'
    ]) in
    rw (not_less, other) refl

put_again : (a b : Name) (bs : List Name) → name_eq b a ≡ true → put_name a (b ∷ bs) ≡ b ∷ bs
put_again a b bs same =
    let is : b ≡ a = name_eq_same b a same in
    let not_less : name_lt a b ≡ false = subst (λ (x : Name). name_lt a x ≡ false) (sym is) (name_lt_itself a) in
    let equal : name_eq a b ≡ true = subst (λ (x : Name). name_eq x b ≡ true) is (subst (λ (x : Name). name_eq b x ≡ true) (sym is) same) in
    rw (not_less, equal) refl

put_before : (a b : Name) (bs : List Name) → name_lt b a ≡ false → name_eq b a ≡ false → put_name a (b ∷ bs) ≡ a ∷ b ∷ bs
put_before a b bs not_below other =
    elim (name_three a b) [
      | inl less ↦ rw less refl
      | inr rest ↦ elim rest [
        | inl below ↦ absurd (true≢false (sym below ∙ not_below))
        | inr same ↦ absurd (true≢false (sym (subst (λ (x : Name). name_eq b x ≡ true) (sym same) (name_eq_refl b)) ∙ other))
      ]
    ]

-- the names before a place, and behind it, with one that stands there
back_at : (names : List Name) (place : ℕ) (b : Name) → 0 < place → place ≤ length names → b ≡ get_or names (place - 1) b → reverse (take place names) ≡ b ∷ reverse (take (place - 1) names)
back_at names place b some within is =
    let e : place ≡ place - 1 + 1 = omega (arith, some) in
    ap (λ (n : ℕ). reverse (take n names)) e ∙ taken_back names (place - 1) b (omega (arith, some, within)) is

rest_at : (names : List Name) (place : ℕ) (b : Name) → 0 < place → place ≤ length names → b ≡ get_or names (place - 1) b → reverse (drop (place - 1) names) ≡ reverse (drop place names) ++ b ∷ []
rest_at names place b some within is =
    let e : place - 1 + 1 ≡ place = omega (arith, some) in
    ap reverse (drop_more names (place - 1) b (omega (arith, some, within)) ∙ (λ i. sym is i ∷ drop (e i) names)) ∙ reverse-append (b ∷ []) (drop place names)

abbrev pub Put : Name → List Name → ℕ → Type 0
Put a names place = put_name a (reverse names) ≡ reverse (drop place names) ++ put_name a (reverse (take place names))

-- the place goes down by one that is below the name
pub put_on : (a b : Name) (names : List Name) (place : ℕ) → 0 < place → place ≤ length names → b ≡ get_or names (place - 1) b → name_lt b a ≡ true → Put a names place → Put a names (place - 1)
put_on a b names place some within is below so_far =
    so_far
    ∙ ap (λ (xs : List Name). reverse (drop place names) ++ put_name a xs) (back_at names place b some within is)
    ∙ ap (λ (xs : List Name). reverse (drop place names) ++ xs) (put_behind a b (reverse (take (place - 1) names)) below)
    ∙ sym (append_assoc (reverse (drop place names)) (b ∷ []) (put_name a (reverse (take (place - 1) names))))
    ∙ ap (λ (xs : List Name). xs ++ put_name a (reverse (take (place - 1) names))) (sym (rest_at names place b some within is))

-- it is there
pub put_found : (a b : Name) (names : List Name) (place : ℕ) → 0 < place → place ≤ length names → b ≡ get_or names (place - 1) b → name_eq b a ≡ true → Put a names place → reverse names ≡ put_name a (reverse names)
put_found a b names place some within is same so_far =
    sym (so_far
    ∙ ap (λ (xs : List Name). reverse (drop place names) ++ put_name a xs) (back_at names place b some within is)
    ∙ ap (λ (xs : List Name). reverse (drop place names) ++ xs) (put_again a b (reverse (take (place - 1) names)) same)
    ∙ ap (λ (xs : List Name). reverse (drop place names) ++ xs) (sym (back_at names place b some within is))
    ∙ sym (reverse-append (take place names) (drop place names)) ∙ ap reverse (take-append-drop place names))

-- it is put in
with_it : (a : Name) (names : List Name) (place : ℕ) → reverse (take place names ++ a ∷ drop place names) ≡ reverse (drop place names) ++ a ∷ reverse (take place names)
with_it a names place =
    reverse-append (take place names) (a ∷ drop place names)
    ∙ ap (λ (xs : List Name). xs ++ reverse (take place names)) (reverse-append (a ∷ []) (drop place names))
    ∙ append_assoc (reverse (drop place names)) (a ∷ []) (reverse (take place names))

pub put_in : (a b : Name) (names : List Name) (place : ℕ) → 0 < place → place ≤ length names → b ≡ get_or names (place - 1) b → name_lt b a ≡ false → name_eq b a ≡ false → Put a names place
    → reverse (take place names ++ a ∷ drop place names) ≡ put_name a (reverse names)
put_in a b names place some within is not_below other so_far =
    with_it a names place
    ∙ ap (λ (xs : List Name). reverse (drop place names) ++ a ∷ xs) (back_at names place b some within is)
    ∙ sym (so_far
    ∙ ap (λ (xs : List Name). reverse (drop place names) ++ put_name a xs) (back_at names place b some within is)
    ∙ ap (λ (xs : List Name). reverse (drop place names) ++ xs) (put_before a b (reverse (take (place - 1) names)) not_below other))

pub put_last : (a : Name) (names : List Name) (place : ℕ) → place ≡ 0 → Put a names place → reverse (take place names ++ a ∷ drop place names) ≡ put_name a (reverse names)
put_last a names place none so_far =
    subst (λ (n : ℕ). Put a names n → reverse (take n names ++ a ∷ drop n names) ≡ put_name a (reverse names)) (sym none)
    (λ h. with_it a names 0 ∙ sym h) so_far

pub same_at : (names : List Name) (i : ℕ) (d e : Name) → i < length names → get_or names i d ≡ get_or names i e
same_at [] i d e within = absurd (omega (arith, within))
same_at (n ∷ names) zero d e within = refl
same_at (n ∷ names) (suc i) d e within = same_at names i d e (omega (arith, within))
