-- With more commits a lift climbs on from where it was.
use Rattle.std.proofs.Common.{◌≡◌, ◌+◌, ◌≤◌, Bool, true, false, not, ◌||◌, if◌then◌else◌, cond, List, [], ◌∷◌, ◌++◌, length, map, reverse, Option, Some, None, refl, sym, ap, ◌∙◌, arith}
use Rattle.std.specs.Prelude.{option_and_then}
use Rattle.std.specs.Option.{option_or}
use Rattle.std.proofs.lemmas.List.Folds.{list_any-append}
use Rattle.cam_names.specs.Names.{name_eq, is_ancestor, ancestors}
use Rattle.cam_names.proofs.Names.{name_eq_sym, is_prefix_split}
use Rattle.cam_locks.specs.Names.{has_name, with_name}
use Rattle.cam_locks.specs.Moss.{lift_in}
use Rattle.cam_type.specs.Moss.{is_in_the_way}
use Rattle.cam_locks.proofs.Bools.{not_false}
use Rattle.cam_locks.proofs.Members.{find_no, find_none_all, found_in}
use Rattle.cam_locks.proofs.Lifts.{Name, of_reverse, as_prefix, behind, lift_on, in_map, ancestor_part, length_on, lift_ancestor, ancestor_through}

-- with more commits a lift climbs on from where it was
abbrev pub AtLeast : List Name → List Name → Type 0
AtLeast more less = (u : Name) → has_name less u ≡ true → has_name more u ≡ true

-- With more commits an action's lift is the lift of what it was.
pub lift_climbs : (less more : List Name) (a : Name) → AtLeast more less → lift_in more a ≡ option_and_then (lift_in more) (lift_in less a)
lift_climbs less more a at_least = by_lift (lift_in less a) refl
  where
    by_lift : (r : Option Name) → lift_in less a ≡ r → lift_in more a ≡ option_and_then (lift_in more) r
    by_lift None none =
        find_no (λ v. not (has_name more v)) (reverse (ancestors a))
        (λ v h. ap not (at_least v (not_false (has_name less v) (find_none_all (λ w. not (has_name less w)) (reverse (ancestors a)) none v h))))
    by_lift (Some u) is = climbs split.0 split.1
      where
        split : (w : Name) × (a ≡ u ++ w)
        split = is_prefix_split u a (as_prefix u a (lift_ancestor less a u is))

        climbs : (w : Name) → a ≡ u ++ w → lift_in more a ≡ lift_in more u
        climbs w e = ap (lift_in more) e ∙ lift_on more u w ∙ ap (λ (r : Option Name). option_or r (lift_in more u)) (nothing (behind less u w) refl)
          where
            is_on : option_or (behind less u w) (lift_in less u) ≡ Some u
            is_on = sym (lift_on less u w) ∙ ap (lift_in less) (sym e) ∙ is

            nothing : (r : Option Name) → behind less u w ≡ r → behind more u w ≡ None
            nothing None none =
                find_no (λ v. not (has_name more v)) (reverse (map (λ x. u ++ x) (ancestors w)))
                (λ v h. ap not (at_least v (not_false (has_name less v) (find_none_all (λ x. not (has_name less x)) (reverse (map (λ x. u ++ x) (ancestors w))) none v h))))
            nothing (Some v) found =
                let f = found_in (λ x. not (has_name less x)) (reverse (map (λ x. u ++ x) (ancestors w))) v found in
                let m = in_map u v (ancestors w) (of_reverse v (map (λ x. u ++ x) (ancestors w)) f.0) in
                let same : Some v ≡ Some u = ap (λ (r : Option Name). option_or r (lift_in less u)) (sym found) ∙ is_on in
                let equal : v ≡ u = cc in
                let longer : length v ≡ length u + length m.0 = ap (λ (x : Name). length x) m.2 ∙ length_on u m.0 in
                let part : 1 ≤ length m.0 = ancestor_part m.0 w m.1 in
                let as_long : length v ≡ length u = ap (λ (x : Name). length x) equal in
                absurd (omega arith)

-- one more name is among the names
pub with_name_more : (ns : List Name) (n : Name) → AtLeast (with_name ns n) ns
with_name_more ns n u h = by_test (has_name ns n)
  where
    by_test : (b : Bool) → has_name (cond b ns (ns ++ n ∷ [])) u ≡ true
    by_test true = h
    by_test false = list_any-append (name_eq u) ns (n ∷ []) ∙ ap (λ (b : Bool). b || has_name (n ∷ []) u) h

-- what stands not in the way before a commit stands not in the way after it
pub clear_stays : (less more : List Name) (a b : Name) → AtLeast more less → is_in_the_way b (lift_in less a) ≡ false → is_in_the_way b (lift_in more a) ≡ false
clear_stays less more a b at_least h = by_lift (lift_in less a) refl
  where
    by_lift : (r : Option Name) → lift_in less a ≡ r → is_in_the_way b (lift_in more a) ≡ false
    by_lift None none = ap (is_in_the_way b) (lift_climbs less more a at_least ∙ ap (option_and_then (lift_in more)) none)
    by_lift (Some u) is = higher (lift_in more u) refl
      where
        above : is_ancestor u b ≡ true
        above = not_false (is_ancestor u b) (ap (is_in_the_way b) (sym is) ∙ h)

        climbed : lift_in more a ≡ lift_in more u
        climbed = lift_climbs less more a at_least ∙ ap (option_and_then (lift_in more)) is

        higher : (r : Option Name) → lift_in more u ≡ r → is_in_the_way b (lift_in more a) ≡ false
        higher None none = ap (is_in_the_way b) (climbed ∙ none)
        higher (Some v) found = ap (is_in_the_way b) (climbed ∙ found) ∙ ap not (ancestor_through v u b (lift_ancestor more u v found) above)

-- one name more, as a table of hashes tells it
pub more_has : (ns : List Name) (n a : Name) → (if name_eq n a then true else has_name ns a) ≡ has_name (ns ++ n ∷ []) a
more_has ns n a =
    by_test (name_eq n a) (has_name ns a) ∙ ap (λ (b : Bool). has_name ns a || (b || false)) (name_eq_sym n a) ∙ sym (list_any-append (name_eq a) ns (n ∷ []))
  where
    by_test : (b h : Bool) → cond b true h ≡ (h || (b || false))
    by_test true true = refl
    by_test true false = refl
    by_test false true = refl
    by_test false false = refl
