-- A set of names puts a name at its place.
use Rattle.std.proofs.Common.{◌≡◌, ◌<◌, ◌≤◌, ◌+◌, ◌-◌, if◌then◌else◌, ℕ, Bool, true, false, not, List, [], ◌∷◌, length, drop, get_or, filter, refl, sym, ap, ◌∙◌, arith}
use Rattle.std.proofs.lemmas.List.{drop_more}
use Rattle.std.specs.Ordering.{is_lt, is_eq, match_ordering}
use Rattle.std.specs.declared.cmp.Ordering.{Ordering}
use Rattle.std.specs.declared.cmp.Ordering.TheVariants.{Less, Equal, Greater}
use Rattle.std.specs.BTreeSet.{insert_key}
use Rattle.cam_names.specs.declared.name.Name.{Name}
use Rattle.cam_names.specs.Names.{name_cmp, name_lt}
use Rattle.cam_names.proofs.Names.{name_ties}
use Rattle.cam_event.specs.Rules.{put_name, sorted_names}

by_order : (o : Ordering) (a b : Name) (bs one other : List Name) → one ≡ other → match_ordering o (a ∷ b ∷ bs) (b ∷ bs) (b ∷ one) ≡ (if is_lt o then a ∷ b ∷ bs else if is_eq o then b ∷ bs else b ∷ other)
by_order Less a b bs one other e = refl
by_order Equal a b bs one other e = refl
by_order Greater a b bs one other e = ap (λ r. b ∷ r) e

pub insert_put : (bs : List Name) (a : Name) → insert_key name_cmp bs a ≡ put_name a bs
insert_put [] a = refl
insert_put (b ∷ bs) a =
    by_order (name_cmp a b) a b bs (insert_key name_cmp bs a) (put_name a bs) (insert_put bs a)
    ∙ ap (λ t. if name_lt a b then a ∷ b ∷ bs else if t then b ∷ bs else b ∷ put_name a bs) (sym (name_ties a b))

-- a name that is new, and one that is known
pub new_name : (known : Name → Bool) (a : Name) (more old new : List Name) → known a ≡ false → new ≡ insert_key name_cmp old a
    → old ≡ sorted_names (filter (λ b. not (known b)) more) → new ≡ sorted_names (filter (λ b. not (known b)) (a ∷ more))
new_name known a more old new none put was =
    put ∙ insert_put old a ∙ ap (put_name a) was
    ∙ sym (ap (λ (k : Bool). sorted_names (if not k then a ∷ filter (λ b. not (known b)) more else filter (λ b. not (known b)) more)) none)

pub known_name : (known : Name → Bool) (a : Name) (more old : List Name) → known a ≡ true
    → old ≡ sorted_names (filter (λ b. not (known b)) more) → old ≡ sorted_names (filter (λ b. not (known b)) (a ∷ more))
known_name known a more old is was =
    was ∙ sym (ap (λ (k : Bool). sorted_names (if not k then a ∷ filter (λ b. not (known b)) more else filter (λ b. not (known b)) more)) is)

-- from the place before, a list has the element there first
pub from_before : {X : Type 0} (xs : List X) (i : ℕ) (x : X) → 0 < i → i ≤ length xs → x ≡ get_or xs (i - 1) x → x ∷ drop i xs ≡ drop (i - 1) xs
from_before xs i x some less at =
    sym (drop_more xs (i - 1) x (omega (arith, some, less)) ∙ (λ k. sym at k ∷ drop (after k) xs))
  where
    after : i - 1 + 1 ≡ i
    after = omega (arith, some)
