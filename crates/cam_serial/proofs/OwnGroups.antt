-- The groups of families, of operations that a test chose.
use Rattle.std.proofs.Common.{◌≡◌, Bool, true, false, ◌&&◌, List, [], ◌∷◌, refl, sym, ◌++◌, ◌||◌}
use Rattle.std.proofs.lemmas.Bool.{true≢false, or_parts}
use Rattle.std.specs.List.{flat_map}
use Rattle.cam_names.specs.Names.{name_eq}
use Rattle.cam_names.specs.declared.name.Name.{Name}
use Rattle.cam_names.proofs.Every.{Every}
use Rattle.cam_serial.proofs.Tops.{stands_in}

-- joined lists that are the same piece by piece
pub flat_map_same : {X Y : Type 0} (f g : X → List Y) (xs : List X) → Every (λ x. f x ≡ g x) xs → flat_map f xs ≡ flat_map g xs
flat_map_same f g [] h = refl
flat_map_same f g (x ∷ xs) h = λ i. h.0 i ++ flat_map_same f g xs h.1 i

-- a name that is not in a list differs from each in it
pub not_stands_every : (f : Name) (hs : List Name) → stands_in f hs ≡ false → Every (λ h. name_eq h f ≡ false) hs
not_stands_every f [] n = tt
not_stands_every f (h ∷ hs) n = let parts = or_parts (name_eq h f) (stands_in f hs) n in (parts.0, not_stands_every f hs parts.1)

-- in the group of a committed family, what an action may see is what has committed
pub committed_group_test : (c own up in_h : Bool) → (in_h ≡ true → own ≡ false) → ((c || (own && up)) && in_h) ≡ (in_h && c)
committed_group_test true own up true h = refl
committed_group_test true own up false h = refl
committed_group_test false true up true h = absurd (true≢false (h refl))
committed_group_test false true true false h = refl
committed_group_test false true false false h = refl
committed_group_test false false up true h = refl
committed_group_test false false up false h = refl

-- in its own group it is what has committed up to an ancestor of it
pub own_group_test : (c own up : Bool) → (c ≡ true → up ≡ true) → ((c || (own && up)) && own) ≡ (own && up)
own_group_test true true true h = refl
own_group_test true true false h = absurd (true≢false (sym (h refl)))
own_group_test true false up h = refl
own_group_test false true true h = refl
own_group_test false true false h = refl
own_group_test false false up h = refl
