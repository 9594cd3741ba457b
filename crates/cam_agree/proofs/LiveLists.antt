-- Lists of operations: filters and maps of what holds of each.
use Rattle.std.proofs.Common.{◌≡◌, cond, Bool, true, false, ◌||◌, List, [], ◌∷◌, ◌++◌, map, filter, refl, ap, ◌∙◌}
use Rattle.std.specs.Prelude.{flat_map, find, Some, option_map}
use Rattle.std.specs.List.{list_any}
use Rattle.std.proofs.lemmas.List.{map-append}
use Rattle.cam_names.proofs.Every.{Every, every_weaker, every_filter}

-- where two tests give the same of each element, they keep the same
pub filter_each : {X : Type 0} (p q : X → Bool) (xs : List X) → Every (λ x. p x ≡ q x) xs → filter p xs ≡ filter q xs
filter_each p q [] h = refl
filter_each {X} p q (x ∷ xs) h = λ i. cond (h.0 i) (x ∷ filter_each p q xs h.1 i) (filter_each p q xs h.1 i)

pub map_each : {X Y : Type 0} (f g : X → Y) (xs : List X) → Every (λ x. f x ≡ g x) xs → map f xs ≡ map g xs
map_each f g [] h = refl
map_each f g (x ∷ xs) h = λ i. h.0 i ∷ map_each f g xs h.1 i

pub flat_each : {X Y : Type 0} (f g : X → List Y) (xs : List X) → Every (λ x. f x ≡ g x) xs → flat_map f xs ≡ flat_map g xs
flat_each f g [] h = refl
flat_each f g (x ∷ xs) h = λ i. h.0 i ++ flat_each f g xs h.1 i

-- a filter of images
pub filter_map : {X Y : Type 0} (q : Y → Bool) (f : X → Y) (xs : List X) → filter q (map f xs) ≡ map f (filter (λ x. q (f x)) xs)
filter_map q f [] = refl
filter_map {X} {Y} q f (x ∷ xs) = elim (q (f x)) as (λ b. cond b (f x ∷ filter q (map f xs)) (filter q (map f xs)) ≡ map f (cond b (x ∷ filter (λ y. q (f y)) xs) (filter (λ y. q (f y)) xs))) [
  | true ↦ ap (λ (ys : List Y). f x ∷ ys) (filter_map q f xs)
  | false ↦ filter_map q f xs
]

pub map_map : {X Y Z : Type 0} (g : Y → Z) (f : X → Y) (xs : List X) → map g (map f xs) ≡ map (λ x. g (f x)) xs
map_map g f [] = refl
map_map g f (x ∷ xs) = ap (λ ys. g (f x) ∷ ys) (map_map g f xs)

pub map_flat : {X Y Z : Type 0} (g : Y → Z) (f : X → List Y) (xs : List X) → map g (flat_map f xs) ≡ flat_map (λ x. map g (f x)) xs
map_flat g f [] = refl
map_flat g f (x ∷ xs) = map-append g (f x) (flat_map f xs) ∙ ap (λ zs. map g (f x) ++ zs) (map_flat g f xs)

-- what holds of each element holds of each that a test keeps, and the test too
pub every_kept : {X : Type 0} (test : X → Bool) (P : X → Type 0) (xs : List X) → Every P xs → Every (λ x. P x × (test x ≡ true)) (filter test xs)
every_kept test P [] h = tt
every_kept test P (x ∷ xs) h = by (every_kept test P xs h.1) (test x) refl
  where
    by : Every (λ y. P y × (test y ≡ true)) (filter test xs) → (b : Bool) → test x ≡ b → Every (λ y. P y × (test y ≡ true)) (cond b (x ∷ filter test xs) (filter test xs))
    by ih true e = ((h.0, e), ih)
    by ih false e = ih

pub every_filtered : {X : Type 0} (test : X → Bool) (P : X → Type 0) (xs : List X) → Every P xs → Every P (filter test xs)
every_filtered test P xs h = every_filter test P xs (every_weaker P (λ x. test x ≡ true → P x) xs (λ x p e. p) h)

pub any_each : {X : Type 0} (p q : X → Bool) (xs : List X) → ((x : X) → p x ≡ q x) → list_any p xs ≡ list_any q xs
any_each p q [] h = refl
any_each p q (x ∷ xs) h = λ i. h x i || any_each p q xs h i

-- the first image that passes a test
pub find_map : {X Y : Type 0} (q : Y → Bool) (f : X → Y) (xs : List X) → find q (map f xs) ≡ option_map f (find (λ x. q (f x)) xs)
find_map q f [] = refl
find_map {X} {Y} q f (x ∷ xs) = elim (q (f x)) as (λ b. cond b (Some (f x)) (find q (map f xs)) ≡ option_map f (cond b (Some x) (find (λ y. q (f y)) xs))) [ true ↦ refl | false ↦ find_map q f xs ]

pub any_map : {X Y : Type 0} (q : Y → Bool) (f : X → Y) (xs : List X) → list_any q (map f xs) ≡ list_any (λ x. q (f x)) xs
any_map q f [] = refl
any_map q f (x ∷ xs) = ap (λ b. q (f x) || b) (any_map q f xs)
