-- Sizes of bodies, kept up to the first that are too many.
use Rattle.std.proofs.Common.{◌≡◌, ◌≤◌, ◌<◌, ◌⊎◌, inl, inr, true, false, ℕ, zero, suc, ◌+◌, ◌*◌, List, [], ◌∷◌, ◌++◌, Some, None, length, take, get_or, refl, sym, ap, subst, add-one, ◌∙◌, arith}
use Rattle.std.proofs.lemmas.List.{take_more}
use Rattle.std.specs.Prelude.{min, max, nat_le, nat_lt, map, slice_get}
use Rattle.cam_script.specs.declared.Statement.{Statement}
use Rattle.cam_script.specs.declared.Statement.TheVariants as statements
use Rattle.cam_script.specs.SoFar.{Size, cost_of, nesting_of}
use Rattle.cam_script.specs.Order.{closes, is_closed}
use Rattle.cam_script.specs.Law.{sizes_behind}
use Rattle.cam_script.specs.BodyTable.{Bodies, capped, size_of, weight, depth, size_with, size_at, with_body_written}
use Rattle.cam_script.proofs.Appended.{sizes_more, closed_more}

-- The size at a place among the kept ones.
pub size_found : (all : List Size) (i : ℕ) (z : Size) → Some z ≡ slice_get (map capped all) i → z ≡ capped (size_at all i)
size_found [] i z e = absurd (grind (arith, e))
size_found (x ∷ xs) zero z e = cc
size_found (x ∷ xs) (suc i) z e = size_found xs i z e

pub size_missing : (all : List Size) (i : ℕ) → None ≡ slice_get (map capped all) i → record { cost = 0; nesting = 0 } ≡ capped (size_at all i)
size_missing [] zero e = refl
size_missing [] (suc i) e = refl
size_missing (x ∷ xs) zero e = absurd (grind (arith, e))
size_missing (x ∷ xs) (suc i) e = size_missing xs i e

-- One statement more.
cost_more : (sizes : List Size) (ss : List Statement) (s : Statement) → cost_of sizes (ss ++ s ∷ []) ≡ cost_of sizes ss + weight sizes s
cost_more sizes [] (statements.Call tries object op) = omega arith
cost_more sizes [] (statements.Child tries node body) = omega arith
cost_more sizes [] (statements.Commit e) = refl
cost_more sizes [] statements.Abort = refl
cost_more sizes (statements.Call tries object op ∷ ss) s = omega (arith, cost_more sizes ss s)
cost_more sizes (statements.Child tries node body ∷ ss) s = omega (arith, cost_more sizes ss s)
cost_more sizes (statements.Commit e ∷ ss) s = cost_more sizes ss s
cost_more sizes (statements.Abort ∷ ss) s = cost_more sizes ss s

nesting_more : (sizes : List Size) (ss : List Statement) (s : Statement) → nesting_of sizes (ss ++ s ∷ []) ≡ max (nesting_of sizes ss) (depth sizes s)
nesting_more sizes [] (statements.Call tries object op) = refl
nesting_more sizes [] (statements.Child tries node body) = omega arith
nesting_more sizes [] (statements.Commit e) = refl
nesting_more sizes [] statements.Abort = refl
nesting_more sizes (statements.Call tries object op ∷ ss) s = nesting_more sizes ss s
nesting_more sizes (statements.Child tries node body ∷ ss) s = omega (arith, nesting_more sizes ss s)
nesting_more sizes (statements.Commit e ∷ ss) s = nesting_more sizes ss s
nesting_more sizes (statements.Abort ∷ ss) s = nesting_more sizes ss s

size_more : (sizes : List Size) (ss : List Statement) (s : Statement) → size_of sizes (ss ++ s ∷ []) ≡ size_with sizes (size_of sizes ss) s
size_more sizes ss s = ap (λ c. record { cost = c; nesting = nesting_of sizes (ss ++ s ∷ []) }) (cost_more sizes ss s) ∙ ap (λ n. record { cost = cost_of sizes ss + weight sizes s; nesting = n }) (nesting_more sizes ss s)

pub one_more : (sizes : List Size) (ss : List Statement) (i : ℕ) (s : Statement) → i < length ss → capped (size_with sizes (size_of sizes (take i ss)) (get_or ss i s)) ≡ capped (size_of sizes (take (i + 1) ss))
one_more sizes ss i s below = ap capped (sym (ap (size_of sizes) (take_more ss i s below) ∙ size_more sizes (take i ss) (get_or ss i s)))

-- A sum is too much where its kept parts are.
pub sum_capped : (c w : ℕ) → min (min c 513 + w) 513 ≡ min (c + w) 513
sum_capped c w = omega arith

tries_of_few : (c t k : ℕ) → k ≤ 513 → min (min c 513 + t * (1 + min k 513)) 513 ≡ min (c + t * (1 + k)) 513
tries_of_few c t k h = let e : min k 513 ≡ k = omega arith in ap (λ k. min (min c 513 + t * (1 + k)) 513) e ∙ sum_capped c (t * (1 + k))

both_over : (a b : ℕ) → 513 ≤ a → 513 ≤ b → min a 513 ≡ min b 513
both_over a b h k = omega arith

tries_of_many : (c t k : ℕ) → 513 ≤ k → min (min c 513 + (t + 1) * (1 + min k 513)) 513 ≡ min (c + (t + 1) * (1 + k)) 513
tries_of_many c t k h =
    let e : min k 513 ≡ 513 = omega arith in
    ap (λ k. min (min c 513 + (t + 1) * (1 + k)) 513) e ∙ both_over (min c 513 + (t + 1) * (1 + 513)) (c + (t + 1) * (1 + k)) (omega arith) (omega (arith, h))

tries_by : (c t k : ℕ) → (k ≤ 513) ⊎ (513 ≤ k) → min (min c 513 + t * (1 + min k 513)) 513 ≡ min (c + t * (1 + k)) 513
tries_by c t k (inl few) = tries_of_few c t k few
tries_by c zero k (inr many) = omega arith
tries_by c (suc t) k (inr many) = subst (λ n. min (min c 513 + n * (1 + min k 513)) 513 ≡ min (c + n * (1 + k)) 513) (add-one t) (tries_of_many c t k many)

few_or_many : (k : ℕ) → (k ≤ 513) ⊎ (513 ≤ k)
few_or_many k = elim (nat_le k 513) as (λ b. nat_le k 513 ≡ b → (k ≤ 513) ⊎ (513 ≤ k)) [ true ↦ λ e. inl (grind (arith, e)) | false ↦ λ e. inr (grind (arith, e)) ] refl

pub tries_capped : (c t k : ℕ) → min (min c 513 + t * (1 + min k 513)) 513 ≡ min (c + t * (1 + k)) 513
tries_capped c t k = tries_by c t k (few_or_many k)

pub depth_capped : (n k : ℕ) → min (max (min n 9) (min (min k 9 + 1) 255)) 9 ≡ min (max n (1 + k)) 9
depth_capped n k = omega arith

-- Whether a start is one step too many is the same by the kept cost, and so is whether a child nests too deep.
pub start_full : (spent cost : ℕ) → nat_lt 512 (spent + 1 + min cost 513) ≡ nat_lt 512 (spent + (1 + cost))
start_full spent cost = grind arith

pub child_deep : (nesting : ℕ) → nat_le 8 (min nesting 9) ≡ nat_le 8 nesting
child_deep nesting = grind arith

pub child_with : (all : List Size) (exact : Size) (tries node body : ℕ) (size child : Size) (cost nesting : ℕ) → size ≡ capped exact → child ≡ capped (size_at all body) → cost ≡ min (size.cost + tries * (1 + child.cost)) 513 → nesting ≡ min (max size.nesting (min (child.nesting + 1) 255)) 9 → record { cost = cost; nesting = nesting } ≡ capped (size_with all exact (statements.Child tries node body))
child_with all exact tries node body size child cost nesting is_size is_child is_cost is_nesting =
    let z : Size = size_at all body in
    let costs : cost ≡ min (exact.cost + tries * (1 + z.cost)) 513 =
    is_cost
    ∙ ap (λ (s : Size). min (s.cost + tries * (1 + child.cost)) 513) is_size
    ∙ ap (λ (s : Size). min (min exact.cost 513 + tries * (1 + s.cost)) 513) is_child
    ∙ tries_capped exact.cost tries z.cost in
    let nests : nesting ≡ min (max exact.nesting (1 + z.nesting)) 9 =
    is_nesting
    ∙ ap (λ (s : Size). min (max s.nesting (min (child.nesting + 1) 255)) 9) is_size
    ∙ ap (λ (s : Size). min (max (min exact.nesting 9) (min (s.nesting + 1) 255)) 9) is_child
    ∙ depth_capped exact.nesting z.nesting in
    ap (λ c. record { cost = c; nesting = nesting }) costs ∙ ap (λ n. record { cost = min (exact.cost + tries * (1 + z.cost)) 513; nesting = n }) nests

-- A body is closed where its last statement closes it.
pub closed_last : (ss front : List Statement) (last : Statement) → ss ≡ front ++ last ∷ [] → closes last ≡ is_closed ss
closed_last ss front last e = sym (ap is_closed e ∙ closed_more front last)

pub none_closed : (ss : List Statement) → length ss ≡ 0 → false ≡ is_closed ss
none_closed [] e = refl
none_closed (s ∷ ss) e = absurd (omega (arith, e))

map_append : (xs ys : List Size) → map capped (xs ++ ys) ≡ map capped xs ++ map capped ys
map_append [] ys = refl
map_append (x ∷ xs) ys = ap (λ zs. capped x ∷ zs) (map_append xs ys)

-- After the `end` of a body its size is kept beside the others.
pub kept_more : (bodies more : List (List Statement)) (ss : List Statement) (kept items : List Size) (z : Size) → kept ≡ map capped (sizes_behind [] bodies) → items ≡ kept ++ z ∷ [] → z ≡ capped (size_of (sizes_behind [] bodies) ss) → more ≡ bodies ++ ss ∷ [] → items ≡ map capped (sizes_behind [] more)
kept_more bodies more ss kept items z before longer size one_more =
    longer
    ∙ ap (λ zs. zs ++ z ∷ []) before
    ∙ ap (λ y. map capped (sizes_behind [] bodies) ++ y ∷ []) size
    ∙ sym (map_append (sizes_behind [] bodies) (size_of (sizes_behind [] bodies) ss ∷ []))
    ∙ ap (map capped) (sym (sizes_more [] bodies ss))
    ∙ ap (λ bs. map capped (sizes_behind [] bs)) (sym one_more)

abbrev bodies_of : List (List ℕ) → List (List Statement) → List Size → Bodies
bodies_of names bodies sizes = record { names = names; bodies = bodies; sizes = sizes }

pub written : (names names' : List (List ℕ)) (bodies more : List (List Statement)) (name : List ℕ) (ss : List Statement) → names' ≡ names ++ name ∷ [] → more ≡ bodies ++ ss ∷ [] → record { names = names'; bodies = more; sizes = sizes_behind [] more } ≡ with_body_written (record { names = names; bodies = bodies; sizes = sizes_behind [] bodies }) (record { name = name; statements = ss })
written names names' bodies more name ss e k =
    ap (λ ns. bodies_of ns more (sizes_behind [] more)) e
    ∙ ap (λ bs. bodies_of (names ++ name ∷ []) bs (sizes_behind [] bs)) k
    ∙ ap (λ zs. bodies_of (names ++ name ∷ []) (bodies ++ ss ∷ []) zs) (sizes_more [] bodies ss)
