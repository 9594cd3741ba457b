-- The bodies of a script that holds cost what their sizes say.
use Rattle.std.proofs.Common.{◌≡◌, ◌≤◌, ◌<◌, ℕ, zero, suc, ◌+◌, ◌*◌, true, ◌&&◌, List, [], ◌∷◌, ◌++◌, Some, length, refl, sym, ap, ap₂, subst, ◌∙◌, arith}
use Rattle.std.specs.Prelude.{nat_le, nat_lt, slice_get}
use Rattle.std.proofs.lemmas.Option.{same_Some}
use Rattle.cam_type.specs.declared.ObjectDecl.{ObjectDecl}
use Rattle.cam_script.specs.declared.Script.{Script}
use Rattle.cam_script.specs.declared.Statement.{Statement}
use Rattle.cam_script.specs.declared.Statement.TheVariants as statements
use Rattle.cam_script.specs.SoFar.{Size, cost_at, cost_of}
use Rattle.cam_script.specs.Law.{is_node, asks_rightly, is_whole_body, is_body, are_bodies, sizes_behind, sizes_of, IsScript}
use Rattle.cam_script.proofs.Appended.{left, right, one_longer}
use Rattle.cam_runs.proofs.Nesting.{size}
use Rattle.cam_runs.proofs.GivenBodies.{HasCosts}

-- One more size at the end changes none before, and stands there itself.
cost_before : (zs : List Size) (z : Size) (k : ℕ) → k < length zs
    → cost_at (zs ++ z ∷ []) k ≡ cost_at zs k
cost_before [] z k h = absurd (omega (arith, h))
cost_before (y ∷ zs) z zero h = refl
cost_before (y ∷ zs) z (suc k) h = cost_before zs z k (omega (arith, h))

cost_last : (zs : List Size) (z : Size) → cost_at (zs ++ z ∷ []) (length zs) ≡ z.cost
cost_last [] z = refl
cost_last (y ∷ zs) z = cost_last zs z

-- nor do those of further bodies
cost_behind : (zs : List Size) (bs : List (List Statement)) (k : ℕ) → k < length zs
    → cost_at (sizes_behind zs bs) k ≡ cost_at zs k
cost_behind zs [] k h = refl
cost_behind zs (b ∷ bs) k h =
    let longer = one_longer zs (size zs b) in
    cost_behind (zs ++ size zs b ∷ []) bs k (omega (arith, h, longer)) ∙ cost_before zs (size zs b) k h

lower : (a b : ℕ) → nat_lt a b ≡ true → a < b
lower a b h = grind (arith, h)

-- a body, by sizes that are the same for the bodies before it
whole_cost : (nodes : ℕ) (objects : List ObjectDecl) (full zs : List Size) (earlier : ℕ)
    (ss : List Statement) → ((k : ℕ) → k < length zs → cost_at full k ≡ cost_at zs k)
    → is_whole_body nodes objects (length zs) earlier ss ≡ true → cost_of full ss ≡ cost_of zs ss
whole_cost nodes objects full zs earlier [] same whole = refl
whole_cost nodes objects full zs earlier (statements.Call tries x op ∷ []) same whole = cc
whole_cost nodes objects full zs earlier (statements.Child tries node m ∷ []) same whole = cc
whole_cost nodes objects full zs earlier (statements.Commit e ∷ []) same whole = refl
whole_cost nodes objects full zs earlier (statements.Abort ∷ []) same whole = refl
whole_cost nodes objects full zs earlier (statements.Call tries x op ∷ t ∷ ss) same whole =
    ap (λ n. tries + n) (whole_cost nodes objects full zs (earlier + 1) (t ∷ ss) same
    (right (asks_rightly nodes objects (length zs) earlier (statements.Call tries x op))
    (is_whole_body nodes objects (length zs) (earlier + 1) (t ∷ ss)) whole))
whole_cost nodes objects full zs earlier (statements.Child tries node m ∷ t ∷ ss) same whole =
    let asks = left (asks_rightly nodes objects (length zs) earlier (statements.Child tries node m))
    (is_whole_body nodes objects (length zs) (earlier + 1) (t ∷ ss)) whole in
    let there = right (nat_le 1 tries && nat_le tries 9)
    (is_node nodes node && nat_lt m (length zs)) asks in
    ap₂ (λ c n. tries * (1 + c) + n)
    (same m (lower m (length zs) (right (is_node nodes node) (nat_lt m (length zs)) there)))
    (whole_cost nodes objects full zs (earlier + 1) (t ∷ ss) same
    (right (asks_rightly nodes objects (length zs) earlier (statements.Child tries node m))
    (is_whole_body nodes objects (length zs) (earlier + 1) (t ∷ ss)) whole))
whole_cost nodes objects full zs earlier (statements.Commit e ∷ t ∷ ss) same whole = cc
whole_cost nodes objects full zs earlier (statements.Abort ∷ t ∷ ss) same whole = cc

found_cost : (nodes : ℕ) (objects : List ObjectDecl) (zs : List Size)
    (bs : List (List Statement)) (b : ℕ) (body : List Statement)
    → are_bodies nodes objects (length zs) bs ≡ true → slice_get bs b ≡ Some body
    → cost_of (sizes_behind zs bs) body ≡ cost_at (sizes_behind zs bs) (length zs + b)
found_cost nodes objects zs [] b body hold at = cc
found_cost nodes objects zs (x ∷ bs) zero body hold at =
    let longer = one_longer zs (size zs x) in
    let is : x ≡ body = same_Some x body at in
    let here : length zs + 0 ≡ length zs = omega arith in
    let whole = left (is_whole_body nodes objects (length zs) 0 x) (nat_le (length x) 32)
    (left (is_body nodes objects (length zs) x) (are_bodies nodes objects (length zs + 1) bs) hold) in
    let full = sizes_behind zs (x ∷ bs) in
    ap (cost_of full) (sym is)
    ∙ whole_cost nodes objects full zs 0 x (λ k lower. cost_behind zs (x ∷ bs) k lower) whole
    ∙ sym (ap (cost_at full) here
    ∙ cost_behind (zs ++ size zs x ∷ []) bs (length zs) (omega (arith, longer))
    ∙ cost_last zs (size zs x))
found_cost nodes objects zs (x ∷ bs) (suc b) body hold at =
    let longer : length (zs ++ size zs x ∷ []) ≡ length zs + 1 = one_longer zs (size zs x) in
    let others : are_bodies nodes objects (length zs + 1) bs ≡ true =
    right (is_body nodes objects (length zs) x) (are_bodies nodes objects (length zs + 1) bs) hold in
    let shift : length (zs ++ size zs x ∷ []) + b ≡ length zs + suc b = omega (arith, longer) in
    found_cost nodes objects (zs ++ size zs x ∷ []) bs b body
    (subst (λ n. are_bodies nodes objects n bs ≡ true) (sym longer) others) at
    ∙ ap (cost_at (sizes_behind zs (x ∷ bs))) shift

-- THE LAW.
pub has_costs : (script : Script) → IsScript script → HasCosts (sizes_of script) script.bodies
has_costs script is m body at =
    let same = found_cost script.nodes script.objects [] script.bodies m body is.bodies_hold at in
    let none : 0 + m ≡ m = omega arith in
    most (cost_of (sizes_of script) body) (cost_at (sizes_of script) m)
    (same ∙ ap (cost_at (sizes_of script)) none)
  where
    most : (x y : ℕ) → x ≡ y → x ≤ y
    most x y h = omega (arith, h)
