-- The bodies of a script that holds nest at most as deep as their sizes say.
use Rattle.std.proofs.Common.{◌≡◌, ◌≤◌, ◌<◌, ℕ, zero, suc, ◌+◌, Bool, true, ◌&&◌, List, [], ◌∷◌, ◌++◌, Some, length, refl, sym, subst, ◌∙◌, arith}
use Rattle.std.specs.Prelude.{nat_le, nat_lt, max, slice_get, unwrap_or}
use Rattle.std.specs.List.{list_all}
use Rattle.cam_type.specs.declared.ObjectDecl.{ObjectDecl}
use Rattle.cam_script.specs.declared.Statement.{Statement}
use Rattle.cam_script.specs.declared.Statement.TheVariants as statements
use Rattle.cam_script.specs.SoFar.{Size, cost_of, nesting_at, nesting_of}
use Rattle.cam_script.specs.Law.{is_node, asks_rightly, closes_rightly, is_whole_body, is_body, are_bodies, sizes_behind}
use Rattle.cam_script.proofs.Appended.{left, right, one_longer}
use Rattle.cam_script.proofs.Holds.{both}
use Rattle.cam_runs.specs.InRange.{statement_nests, nests_within}

-- the size of a body behind others
abbrev pub size : List Size → List Statement → Size
size zs ss = record { cost = cost_of zs ss; nesting = nesting_of zs ss }

-- One more size at the end changes none before, and stands there itself.
at_before : (zs : List Size) (z : Size) (k : ℕ) → k < length zs → nesting_at (zs ++ z ∷ []) k ≡ nesting_at zs k
at_before [] z k h = absurd (omega (arith, h))
at_before (y ∷ zs) z zero h = refl
at_before (y ∷ zs) z (suc k) h = at_before zs z k (omega (arith, h))

at_last : (zs : List Size) (z : Size) → nesting_at (zs ++ z ∷ []) (length zs) ≡ z.nesting
at_last [] z = refl
at_last (y ∷ zs) z = at_last zs z

-- nor do those of further bodies
at_behind : (zs : List Size) (bs : List (List Statement)) (k : ℕ) → k < length zs → nesting_at (sizes_behind zs bs) k ≡ nesting_at zs k
at_behind zs [] k h = refl
at_behind zs (b ∷ bs) k h =
    let longer = one_longer zs (size zs b) in
    at_behind (zs ++ size zs b ∷ []) bs k (omega (arith, h, longer)) ∙ at_before zs (size zs b) k h

-- a body, with the sizes of those before it
pub record Found (nodes : ℕ) (objects : List ObjectDecl) (full : List Size) (bs : List (List Statement)) (first b : ℕ) : Type 0 where
  pub body : List Statement
  pub at : slice_get bs b ≡ Some body
  pub sizes : List Size
  pub here : length sizes ≡ first + b
  pub before : (k : ℕ) → k < length sizes → nesting_at full k ≡ nesting_at sizes k
  pub own : nesting_at full (first + b) ≡ nesting_of sizes body
  pub whole : is_whole_body nodes objects (length sizes) 0 body ≡ true

find_body : (nodes : ℕ) (objects : List ObjectDecl) (zs : List Size) (bs : List (List Statement)) (b : ℕ) → are_bodies nodes objects (length zs) bs ≡ true → b < length bs → Found nodes objects (sizes_behind zs bs) bs (length zs) b
find_body nodes objects zs [] b hold h = absurd (omega (arith, h))
find_body nodes objects zs (x ∷ bs) zero hold h =
    let longer = one_longer zs (size zs x) in
    let first : is_body nodes objects (length zs) x ≡ true = left (is_body nodes objects (length zs) x) (are_bodies nodes objects (length zs + 1) bs) hold in
    let place : length zs + 0 ≡ length zs = omega arith in
    record {
      body = x;
      at = refl;
      sizes = zs;
      here = omega arith;
      before = λ k lower. at_behind zs (x ∷ bs) k lower;
      own = subst (λ n. nesting_at (sizes_behind zs (x ∷ bs)) n ≡ nesting_of zs x) (sym place) (at_behind (zs ++ size zs x ∷ []) bs (length zs) (omega (arith, longer)) ∙ at_last zs (size zs x));
      whole = left (is_whole_body nodes objects (length zs) 0 x) (nat_le (length x) 32) first;
    }
find_body nodes objects zs (x ∷ bs) (suc b) hold h =
    let longer : length (zs ++ size zs x ∷ []) ≡ length zs + 1 = one_longer zs (size zs x) in
    let others : are_bodies nodes objects (length zs + 1) bs ≡ true = right (is_body nodes objects (length zs) x) (are_bodies nodes objects (length zs + 1) bs) hold in
    let rest = find_body nodes objects (zs ++ size zs x ∷ []) bs b (subst (λ n. are_bodies nodes objects n bs ≡ true) (sym longer) others) (omega (arith, h)) in
    let shift : length (zs ++ size zs x ∷ []) + b ≡ length zs + suc b = omega (arith, longer) in
    record {
      body = rest.body;
      at = rest.at;
      sizes = rest.sizes;
      here = rest.here ∙ shift;
      before = rest.before;
      own = subst (λ n. nesting_at (sizes_behind zs (x ∷ bs)) n ≡ nesting_of rest.sizes rest.body) shift rest.own;
      whole = rest.whole;
    }

first_at_most : (a b n : ℕ) → max a b ≤ n → a ≤ n
first_at_most a b n h = grind (arith, h)

second_at_most : (a b n : ℕ) → max a b ≤ n → b ≤ n
second_at_most a b n h = grind (arith, h)

lower : (a b : ℕ) → nat_lt a b ≡ true → a < b
lower a b h = grind (arith, h)

-- a body nests so deep at least
at_least_one : (zs : List Size) (ss : List Statement) → 1 ≤ nesting_of zs ss
at_least_one zs [] = omega arith
at_least_one zs (statements.Call tries object op ∷ ss) = at_least_one zs ss
at_least_one zs (statements.Child tries node body ∷ ss) = second_at_least (1 + nesting_at zs body) (nesting_of zs ss) (at_least_one zs ss)
  where
    second_at_least : (a b : ℕ) → 1 ≤ b → 1 ≤ max a b
    second_at_least a b h = grind (arith, h)
at_least_one zs (statements.Commit e ∷ ss) = at_least_one zs ss
at_least_one zs (statements.Abort ∷ ss) = at_least_one zs ss

-- a statement that closes has no child
closing_nests : (below : ℕ → Bool) (earlier : ℕ) (s : Statement) → closes_rightly earlier s ≡ true → statement_nests below s ≡ true
closing_nests below earlier (statements.Call tries object op) h = cc
closing_nests below earlier (statements.Child tries node body) h = cc
closing_nests below earlier (statements.Commit e) h = refl
closing_nests below earlier statements.Abort h = refl

-- the statements of a body, where the bodies of its children nest less deep by one
statements_nest : (nodes : ℕ) (objects : List ObjectDecl) (zs : List Size) (n earlier : ℕ) (below : ℕ → Bool) (ss : List Statement) → ((k : ℕ) → k < length zs → nesting_at zs k ≤ n → below k ≡ true)
    → is_whole_body nodes objects (length zs) earlier ss ≡ true → nesting_of zs ss ≤ suc n → list_all (statement_nests below) ss ≡ true
statements_nest nodes objects zs n earlier below [] deep whole most = refl
statements_nest nodes objects zs n earlier below (s ∷ []) deep whole most = both (closing_nests below earlier s whole) refl
statements_nest nodes objects zs n earlier below (statements.Call tries object op ∷ t ∷ ss) deep whole most =
    statements_nest nodes objects zs n (earlier + 1) below (t ∷ ss) deep (right (asks_rightly nodes objects (length zs) earlier (statements.Call tries object op)) (is_whole_body nodes objects (length zs) (earlier + 1) (t ∷ ss)) whole) most
statements_nest nodes objects zs n earlier below (statements.Child tries node body ∷ t ∷ ss) deep whole most =
    let asks : asks_rightly nodes objects (length zs) earlier (statements.Child tries node body) ≡ true = left (asks_rightly nodes objects (length zs) earlier (statements.Child tries node body)) (is_whole_body nodes objects (length zs) (earlier + 1) (t ∷ ss)) whole in
    let there = right (is_node nodes node) (nat_lt body (length zs)) (right (nat_le 1 tries && nat_le tries 9) (is_node nodes node && nat_lt body (length zs)) asks) in
    let one : 1 + nesting_at zs body ≤ suc n = first_at_most (1 + nesting_at zs body) (nesting_of zs (t ∷ ss)) (suc n) most in
    both (deep body (lower body (length zs) there) (omega (arith, one)))
    (statements_nest nodes objects zs n (earlier + 1) below (t ∷ ss) deep (right (asks_rightly nodes objects (length zs) earlier (statements.Child tries node body)) (is_whole_body nodes objects (length zs) (earlier + 1) (t ∷ ss)) whole) (second_at_most (1 + nesting_at zs body) (nesting_of zs (t ∷ ss)) (suc n) most))
statements_nest nodes objects zs n earlier below (statements.Commit e ∷ t ∷ ss) deep whole most = cc
statements_nest nodes objects zs n earlier below (statements.Abort ∷ t ∷ ss) deep whole most = cc

-- So a body nests within what its size says.
pub body_nests : (nodes : ℕ) (objects : List ObjectDecl) (bs : List (List Statement)) (n b : ℕ) → are_bodies nodes objects 0 bs ≡ true → b < length bs → nesting_at (sizes_behind [] bs) b ≤ n → nests_within bs n b ≡ true
body_nests nodes objects bs zero b hold h most =
    let f = find_body nodes objects [] bs b hold h in
    let nothing_before : 0 + b ≡ b = omega arith in
    let own : nesting_at (sizes_behind [] bs) b ≡ nesting_of f.sizes f.body = subst (λ k. nesting_at (sizes_behind [] bs) k ≡ nesting_of f.sizes f.body) nothing_before f.own in
    absurd (omega (arith, own, most, at_least_one f.sizes f.body))
body_nests nodes objects bs (suc n) b hold h most =
    let f = find_body nodes objects [] bs b hold h in
    let nothing_before : 0 + b ≡ b = omega arith in
    let own : nesting_at (sizes_behind [] bs) b ≡ nesting_of f.sizes f.body = subst (λ k. nesting_at (sizes_behind [] bs) k ≡ nesting_of f.sizes f.body) nothing_before f.own in
    let here : length f.sizes ≡ b = f.here ∙ nothing_before in
    let deep : (k : ℕ) → k < length f.sizes → nesting_at f.sizes k ≤ n → nests_within bs n k ≡ true =
    λ k less small. let same = f.before k less in body_nests nodes objects bs n k hold (omega (arith, less, here, h)) (omega (arith, same, small)) in
    subst (λ o. list_all (statement_nests (nests_within bs n)) (unwrap_or o []) ≡ true) (sym f.at)
    (statements_nest nodes objects f.sizes n 0 (nests_within bs n) f.body deep f.whole (omega (arith, own, most)))
