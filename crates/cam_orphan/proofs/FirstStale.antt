-- The least stale pair stands at the first node whose least count is stale.
use Rattle.std.proofs.Common.{inl, inr, ◌≡◌, ℕ, ◌+◌, ◌≤◌, ◌<◌, eqb, Bool, true, false, ◌&&◌, if◌then◌else◌, List, [], ◌∷◌, ◌++◌, length, filter, Option, Some, None, arith, sym, ap, subst, ◌∙◌, refl}
use Rattle.std.specs.Prelude.{nat_lt, flat_map}
use Rattle.std.proofs.lemmas.Bool.{cases_Bool, and_parts, ltb-true, eqb-true, eqb-false, cases_lt}
use Rattle.cam_names.specs.declared.name.Name.{Name}
use Rattle.cam_names.specs.Names.{is_child}
use Rattle.cam_names.specs.Dependencies.{pairs_of, pairs_from}
use Rattle.cam_know.specs.declared.Outcome.{Outcome}
use Rattle.cam_know.specs.declared.Outcome.TheVariants.{Aborted, Committed}
use Rattle.cam_know.specs.Knowledge.{Knowledge}
use Rattle.cam_know.specs.Orphans.{lesser, is_lesser, least, is_stale, commit_pairs, children_pairs}
use Rattle.cam_know.specs.LeastCounts.{lesser_count, least_counts}
use Rattle.cam_orphan.specs.Stale.{Valid, first_stale}

pub valid_append : (ps qs : List (ℕ × ℕ)) → Valid ps → Valid qs → Valid (ps ++ qs)
valid_append [] qs one other = other
valid_append (p ∷ ps) qs one other = (one.0, valid_append ps qs one.1 other)

valid_flat : {X : Type 0} (f : X → List (ℕ × ℕ)) (xs : List X) → ((x : X) → Valid (f x)) → Valid (flat_map f xs)
valid_flat f [] each = tt
valid_flat f (x ∷ xs) each = valid_append (f x) (flat_map f xs) (each x) (valid_flat f xs each)

valid_pairs : (first : ℕ) (counts : List ℕ) → 1 ≤ first → Valid (pairs_from first counts)
valid_pairs first [] h = tt
valid_pairs first (c ∷ cs) h =
    elim (cases_Bool (eqb c 0)) [
      | inl none ↦ rw none (valid_pairs (first + 1) cs (omega arith))
      | inr some ↦ rw some ((h, let isnt : c ≡ 0 → ⊥ = eqb-false c 0 some in omega arith), valid_pairs (first + 1) cs (omega arith))
    ]

valid_commit : (u : Name) (o : Outcome) → Valid (commit_pairs u o)
valid_commit u (Aborted b) = tt
valid_commit u (Committed b d) = elim (cases_Bool (is_child u b)) [
  | inl yes' ↦ rw yes' (valid_pairs 1 d (omega arith))
  | inr no' ↦ rw no' tt
]

pub valid_visited : (visited : List ℕ) → Valid (pairs_of visited)
valid_visited visited = valid_pairs 1 visited (omega arith)

pub valid_tested : (k : Knowledge) (pairs : List (ℕ × ℕ)) (us : List Name) → Valid pairs → Valid (pairs ++ flat_map (children_pairs k) us)
valid_tested k pairs us valid =
    valid_append pairs (flat_map (children_pairs k) us) valid
    (valid_flat (children_pairs k) us (λ u. valid_flat (commit_pairs u) k.outcomes (valid_commit u)))

-- the lesser of a pair and of those that there are
abbrev with_pair : ℕ × ℕ → Option (ℕ × ℕ) → ℕ × ℕ
with_pair p None = p
with_pair p (Some q) = lesser p q

least_cons : (p : ℕ × ℕ) (ps : List (ℕ × ℕ)) → least (p ∷ ps) ≡ Some (with_pair p (least ps))
least_cons p [] = refl
least_cons p (q ∷ ps) = refl

-- the least counts with one pair more
abbrev put : ℕ × ℕ → ℕ → List ℕ → List ℕ
put p first [] = []
put p first (c ∷ cs) = (if eqb p.0 first then lesser_count p.1 c else c) ∷ put p (first + 1) cs

-- whether a count, where there is one, is below the known one
abbrev pub is_old : ℕ → ℕ → Bool
is_old known c = nat_lt 0 c && nat_lt c known

-- a pair that is not stale changes nothing
fresh_head : (known n c : ℕ) → 1 ≤ n → nat_lt n known ≡ false → is_old known (lesser_count n c) ≡ is_old known c
fresh_head known n c some fresh = grind arith

fresh_same : (known n c : ℕ) → nat_lt n known ≡ false → is_old known c ≡ true → lesser_count n c ≡ c
fresh_same known n c fresh old = grind arith

fresh_put : (known : ℕ → ℕ) (p : ℕ × ℕ) (first : ℕ) (cs : List ℕ) → 1 ≤ p.1 → is_stale known p ≡ false → first_stale known first (put p first cs) ≡ first_stale known first cs
fresh_put known p first [] some fresh = refl
fresh_put known p first (c ∷ cs) some fresh =
    elim (cases_Bool (eqb p.0 first)) [
      | inl here ↦ rw here (
          let e : p.0 ≡ first = eqb-true p.0 first here in
          let f : nat_lt p.1 (known first) ≡ false = subst (λ (n : ℕ). nat_lt p.1 (known n) ≡ false) e fresh in
          by (is_old (known first) c) refl (fresh_head (known first) p.1 c some f) (fresh_same (known first) p.1 c f) (fresh_put known p (first + 1) cs some fresh))
      | inr other ↦ rw other (ap (λ o. if is_old (known first) c then Some (first, c) else o) (fresh_put known p (first + 1) cs some fresh))
    ]
  where
    by : (t : Bool) → is_old (known first) c ≡ t → is_old (known first) (lesser_count p.1 c) ≡ is_old (known first) c → (is_old (known first) c ≡ true → lesser_count p.1 c ≡ c) →
        first_stale known (first + 1) (put p (first + 1) cs) ≡ first_stale known (first + 1) cs →
        (if is_old (known first) (lesser_count p.1 c) then Some (first, lesser_count p.1 c) else first_stale known (first + 1) (put p (first + 1) cs))
        ≡ (if is_old (known first) c then Some (first, c) else first_stale known (first + 1) cs)
    by true is head same later = rw (head ∙ is, is) (ap (λ x. Some (first, x)) (same is))
    by false is head same later = rw (head ∙ is, is) later

-- what is found stands at this node or behind it
found_from : (known : ℕ → ℕ) (first : ℕ) (cs : List ℕ) (r : ℕ × ℕ) → first_stale known first cs ≡ Some r → first ≤ r.0
found_from known first [] r h = cc
found_from known first (c ∷ cs) r h =
    elim (cases_Bool (is_old (known first) c)) [
      | inl old ↦ let e : (first, c) ≡ r = some_same (rw old at h) in subst (λ (q : ℕ × ℕ). first ≤ q.0) e (omega arith)
      | inr no' ↦ let later : first + 1 ≤ r.0 = found_from known (first + 1) cs r (rw no' at h) in omega arith
    ]
  where
    some_same : Some (first, c) ≡ Some r → (first, c) ≡ r
    some_same e = cc

-- a stale pair comes first, or what was there before it does
head_lesser : (n m c : ℕ) → 1 ≤ c → 1 ≤ m → (n, lesser_count m c) ≡ lesser (n, m) (n, c)
head_lesser n m c some one =
    elim (cases_Bool (nat_lt c m)) [
      | inl less ↦ let is : is_lesser (n, c) (n, m) ≡ true = grind arith in let low : lesser_count m c ≡ c = grind arith in rw (is, low) refl
      | inr more ↦ let is : is_lesser (n, c) (n, m) ≡ false = grind arith in let low : lesser_count m c ≡ m = grind arith in rw (is, low) refl
    ]

stale_head : (known n c : ℕ) → 1 ≤ n → nat_lt n known ≡ true → is_old known (lesser_count n c) ≡ true
stale_head known n c some stale = grind arith

stale_same : (known n c : ℕ) → 1 ≤ n → nat_lt n known ≡ true → is_old known c ≡ false → lesser_count n c ≡ n
stale_same known n c some stale fresh = grind arith

behind : (p : ℕ × ℕ) (o : Option (ℕ × ℕ)) → ((r : ℕ × ℕ) → o ≡ Some r → p.0 + 1 ≤ r.0) → with_pair p o ≡ p
behind p None h = refl
behind p (Some r) h = let later : p.0 + 1 ≤ r.0 = h r refl in let is : is_lesser r p ≡ false = grind arith in rw is refl

stale_put : (known : ℕ → ℕ) (p : ℕ × ℕ) (first : ℕ) (cs : List ℕ) → 1 ≤ p.1 → is_stale known p ≡ true → first ≤ p.0 → p.0 < first + length cs →
    first_stale known first (put p first cs) ≡ Some (with_pair p (first_stale known first cs))
stale_put known p first [] some stale from to = absurd (omega arith)
stale_put known p first (c ∷ cs) some stale from to =
    elim (cases_Bool (eqb p.0 first)) [
      | inl here ↦ rw here (at_head (eqb-true p.0 first here))
      | inr other ↦ rw other (let later : first + 1 ≤ p.0 = (let isnt : p.0 ≡ first → ⊥ = eqb-false p.0 first other in omega arith) in
          in_tail later (λ fits. stale_put known p (first + 1) cs some stale later fits))
    ]
  where
    at_head : p.0 ≡ first → (if is_old (known first) (lesser_count p.1 c) then Some (first, lesser_count p.1 c) else first_stale known (first + 1) (put p (first + 1) cs))
        ≡ Some (with_pair p (if is_old (known first) c then Some (first, c) else first_stale known (first + 1) cs))
    at_head e =
        let s : nat_lt p.1 (known first) ≡ true = subst (λ (n : ℕ). nat_lt p.1 (known n) ≡ true) e stale in
        rw (stale_head (known first) p.1 c some s)
        (elim (cases_Bool (is_old (known first) c)) [
          | inl old ↦ rw old (let one : 1 ≤ c = old_some (known first) c old in ap Some (head_lesser first p.1 c one some ∙ ap (λ n. lesser (n, p.1) (first, c)) (sym e)))
          | inr fresh ↦ rw fresh (
              ap (λ x. Some (first, x)) (stale_same (known first) p.1 c some s fresh) ∙ ap (λ n. Some (n, p.1)) (sym e)
              ∙ ap Some (sym (behind p (first_stale known (first + 1) cs) (λ r found. let far : first + 1 ≤ r.0 = found_from known (first + 1) cs r found in omega arith))))
        ])
      where
        old_some : (k n : ℕ) → is_old k n ≡ true → 1 ≤ n
        old_some k n h = ltb-true 0 n (and_parts (nat_lt 0 n) (nat_lt n k) h).0

    in_tail : first + 1 ≤ p.0 →
        (p.0 < first + 1 + length cs → first_stale known (first + 1) (put p (first + 1) cs) ≡ Some (with_pair p (first_stale known (first + 1) cs))) →
        (if is_old (known first) c then Some (first, c) else first_stale known (first + 1) (put p (first + 1) cs))
        ≡ Some (with_pair p (if is_old (known first) c then Some (first, c) else first_stale known (first + 1) cs))
    in_tail later tail =
        elim (cases_Bool (is_old (known first) c)) [
          | inl old ↦ rw old (let is : is_lesser (first, c) p ≡ true = grind arith in rw is refl)
          | inr fresh ↦ rw fresh (tail (omega arith))
        ]

-- The least stale pair stands at the first stale node.
pub least_is_first : (known : ℕ → ℕ) (ps : List (ℕ × ℕ)) → Valid ps → ((n : ℕ) → 8 < n → known n ≡ 0) → least (filter (is_stale known) ps) ≡ first_stale known 1 (least_counts ps)
least_is_first known [] valid past = refl
least_is_first known (p ∷ ps) valid past =
    elim (cases_Bool (is_stale known p)) [
      | inl stale ↦ rw stale (
          least_cons p (filter (is_stale known) ps) ∙ ap (λ o. Some (with_pair p o)) (least_is_first known ps valid.1 past)
          ∙ sym (stale_put known p 1 (least_counts ps) valid.0.1 stale valid.0.0 (within stale)))
      | inr fresh ↦ rw fresh (least_is_first known ps valid.1 past ∙ sym (fresh_put known p 1 (least_counts ps) valid.0.1 fresh))
    ]
  where
    within : is_stale known p ≡ true → p.0 < 1 + length (least_counts ps)
    within stale = elim (cases_lt p.0 9) [
      | inl below ↦ below
      | inr beyond ↦ let nothing : known p.0 ≡ 0 = past p.0 (omega arith) in let less : p.1 < known p.0 = ltb-true p.1 (known p.0) stale in absurd (omega arith)
    ]
