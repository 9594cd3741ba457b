-- What the letters of an event weigh: news and prepares, which go to eight nodes at most.
use Rattle.std.proofs.Common.{◌≡◌, ◌≤◌, ◌<◌, inl, inr, ℕ, suc, ◌+◌, ◌*◌, eqb, Bool, true, false, not, if◌then◌else◌, List, [], ◌∷◌, filter, map, length, Option, Some, None, cond, arith}
use Rattle.std.proofs.lemmas.Bool.Decides.{eqb_tells}
use Rattle.cam_names.specs.declared.name.Name.{Name}
use Rattle.cam_names.specs.Dependencies.{pairs_from, pairs_of}
use Rattle.cam_know.specs.declared.Reason.{Reason}
use Rattle.cam_event.specs.declared.Sent.{Sent}
use Rattle.cam_event.specs.declared.Body.TheVariants as bodies
use Rattle.cam_event.specs.Sights.{Sight}
use Rattle.cam_event.specs.Rules.{Did, send, stopped_by, news}
use Rattle.cam_storm.specs.Weights.{copy_weight}

-- what one copy of each letter weighs together
abbrev pub sent_weight : List Sent → ℕ
sent_weight [] = 0
sent_weight (m ∷ ms) = copy_weight m.body + sent_weight ms

abbrev pub Light : ℕ → Did → Type 0
Light n d = sent_weight d.sent ≤ n

-- one of two
pub either : (b : Bool) (n : ℕ) (d e : Did) → Light n d → Light n e → Light n (if b then d else e)
either true n d e h k = h
either false n d e h k = k

pub unless_stopped : (a : Name) (o : Option Reason) (n : ℕ) (d : Did) → Light n d → Light n (stopped_by a o d)
unless_stopped a None n d h = h
unless_stopped a (Some reason) n d h = omega arith

pub heavier : (m n : ℕ) (d : Did) → m ≤ n → Light m d → Light n d
heavier m n d more h = omega (arith, more, h)

-- counts are at most as many pairs
pub pairs_few : (node : ℕ) (counts : List ℕ) → length (pairs_from node counts) ≤ length counts
pairs_few node [] = omega arith
pairs_few node (c ∷ counts) = by (eqb c 0) (pairs_few (node + 1) counts)
  where
    by : (b : Bool) → length (pairs_from (node + 1) counts) ≤ length counts → length (if b then pairs_from (node + 1) counts else ((node, c) ∷ pairs_from (node + 1) counts)) ≤ suc (length counts)
    by true h = omega (arith, h)
    by false h = omega (arith, h)

kept_few : {X : Type 0} (p : X → Bool) (xs : List X) → length (filter p xs) ≤ length xs
kept_few p [] = omega arith
kept_few {X} p (x ∷ xs) = by (p x) (kept_few p xs)
  where
    by : (b : Bool) → length (filter p xs) ≤ length xs → length (cond b (x ∷ filter p xs) (filter p xs)) ≤ suc (length xs)
    by true h = omega (arith, h)
    by false h = omega (arith, h)

-- whether a pair is not of this node
abbrev is_other : ℕ → ℕ × ℕ → Bool
is_other node p = not (eqb p.0 node)

-- of these counts those of the other nodes are one less
others_few : (node k : ℕ) (counts : List ℕ) → k ≤ node → node < k + length counts → length (filter (is_other node) (pairs_from k counts)) < length counts
others_few node k [] low high = absurd (omega arith)
others_few node k (c ∷ counts) low high = elim (eqb_tells k node) [
  | inl y ↦
      let kept = kept_few (is_other node) (pairs_from (k + 1) counts) in
      let few = pairs_few (k + 1) counts in
      here y.0 (eqb c 0) (omega (arith, kept, few))
  | inr n ↦
      let other = n.1 in
      let above : k + 1 ≤ node = omega (arith, low, other) in
      let rest = others_few node (k + 1) counts above (omega (arith, high)) in
      there (eqb c 0) rest
]
  where
    here : eqb k node ≡ true → (b : Bool) → length (filter (is_other node) (pairs_from (k + 1) counts)) ≤ length counts → length (filter (is_other node) (if b then pairs_from (k + 1) counts else ((k, c) ∷ pairs_from (k + 1) counts))) < suc (length counts)
    here y true h = omega (arith, h)
    here y false h = rw y (omega (arith, h))

    one_more : (b : Bool) → length (filter (is_other node) (pairs_from (k + 1) counts)) < length counts → length (cond b ((k, c) ∷ filter (is_other node) (pairs_from (k + 1) counts)) (filter (is_other node) (pairs_from (k + 1) counts))) < suc (length counts)
    one_more true h = omega (arith, h)
    one_more false h = omega (arith, h)

    there : (b : Bool) → length (filter (is_other node) (pairs_from (k + 1) counts)) < length counts → length (filter (is_other node) (if b then pairs_from (k + 1) counts else ((k, c) ∷ pairs_from (k + 1) counts))) < suc (length counts)
    there true h = omega (arith, h)
    there false h = one_more (is_other node (k, c)) h

news_weight : (ps : List (ℕ × ℕ)) → sent_weight (map (λ p. send p.0 bodies.News) ps) ≤ length ps
news_weight [] = omega arith
news_weight (p ∷ ps) = let rest = news_weight ps in omega (arith, rest)

pub prepares_weight : (a : Name) (ps : List (ℕ × ℕ)) → sent_weight (map (λ p. send p.0 (bodies.Prepare a p.1)) ps) ≤ 31 * length ps
prepares_weight a [] = omega arith
prepares_weight a (p ∷ ps) = let rest = prepares_weight a ps in omega (arith, rest)

-- a node from 1 to 8, whose actions have eight counts
pub record IsEight (g : Sight) : Type 0 where
  pub low : 1 ≤ g.node
  pub high : g.node ≤ 8
  pub eight : (a : Name) → length (g.deps a) ≡ 8

-- news goes to seven nodes at most
pub news_light : (g : Sight) (f : Name) → IsEight g → sent_weight (news g f) ≤ 7
news_light g f is =
    let sum = news_weight (filter (is_other g.node) (pairs_of (g.deps f))) in
    let low = is.low in
    let high = is.high in
    let eight = is.eight f in
    let few = others_few g.node 1 (g.deps f) low (omega arith) in
    omega arith
