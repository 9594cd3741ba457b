-- The letters of a family, node by node, are those to the pairs that it depends on.
use Rattle.std.proofs.Common.{◌≡◌, ℕ, ◌+◌, eqb, Bool, true, false, not, ◌||◌, if◌then◌else◌, List, [], ◌∷◌, map, refl, ap}
use Rattle.std.specs.Prelude.{filter}
use Rattle.cam_names.specs.declared.name.Name.{Name}
use Rattle.cam_names.specs.Dependencies.{pairs_from}
use Rattle.cam_event.specs.declared.Body.TheVariants as bodies
use Rattle.cam_event.specs.declared.Sent.{Sent}
use Rattle.cam_event.specs.Rules.{send}
use Rattle.cam_rules.specs.Letters.{news_to, prepare_to}
use Rattle.cam_rules.specs.Letters.{news_from, prepares_from}

news_of : (s node : ℕ) (counts : List ℕ)
    → map (λ p. send p.0 bodies.News) (filter (λ p. not (eqb p.0 s)) (pairs_from node counts)) ≡ news_from s node counts
news_of s node [] = refl
news_of s node (c ∷ cs) = by (eqb c 0) (news_of s (node + 1) cs)
  where
    Rest : Type 0
    Rest = map (λ p. send p.0 bodies.News) (filter (λ p. not (eqb p.0 s)) (pairs_from (node + 1) cs)) ≡ news_from s (node + 1) cs

    other : (o : Bool) → Rest
        → map (λ p. send p.0 bodies.News)
        (if not o then (node, c) ∷ filter (λ p. not (eqb p.0 s)) (pairs_from (node + 1) cs) else filter (λ p. not (eqb p.0 s)) (pairs_from (node + 1) cs))
        ≡ (if o then news_from s (node + 1) cs else send node bodies.News ∷ news_from s (node + 1) cs)
    other true rest = rest
    other false rest = ap (λ (sent : List Sent). send node bodies.News ∷ sent) rest

    by : (z : Bool) → Rest
        → map (λ p. send p.0 bodies.News)
        (filter (λ p. not (eqb p.0 s)) (if z then pairs_from (node + 1) cs else (node, c) ∷ pairs_from (node + 1) cs))
        ≡ (if z || eqb node s then news_from s (node + 1) cs else send node bodies.News ∷ news_from s (node + 1) cs)
    by true rest = rest
    by false rest = other (eqb node s) rest

pub news_are : (s : ℕ) (counts : List ℕ) → news_to s counts ≡ news_from s 1 counts
news_are s counts = news_of s 1 counts

prepares_of : (a : Name) (node : ℕ) (counts : List ℕ)
    → map (λ p. send p.0 (bodies.Prepare a p.1)) (pairs_from node counts) ≡ prepares_from a node counts
prepares_of a node [] = refl
prepares_of a node (c ∷ cs) = by (eqb c 0) (prepares_of a (node + 1) cs)
  where
    by : (z : Bool)
        → map (λ p. send p.0 (bodies.Prepare a p.1)) (pairs_from (node + 1) cs) ≡ prepares_from a (node + 1) cs
        → map (λ p. send p.0 (bodies.Prepare a p.1)) (if z then pairs_from (node + 1) cs else (node, c) ∷ pairs_from (node + 1) cs)
        ≡ (if z then prepares_from a (node + 1) cs else send node (bodies.Prepare a c) ∷ prepares_from a (node + 1) cs)
    by true rest = rest
    by false rest = ap (λ (sent : List Sent). send node (bodies.Prepare a c) ∷ sent) rest

pub prepares_are : (a : Name) (counts : List ℕ) → prepare_to a counts ≡ prepares_from a 1 counts
prepares_are a counts = prepares_of a 1 counts
