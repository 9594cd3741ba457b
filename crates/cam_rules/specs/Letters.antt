-- The letters of a family to the nodes on which it depends, at once and node by node.
use Rattle.std.specs.Prelude.{ℕ, ◌+◌, eqb, not, ◌||◌, if◌then◌else◌, List, [], ◌∷◌, map, filter}
use Rattle.cam_names.specs.declared.name.Name.{Name}
use Rattle.cam_names.specs.Dependencies.{pairs_of}
use Rattle.cam_event.specs.declared.Body.TheVariants as bodies
use Rattle.cam_event.specs.declared.Sent.{Sent}
use Rattle.cam_event.specs.Rules.{send}

-- News to each other node than this, and a Prepare to each
abbrev pub news_to : ℕ → List ℕ → List Sent
news_to s counts =
    map (λ p. send p.0 bodies.News) (filter (λ p. not (eqb p.0 s)) (pairs_of counts))

abbrev pub prepare_to : Name → List ℕ → List Sent
prepare_to a counts = map (λ p. send p.0 (bodies.Prepare a p.1)) (pairs_of counts)

-- News to each other node from this one on, and a Prepare to each
abbrev pub news_from : ℕ → ℕ → List ℕ → List Sent
news_from s node [] = []
news_from s node (c ∷ cs) =
    if eqb c 0 || eqb node s then news_from s (node + 1) cs
    else send node bodies.News ∷ news_from s (node + 1) cs

abbrev pub prepares_from : Name → ℕ → List ℕ → List Sent
prepares_from a node [] = []
prepares_from a node (c ∷ cs) =
    if eqb c 0 then prepares_from a (node + 1) cs
    else send node (bodies.Prepare a c) ∷ prepares_from a (node + 1) cs
