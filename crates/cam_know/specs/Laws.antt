-- Laws of knowledge that the layers above go by.
use Rattle.std.specs.Prelude.{◌≡◌, ℕ, ◌≤◌, true, List, IsSome}
use Rattle.cam_names.specs.declared.name.Name.{Name}
use Rattle.cam_know.specs.declared.Outcome.{Outcome}
use Rattle.cam_know.specs.Knowledge.{Knowledge}
use Rattle.cam_know.specs.Known.{knows, known_count, both, with_outcome, with_count, IsSame}
use Rattle.cam_know.specs.Orphans.{known_orphan}

-- In whatever order and however often knowledge is joined, the same is known.
abbrev pub JoinCommutes : Type 0
JoinCommutes = (one other : Knowledge) → IsSame (both one other) (both other one)

abbrev pub JoinAssociates : Type 0
JoinAssociates =
    (one other third : Knowledge)
    → IsSame (both (both one other) third) (both one (both other third))

abbrev pub JoinAgainIsSame : Type 0
JoinAgainIsSame = (k : Knowledge) → IsSame (both k k) k

-- all that the less knows is known, and no count is below its
pub record KnowsAtLeast (more less : Knowledge) : Type 0 where
  pub outcomes : (o : Outcome) → knows less o ≡ true → knows more o ≡ true
  pub counts : (node : ℕ) → known_count less node ≤ known_count more node

-- An orphan by what is known stays an orphan, maybe for another reason, if more is known.
abbrev pub OrphanStays : Type 0
OrphanStays =
    (more less : Knowledge) → KnowsAtLeast more less → (a : Name) (visited : List (ℕ × ℕ))
    → IsSome (known_orphan less a visited) → IsSome (known_orphan more a visited)

-- Joined knowledge is more than either.
abbrev pub JoinKnowsAtLeast : Type 0
JoinKnowsAtLeast =
    (one other : Knowledge)
    → KnowsAtLeast (both one other) one × KnowsAtLeast (both one other) other

-- So is knowledge with one more outcome, and with a count raised.
abbrev pub AddKnowsAtLeast : Type 0
AddKnowsAtLeast = (o : Outcome) (k : Knowledge) → KnowsAtLeast (with_outcome o k) k

abbrev pub RaiseKnowsAtLeast : Type 0
RaiseKnowsAtLeast = (node count : ℕ) (k : Knowledge) → KnowsAtLeast (with_count node count k) k
