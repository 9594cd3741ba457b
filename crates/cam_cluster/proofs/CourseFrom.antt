-- What a line of a course goes on from.
use Rattle.std.proofs.Common.{◌≡◌, ◌⊎◌, inl, inr, ℕ, true, refl}
use Rattle.cam_runs.specs.Running.{has_number}
use Rattle.cam_script.specs.declared.Act.{Act}
use Rattle.cam_script.specs.declared.Act.TheVariants as acts
use Rattle.cam_cluster.specs.Between.{seen_found}
use Rattle.cam_cluster.specs.Courses.{IsFrom}
use Rattle.cam_cluster.specs.Seen.{Seen}
use Rattle.cam_cluster.specs.Works.{WorksFields}

-- A line that restarts no node goes on from what was seen,
pub from_itself : (old : WorksFields) (does : Act) (seen : Seen)
    → ((s : ℕ) → does ≡ acts.Restart s → ⊥) → IsFrom old does seen seen
from_itself old (acts.Restart s) seen other = absurd (other s refl)
from_itself old _ seen other = refl

-- and so does one that does, where it does not find the halt of the node.
pub record IsFoundBy (does : Act) (seen from : Seen) : Type 0 where
  pub node : ℕ
  pub restarts : does ≡ acts.Restart node
  pub halted : has_number seen.standing.halted node ≡ true
  pub found : from ≡ seen_found seen node

pub from_is : (old : WorksFields) (does : Act) (seen from : Seen) → IsFrom old does seen from
    → (from ≡ seen) ⊎ IsFoundBy does seen from
from_is old (acts.Restart s) seen from (inl stood) = inl stood.same
from_is old (acts.Restart s) seen from (inr is) =
    inr (record { node = s; restarts = refl; halted = is.halted; found = is.found })
from_is old _ seen from same = inl same
