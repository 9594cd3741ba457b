-- The call of an action that is not answered.
use Rattle.std.specs.Prelude.{ℕ, ◌≤◌}
use Rattle.cam_type.specs.declared.Op.{Op}

-- what a contract sees of it: which call of the action it is, what it asked of which object, and
-- the object's node, with the count at which it was addressed
pub record OpenCallFields : Type 0 where
  pub number : ℕ
  pub object : ℕ
  pub op : Op
  pub site : ℕ
  pub count : ℕ

-- the node and its count are in their ranges
pub record IsAddressed (site count : ℕ) : Type 0 where
  pub site_from : 1 ≤ site
  pub site_to : site ≤ 8
  pub count_from : 1 ≤ count
  pub count_to : count ≤ 1000000000
