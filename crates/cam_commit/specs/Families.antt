-- The families that a node is committing, as the answers that are given when it is asked for them,
-- and what they must answer for the node to stand for its history.
use Rattle.std.specs.Prelude.{◌≡◌, ℕ, Bool, false, List, [], map, is_some, unwrap_or}
use Rattle.cam_names.specs.declared.name.Name.{Name}
use Rattle.cam_names.specs.Dependencies.{has_pair}
use Rattle.cam_type.specs.declared.ObjectDecl.{ObjectDecl}
use Rattle.cam_know.specs.Known.{knows_abort, knows_commit}
use Rattle.cam_event.specs.History.{secured_at}
use Rattle.cam_event.specs.Sights.{votes}
use Rattle.cam_event.specs.ByKnowledge.{held}
use Rattle.cam_event.specs.Carried.{Carried, entry_of, deeds_of}

-- the families that this node is preparing, and those that it has secured
pub record Families : Type 0 where
  pub is_preparing : Name → Bool
  -- whether a node at a count has voted yes for a family
  pub has_vote : Name → ℕ → ℕ → Bool
  pub is_secured : Name → Bool
  -- how many more of each can be noted without memory
  pub room : ℕ

-- A family is asked about only while its outcome is not known.
abbrev pub IsUndecided : List ObjectDecl → List Carried → Name → Type 0
IsUndecided objects history f = (knows_abort (held objects history) f ≡ false)
    × (knows_commit (held objects history) f ≡ false)

pub record CommitsFamilies (objects : List ObjectDecl) (s : ℕ) (history : List Carried)
    (families : Families) : Type 0 where
  pub preparing : (f : Name) → IsUndecided objects history f
      → families.is_preparing f ≡ is_some (votes (map entry_of history) f)
  pub voted :
      (f : Name) (m c : ℕ) → IsUndecided objects history f
      → families.has_vote f m c ≡ has_pair (unwrap_or (votes (map entry_of history) f) []) m c
  pub secured : (f : Name) → IsUndecided objects history f
      → families.is_secured f ≡ secured_at (deeds_of history) f s
