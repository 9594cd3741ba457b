-- The names of a storm, its four nodes, and what its letters speak of.
use Rattle.std.specs.Prelude.{◌≡◌, ℕ, ◌≤◌, List}
use Rattle.std.specs.List.{AllByRecursion}
use Rattle.cam_names.specs.declared.name.Name.{Name}
use Rattle.cam_names.specs.Names.{family, home_node, last_part}
use Rattle.cam_names.specs.Dependencies.{pairs_of}
use Rattle.cam_event.specs.declared.Body.{Body}
use Rattle.cam_event.specs.declared.Body.TheVariants as bodies
use Rattle.cam_event.specs.Inputs.{decider}
use Rattle.cam_node.specs.Lawful.{body_counts}
use Rattle.cam_gen.specs.Storms.{Words, tops_of}

-- one of the four nodes
abbrev pub Near : ℕ → Type 0
Near n = (1 ≤ n) × (n ≤ 4)

-- A name of the storm: its top action is one of those that its node starts, and its home is one of
-- the four nodes.
pub record IsNamed (words : Words) (a : Name) : Type 0 where
  pub low : 1 ≤ home_node (family a)
  pub high : home_node (family a) ≤ 4
  pub first : 1 ≤ (last_part (family a)).number
  pub most : (last_part (family a)).number ≤ tops_of words (home_node (family a))
  pub near : 1 ≤ home_node a
  pub far : home_node a ≤ 4

-- The start of a child comes from the node that decides it.
abbrev pub IsFrom : ℕ → Body → Type 0
IsFrom from (bodies.Start b counts) = decider b ≡ from
IsFrom from _ = Unit {0}

-- A child that starts is an action of the storm; an answer to a call, and a vote, go to one of the
-- four nodes.
abbrev pub SpeaksOf : Words → Body → Type 0
SpeaksOf words (bodies.Start b counts) = IsNamed words b
SpeaksOf words (bodies.Call a n x op c counts) = Near (home_node a)
SpeaksOf words (bodies.Prepare f c) = Near (home_node f)
SpeaksOf words _ = Unit {0}

-- dependencies on the four nodes alone
abbrev pub AreNear : List (ℕ × ℕ) → Type 0
AreNear pairs = AllByRecursion (λ (p : ℕ × ℕ). Near p.0) pairs

-- a letter that a node of the storm sends
pub record IsOfStorm (words : Words) (from : ℕ) (body : Body) : Type 0 where
  pub sender : Near from
  pub starts : IsFrom from body
  pub names : SpeaksOf words body
  pub counts : AreNear (pairs_of (body_counts body))
