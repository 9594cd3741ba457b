-- Up to where a node is known to have been informed of the outcomes of which another was informed:
-- of how many, in that node's order.
use Rattle.std.specs.Prelude.{◌≡◌, ◌≤◌, ℕ, eqb, max, Bool, true, false, ◌&&◌, if◌then◌else◌, List, length, take, Option, Some, None, unwrap_or}
use Rattle.std.specs.List.{list_any}
use Rattle.std.specs.HashMap.{HashMap, get}
use Rattle.cam_names.specs.declared.name.Name.{Name}
use Rattle.cam_names.specs.Names.{name_eq}
use Rattle.cam_event.specs.declared.Event.{Event}
use Rattle.cam_event.specs.History.{informed}
use Rattle.cam_event.specs.Sights.{entries, own_deeds}
use Rattle.cam_own.specs.Informed.{commits_of, aborts_of}
use Rattle.cam_timed.specs.declared.machine.Letter.{Letter}
use Rattle.cam_timed.specs.declared.machine.hearing.Reach.{Reach}
use Rattle.cam_timed.specs.declared.machine.hearing.Road.{Road}

abbrev pub road_eq : Road → Road → Bool
road_eq x y = eqb x.from y.from && eqb x.to y.to

abbrev pub road : ℕ → ℕ → Road
road m s = record { from = m; to = s }

-- of no outcome
abbrev pub nowhere : Reach
nowhere = record { commits = 0; aborts = 0 }

-- up to where the second node was informed of the first one's, as a table has it
abbrev pub reach_in : {S : Type 0} → HashMap Road Reach S → ℕ → ℕ → Reach
reach_in heard m s = unwrap_or (get road_eq heard (road m s)) nowhere

-- A node was informed of the first so many of these outcomes; there are so many.
pub record HasHeard (t : List Event) (s : ℕ) (outcome : Bool) (names : List Name)
    (n : ℕ) : Type 0 where
  pub few : n ≤ length names
  pub informed_of :
      (a : Name) → list_any (name_eq a) (take n names) ≡ true
      → informed (own_deeds (entries t s)) s a outcome ≡ true

-- The second node was informed so far of what the first one was informed of.
pub record IsReach (t : List Event) (m s : ℕ) (reach : Reach) : Type 0 where
  pub commits : HasHeard t s true (commits_of (own_deeds (entries t m)) m) reach.commits
  pub aborts : HasHeard t s false (aborts_of (own_deeds (entries t m)) m) reach.aborts

-- The table is right of each pair of nodes.
abbrev pub KeepsHeard : {S : Type 0} → List Event → HashMap Road Reach S → Type 0
KeepsHeard t heard = (m s : ℕ) → IsReach t m s (reach_in heard m s)

-- as far as before, and as the letter
abbrev pub raised : Letter → Reach → Reach
raised letter old =
    record { commits = max old.commits letter.commits; aborts = max old.aborts letter.aborts }

-- what the table has after a letter has come, if one has
abbrev pub Hears : {S : Type 0} → ℕ → Option Letter → HashMap Road Reach S → HashMap Road Reach S
    → Type 0
Hears to None old new = (m s : ℕ) → reach_in new m s ≡ reach_in old m s
Hears to (Some letter) old new =
    (m s : ℕ)
    → reach_in new m s
    ≡ (if eqb letter.mail.from m && eqb to s then raised letter (reach_in old letter.mail.from to)
    else reach_in old m s)
