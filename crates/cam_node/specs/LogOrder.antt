-- The order of what a log holds and of what is live at the node: the invariant of both that lets a log hold one more family.
--
-- The lock table numbers operations as they are performed, and after a restart it counts on from the greatest number that the log holds. The
-- history numbers them through all incarnations. So the numbers differ, and their order is the same; and the table's are never greater.
use Rattle.std.specs.Prelude.{◌≡◌, ℕ, ◌<◌, ◌≤◌, nat_lt, Bool, true, false, not, List, [], ◌∷◌, ◌++◌, map, filter, reverse}
use Rattle.std.specs.List.{list_any}
use Rattle.cam_names.specs.declared.name.Name.{Name}
use Rattle.cam_names.specs.Names.{ancestors}
use Rattle.cam_type.specs.declared.Held.{Held}
use Rattle.cam_event.specs.declared.Deed.{Deed}
use Rattle.cam_event.specs.declared.Deed.TheVariants.{Secure}
use Rattle.cam_event.specs.History.{number_of}
use Rattle.cam_event.specs.HeldSites.{Placed, Site, is_any_perform, site}
use Rattle.cam_event.specs.Carried.{deeds_of}
use Rattle.cam_event.specs.ByDeltas.{Received, as_carried}
use Rattle.cam_locks.specs.declared.LiveOp.{LiveOp}
use Rattle.cam_locks.specs.Members.{In}
use Rattle.cam_locks.specs.Site as locks
use Rattle.cam_server.specs.Recovered.{beside}

-- of each operation its index in the table, and its place in the order of the site: of those that the log holds,
abbrev pub held_at : List Held → List (Name × List Placed) → List (ℕ × ℕ)
held_at hs gs = map (λ b. (b.0.index, b.1.index)) (beside hs gs)

-- and of those that are live
abbrev pub live_at : List LiveOp → List Placed → List (ℕ × ℕ)
live_at [] ps = []
live_at (k ∷ ks) [] = []
live_at (k ∷ ks) (p ∷ ps) = (k.index, p.index) ∷ live_at ks ps

-- the one that was performed first has the lesser index
abbrev pub AreOrdered : List (ℕ × ℕ) → Type 0
AreOrdered at =
    (one other : ℕ × ℕ) → In one at → In other at → nat_lt one.0 other.0 ≡ nat_lt one.1 other.1

abbrev pub AreBelow : ℕ → List (ℕ × ℕ) → Type 0
AreBelow next at = (one : ℕ × ℕ) → In one at → one.0 < next

abbrev pub AreAtMost : List (ℕ × ℕ) → Type 0
AreAtMost at = (one : ℕ × ℕ) → In one at → one.0 ≤ one.1

-- Of what the log holds and what is live; each index is below the next one, and at most its place.
pub record OrderIsKeptWith (site : Site) (logged : List Held) (live : List LiveOp)
    (next : ℕ) : Type 0 where
  pub order : AreOrdered (held_at logged (reverse site.secured) ++ live_at live site.live)
  pub below : AreBelow next (held_at logged (reverse site.secured) ++ live_at live site.live)
  pub at_most : AreAtMost (held_at logged (reverse site.secured) ++ live_at live site.live)

-- how many operations the node has performed, through all incarnations
abbrev pub performed : List Received → ℕ
performed history = number_of is_any_perform (deeds_of (map as_carried history))

-- THE INVARIANT of a node's history, what its log holds, and its lock table. The next index of the
-- table is at most the number of operations that the node has performed.
pub record IsInOrder (history : List Received) (logged : List Held) (table : locks.Site) : Type 0
  where
    pub kept : OrderIsKeptWith (site (map as_carried history)) logged table.live table.next
    pub next : table.next ≤ performed history

abbrev pub is_any_secure : Deed → Bool
is_any_secure (Secure f s c) = true
is_any_secure _ = false

-- A table that has dropped operations, by their actions, and has granted none.
pub record HasDropped (old new : locks.Site) : Type 0 where
  pub keeps : Name → Bool
  pub live : new.live ≡ filter (λ o. keeps o.action) old.live
  pub next : new.next ≡ old.next

-- what is left of a table's live operations where these aborts drop some
abbrev pub left_live : (Name → Bool) → List LiveOp → List LiveOp
left_live aborts ks = filter (λ k. not (list_any aborts (ancestors k.action))) ks
