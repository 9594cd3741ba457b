-- What the log of a node keeps of its history, as a restart reads it.
use Rattle.std.specs.Prelude.{◌≡◌, ◌≢◌, ℕ, ◌≤◌, eqb, max, if◌then◌else◌, List, [], ◌∷◌, ◌++◌, map, reverse}
use Rattle.cam_type.specs.declared.ObjectDecl.{ObjectDecl}
use Rattle.cam_type.specs.declared.Held.{Held}
use Rattle.cam_know.specs.Knowledge.{Knowledge}
use Rattle.cam_know.specs.Known.{known_count}
use Rattle.cam_event.specs.declared.Deed.{Deed}
use Rattle.cam_event.specs.declared.Deed.TheVariants.{Secure}
use Rattle.cam_event.specs.History.{count as count_in}
use Rattle.cam_event.specs.HeldSites.{site}
use Rattle.cam_event.specs.Carried.{deeds_of}
use Rattle.cam_event.specs.ByDeltas.{Received, as_carried, known}
use Rattle.cam_server.specs.Recovered.{AreHeld, beside, OrderIsKept}

-- what a restart reads
pub record Logged : Type 0 where
  pub count : ℕ
  pub know : Knowledge
  -- the secured families with their operations, in order
  pub held : List Held

-- the counts at which the node secured families, in order
abbrev pub secure_counts : ℕ → List Deed → List ℕ
secure_counts s [] = []
secure_counts s (Secure f site c ∷ before) = if eqb site s then secure_counts s before ++ c ∷ [] else secure_counts s before
secure_counts s (_ ∷ before) = secure_counts s before

-- The outcomes are the node's list, in the order in which it learnt them.
pub record KeepsLog (objects : List ObjectDecl) (s : ℕ) (history : List Received) (logged : Logged) : Type 0 where
  pub count : logged.count ≡ count_in (deeds_of (map as_carried history)) s
  pub outcomes : logged.know.outcomes ≡ (known objects history).outcomes
  pub other_counts : (m : ℕ) → 1 ≤ m → m ≤ 8 → m ≢ s → known_count logged.know m ≡ known_count (known objects history) m
  -- of its own count the node knows what the log has seen of it, and the count that it has
  pub own_known : 1 ≤ s → s ≤ 8 → max (known_count logged.know s) logged.count ≡ known_count (known objects history) s
  pub secured : AreHeld logged.held (reverse (site (map as_carried history)).secured)
  pub counts : map (λ (h : Held). h.count) logged.held ≡ secure_counts s (deeds_of (map as_carried history))
  pub order : OrderIsKept (beside logged.held (reverse (site (map as_carried history)).secured))
