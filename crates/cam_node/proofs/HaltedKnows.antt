-- What is known and counted at a halt, and behind the history before it or that with the taken
-- event, with restarts behind.
use Rattle.std.proofs.Common.{◌≡◌, ℕ, zero, suc, ◌+◌, ◌-◌, ◌≤◌, ◌<◌, List, ◌∷◌, map, refl, sym, ap, ◌∙◌, subst, arith}
use Rattle.std.specs.Prelude.{filter}
use Rattle.cam_names.specs.declared.name.Name.{Name}
use Rattle.cam_names.specs.Dependencies.{AreCounts}
use Rattle.cam_type.specs.declared.ObjectDecl.{ObjectDecl}
use Rattle.cam_know.specs.Knowledge.{Knowledge}
use Rattle.cam_know.specs.Known.{both}
use Rattle.cam_know.specs.Order.{told_in_order}
use Rattle.cam_event.specs.declared.Deed.{Deed}
use Rattle.cam_event.specs.declared.Event.{Event}
use Rattle.cam_event.specs.History.{count}
use Rattle.cam_event.specs.Taken.{is_entered}
use Rattle.cam_event.specs.HeldSites.{Placed, site}
use Rattle.cam_event.specs.Carried.{deeds_of}
use Rattle.cam_event.specs.ByDeltas.{Received, as_carried, known}
use Rattle.cam_event.proofs.Agree.{count_after_other}
use Rattle.cam_recman.specs.declared.Recovered.{Recovered}
use Rattle.cam_node.specs.Found.{after_restarts, counts_at, IsHaltedAt}
use Rattle.cam_node.specs.Halting.{taken}
use Rattle.cam_node.specs.Keeping.{IsLogOf}
use Rattle.cam_node.specs.Opened.{logged_of}
use Rattle.cam_node.specs.Represents.{Node}
use Rattle.cam_node.proofs.AfterRestarts.{count_after, counts_then, known_after, known_from}
use Rattle.cam_node.proofs.CoveredHistories.{none_taken}
use Rattle.cam_node.proofs.Taught.{taken_learns}

-- restarts leave the outcomes that are known
from_outcomes : (s own n : ℕ) (k : Knowledge) → (known_from s own n k).outcomes ≡ k.outcomes
from_outcomes s own zero k = refl
from_outcomes s own (suc n) k = refl

module _ (objects : List ObjectDecl) (history : List Received) (whole : Received)
    (node : Node) (event : Event) (low : 1 ≤ node.number) (high : node.number ≤ 8)
    (halt : IsHaltedAt objects history whole node event) (r : Recovered) (n : ℕ)
    (less : r.count < 1000000000) where
  abbrev s : ℕ
  s = node.number

  -- the history with the taken event, and both with the restarts behind
  abbrev had : List Received
  had = taken whole ∷ history

  abbrev lost_then : List Received
  lost_then = after_restarts objects s n history

  abbrev had_then : List Received
  had_then = after_restarts objects s n had

  abbrev deeds : List Deed
  deeds = filter is_entered whole.event.deeds

  abbrev secured : List (Name × List Placed)
  secured = (site (map as_carried history)).secured

  abbrev secured_had : List (Name × List Placed)
  secured_had = (site (map as_carried had)).secured

  pub counted : count (deeds_of (map as_carried had)) s ≡ node.count
  counted =
      count_after_other deeds (deeds_of (map as_carried history)) s
      (none_taken s whole.event.deeds halt.goes_on)
      ∙ sym halt.count

  pub knows : known objects had ≡ node.know
  knows =
      taken_learns objects (map as_carried history) whole.mail whole.event.deeds
      (both (known objects history) (told_in_order whole.load.know))
      ∙ sym halt.know

  -- The count that the log has, in either case.
  pub lost_count : IsLogOf objects s lost_then (logged_of r) → r.count ≡ node.count + n
  lost_count log =
      log.keeps.count ∙ count_after objects s history n
      ∙ ap (λ (c : ℕ). c + n) (sym halt.count)

  pub had_count : IsLogOf objects s had_then (logged_of r) → r.count ≡ node.count + n
  had_count log =
      log.keeps.count ∙ count_after objects s had n ∙ ap (λ (c : ℕ). c + n) counted

  -- What is known behind the taken event, and before it.
  pub had_known : r.count ≡ node.count + n
      → known objects had_then ≡ known_from s node.count n node.know
  had_known is =
      known_after objects s had n low high
      (subst (λ (k : Knowledge). AreCounts 1 k.counts) (sym knows) halt.knows.counts)
      (omega (arith, counted, is, less))
      ∙ (λ i. known_from s (counted i) n (knows i))

  pub lost_known : r.count ≡ node.count + n
      → (known objects lost_then).outcomes ≡ (known objects history).outcomes
  lost_known is =
      let own : ℕ = count (deeds_of (map as_carried history)) s in
      let own_is : node.count ≡ own = halt.count in
      ap (λ (k : Knowledge). k.outcomes)
      (known_after objects s history n low high halt.before.counts
      (omega (arith, own_is, is, less)))
      ∙ from_outcomes s own n (known objects history)

  pub had_counts : r.count ≡ node.count + n
      → counts_at (r.count + 1 - 1) node ≡ (known objects had_then).counts
  had_counts is =
      let back : r.count + 1 - 1 ≡ node.count + n = omega (arith, is) in
      counts_then node n (r.count + 1 - 1) back
      ∙ sym (ap (λ (k : Knowledge). k.counts) (had_known is))

  pub had_outcomes : r.count ≡ node.count + n
      → (known objects had_then).outcomes ≡ node.know.outcomes
  had_outcomes is =
      ap (λ (k : Knowledge). k.outcomes) (had_known is)
      ∙ from_outcomes s node.count n node.know
