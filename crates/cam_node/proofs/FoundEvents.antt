-- What a restart tells of the event at which its node halted is right.
use Rattle.std.proofs.Common.{◌≡◌, inl, inr, ℕ, ◌+◌, ◌-◌, ◌≤◌, ◌<◌, Bool, true, false, ◌&&◌, if◌then◌else◌, List, ◌∷◌, map, Option, Some, None, refl, sym, ◌∙◌, subst, arith, true≢false}
use Rattle.std.specs.Prelude.{filter}
use Rattle.std.proofs.lemmas.Bool.{and_parts}
use Rattle.cam_names.specs.declared.name.Name.{Name}
use Rattle.cam_type.specs.declared.ObjectDecl.{ObjectDecl}
use Rattle.cam_know.specs.Known.{counts_raised}
use Rattle.cam_event.specs.declared.Deed.{Deed}
use Rattle.cam_event.specs.declared.Event.{Event}
use Rattle.cam_event.specs.Taken.{is_entered}
use Rattle.cam_event.specs.HeldSites.{Placed, site}
use Rattle.cam_event.specs.ByDeltas.{Received, as_carried}
use Rattle.cam_recman.specs.declared.Recovered.{Recovered}
use Rattle.cam_node.specs.declared.found.Found.{Found}
use Rattle.cam_node.specs.declared.restart.Reread.{Reread}
use Rattle.cam_node.specs.Found.{after_restarts, found_by, IsFound, IsHaltedAt, IsLogOfOneOf, TellsWhich}
use Rattle.cam_node.specs.Halting.{taken}
use Rattle.cam_node.specs.Keeping.{IsLogOf}
use Rattle.cam_node.specs.Opened.{logged_of, raised}
use Rattle.cam_node.specs.Represents.{Node}
use Rattle.cam_node.proofs.AfterRestarts.{count_after}
use Rattle.cam_node.proofs.FoundLogs.{had_tells, holds_all, lost_has, tells_counts, tells_outcomes}
use Rattle.cam_node.proofs.HaltedKnows.{had_count, lost_count}

-- a test is met or not
pub by_test : {P : Type 0} (b : Bool) → (b ≡ true → P) → (b ≡ false → P) → P
by_test true met other = met refl
by_test false met other = other refl

module _ (objects : List ObjectDecl) (history : List Received) (whole : Received)
    (node : Node) (event : Event) (low : 1 ≤ node.number) (high : node.number ≤ 8)
    (halt : IsHaltedAt objects history whole node event) (r : Recovered) (n : ℕ)
    (less : r.count < 1000000000) where
  abbrev s : ℕ
  s = node.number

  -- the history with the taken event, and both with the restarts behind
  abbrev had : List Received
  had = taken whole ∷ history

  abbrev lost_then : List Received
  lost_then = after_restarts objects s n history

  abbrev had_then : List Received
  had_then = after_restarts objects s n had

  abbrev deeds : List Deed
  deeds = filter is_entered whole.event.deeds

  abbrev secured : List (Name × List Placed)
  secured = (site (map as_carried history)).secured

  abbrev secured_had : List (Name × List Placed)
  secured_had = (site (map as_carried had)).secured

  abbrev outcomes : Bool
  outcomes = tells_outcomes objects history whole node event low high halt r n less

  abbrev counts : Bool
  counts = tells_counts objects history whole node event low high halt r n less

  abbrev holds : Bool
  holds = holds_all objects history whole node event low high halt r n less

  abbrev pub test : Bool
  test = (outcomes && counts) && holds

  -- what is answered by a test
  abbrev Right : Bool → Type 0
  Right b =
      IsFound objects s history whole n (logged_of r)
      (record {
        event = if b then Some (taken whole).event else None;
        restarts = r.count + 1 - 1 - node.count;
      })

  -- THE ANSWER is right.
  pub found_right : IsLogOfOneOf objects s history whole n (logged_of r)
      → Right test
  found_right one = by_test test met failed
    where
      restarts : IsLogOfOneOf objects s history whole n (logged_of r)
          → r.count + 1 - 1 - node.count ≡ n
      restarts (inl log) = let is = lost_count objects history whole node event low high halt r n less log in omega (arith, is)
      restarts (inr log) = let is = had_count objects history whole node event low high halt r n less log in omega (arith, is)

      had_it : IsLogOfOneOf objects s history whole n (logged_of r) → test ≡ true
          → IsLogOf objects s had_then (logged_of r)
      had_it (inl log) is =
          let all = and_parts (outcomes && counts) holds is in
          let parts = and_parts outcomes counts all.0 in
          lost_has objects history whole node event low high halt r n less log parts.0 parts.1 all.1
      had_it (inr log) is = log

      lost_it : IsLogOfOneOf objects s history whole n (logged_of r) → test ≡ false
          → IsLogOf objects s lost_then (logged_of r)
      lost_it (inl log) is = log
      lost_it (inr log) is = absurd (true≢false (sym (had_tells objects history whole node event low high halt r n less log) ∙ is))

      met : test ≡ true → Right test
      met is =
          subst Right (sym is)
          (record { restarts = restarts one; event = (refl, had_it one is) })

      failed : test ≡ false → Right test
      failed is =
          subst Right (sym is) (record { restarts = restarts one; event = lost_it one is })

-- So it is, whatever the node keeps of a halt.
pub tells_which : (objects : List ObjectDecl) (node : Node) (halted_at : Option Event)
    (r : Recovered) (reread : Reread) (found : Found) → (1 ≤ node.number) × (node.number ≤ 8)
    → r.count < 1000000000 → reread.kept ≡ raised node.number r
    → reread.counts ≡ counts_raised r.know.counts node.number r.count
    → found ≡ found_by node halted_at reread
    → TellsWhich objects node.number node halted_at (logged_of r) found
tells_which objects node halted_at r reread found number less kept counts is =
    subst (TellsWhich objects node.number node halted_at (logged_of r)) (sym is)
    (subst
    (λ (q : Reread). TellsWhich objects node.number node halted_at (logged_of r)
    (found_by node halted_at q))
    (λ i. record { kept = sym kept i; counts = sym counts i }) (by halted_at))
  where
    read : Reread
    read =
        record {
          kept = raised node.number r;
          counts = counts_raised r.know.counts node.number r.count;
        }

    by : (at : Option Event)
        → TellsWhich objects node.number node at (logged_of r) (found_by node at read)
    by None =
        record {
          none = refl;
          restarts = λ history n rep log.
              let own = rep.own_count in
              let counted = log.keeps.count ∙ count_after objects node.number history n in
              omega (arith, own, counted);
        }
    by (Some event) = λ history whole n halt one.
        subst
        (λ (e : Event). IsFound objects node.number history whole n (logged_of r)
        (found_by node (Some e) read)) (sym halt.is_taken)
        (found_right objects history whole node event number.0 number.1 halt r n less one)
