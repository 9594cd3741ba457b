-- The test by which a restart tells whether the log has the event of a halt: it is met where the
-- log has the event, and where it is met the log keeps the history with the event.
use Rattle.std.proofs.Common.{◌≡◌, inr, ℕ, ◌+◌, ◌-◌, ◌≤◌, ◌<◌, eqb, Bool, true, false, ◌&&◌, List, ◌∷◌, map, length, reverse, refl, sym, ap, ◌∙◌, subst, arith, eq-eqb}
use Rattle.std.specs.Prelude.{filter}
use Rattle.std.specs.List.{list_any, list_all}
use Rattle.std.proofs.lemmas.Bool.{and_from, eqb-true}
use Rattle.cam_names.specs.declared.name.Name.{Name}
use Rattle.cam_type.specs.declared.ObjectDecl.{ObjectDecl}
use Rattle.cam_know.specs.Knowledge.{Knowledge}
use Rattle.cam_know.specs.Known.{counts_eq, counts_raised}
use Rattle.cam_know.proofs.Outcomes.{counts_eq_refl, counts_eq_same}
use Rattle.cam_commit.specs.Events.{families_of}
use Rattle.cam_event.specs.declared.Deed.{Deed}
use Rattle.cam_event.specs.declared.Event.{Event}
use Rattle.cam_event.specs.Taken.{is_entered}
use Rattle.cam_event.specs.HeldSites.{Placed, site}
use Rattle.cam_event.specs.Carried.{deeds_of}
use Rattle.cam_event.specs.ByDeltas.{Received, as_carried, known}
use Rattle.cam_recman.specs.declared.Recovered.{Recovered}
use Rattle.cam_server.specs.Recovered.{AreHeld, OrderIsKept, beside}
use Rattle.cam_node.specs.Found.{after_restarts, counts_at, is_held, IsHaltedAt}
use Rattle.cam_node.specs.Halting.{taken}
use Rattle.cam_node.specs.Keeping.{IsLogOf}
use Rattle.cam_node.specs.LogOrder.{is_any_secure}
use Rattle.cam_node.specs.Opened.{IsKnowledge, logged_of}
use Rattle.cam_node.specs.Represents.{Node}
use Rattle.cam_node.proofs.AfterRestarts.{count_after, log_counts, others_told, own_told, secured_after, secures_after}
use Rattle.cam_node.proofs.HaltedKnows.{counted, had_count, had_counts, had_outcomes, lost_count, lost_known}
use Rattle.cam_node.proofs.FoundFamilies.{all_secured, among_secured, held_in, in_as, none_secured, same_counts}
use Rattle.cam_node.proofs.GrownOutcomes.{event_grown, same_long}
use Rattle.cam_node.proofs.PlacedOnce.{names_of}
use Rattle.cam_node.proofs.Restorable.{held_names}
use Rattle.cam_node.proofs.SoundHistories.{ended_sound}
use Rattle.cam_node.proofs.Unsecured.{same_secured}
use Rattle.cam_node.proofs.WrittenKnowledge.{counted_more}

module _ (objects : List ObjectDecl) (history : List Received) (whole : Received)
    (node : Node) (event : Event) (low : 1 ≤ node.number) (high : node.number ≤ 8)
    (halt : IsHaltedAt objects history whole node event) (r : Recovered) (n : ℕ)
    (less : r.count < 1000000000) where
  abbrev s : ℕ
  s = node.number

  -- the history with the taken event, and both with the restarts behind
  abbrev had : List Received
  had = taken whole ∷ history

  abbrev lost_then : List Received
  lost_then = after_restarts objects s n history

  abbrev had_then : List Received
  had_then = after_restarts objects s n had

  abbrev deeds : List Deed
  deeds = filter is_entered whole.event.deeds

  abbrev secured : List (Name × List Placed)
  secured = (site (map as_carried history)).secured

  abbrev secured_had : List (Name × List Placed)
  secured_had = (site (map as_carried had)).secured

  count_lost : IsLogOf objects s lost_then (logged_of r) → r.count ≡ node.count + n
  count_lost = lost_count objects history whole node event low high halt r n less

  count_had : IsLogOf objects s had_then (logged_of r) → r.count ≡ node.count + n
  count_had = had_count objects history whole node event low high halt r n less

  outcomes_had : r.count ≡ node.count + n
      → (known objects had_then).outcomes ≡ node.know.outcomes
  outcomes_had = had_outcomes objects history whole node event low high halt r n less

  counts_had : r.count ≡ node.count + n
      → counts_at (r.count + 1 - 1) node ≡ (known objects had_then).counts
  counts_had = had_counts objects history whole node event low high halt r n less

  abbrev pub tells_outcomes : Bool
  tells_outcomes = eqb (length r.know.outcomes) (length node.know.outcomes)

  abbrev pub tells_counts : Bool
  tells_counts =
      counts_eq (counts_raised r.know.counts s r.count) (counts_at (r.count + 1 - 1) node)

  abbrev pub holds_all : Bool
  holds_all = list_all (is_held r.held) deeds

  -- THE LOG HAS THE EVENT: then the test says so.
  pub had_tells : IsLogOf objects s had_then (logged_of r)
      → ((tells_outcomes && tells_counts) && holds_all) ≡ true
  had_tells log =
      let is = count_had log in
      let same = log.keeps.outcomes ∙ outcomes_had is in
      and_from (tells_outcomes && tells_counts) holds_all
      (and_from tells_outcomes tells_counts
      (eq-eqb (length r.know.outcomes) (length node.know.outcomes) (ap length same))
      (ap (counts_eq (counts_raised r.know.counts s r.count))
      (counts_had is ∙ sym (log_counts objects s had_then (logged_of r) low high
      log.recovered.counts.eight log.known.counts.eight log.keeps))
      ∙ counts_eq_refl (counts_raised r.know.counts s r.count)))
      (held_in r.held deeds
      ∙ in_as (families_of r.held) (names_of secured_had) deeds
      (λ f. among_secured r.held secured_had f
      (held_names r.held (reverse secured_had)
      (subst (λ (gs : List (Name × List Placed)). AreHeld r.held (reverse gs))
      (secured_after objects s had n) log.keeps.secured)))
      ∙ all_secured deeds (deeds_of (map as_carried history)) whole.mail
      (site (map as_carried history)))

  -- THE TEST IS MET, and the log keeps the history before the event: then it keeps that with the
  -- event too.
  pub none_new : IsLogOf objects s lost_then (logged_of r) → holds_all ≡ true
      → list_any is_any_secure deeds ≡ false
  none_new log holds =
      none_secured deeds (deeds_of (map as_carried history)) whole.mail
      (site (map as_carried history)) (families_of r.held)
      (λ f there. sym (among_secured r.held secured f
      (held_names r.held (reverse secured)
      (subst (λ (gs : List (Name × List Placed)). AreHeld r.held (reverse gs))
      (secured_after objects s history n) log.keeps.secured))) ∙ there)
      (sym (held_in r.held deeds) ∙ holds)
      (ended_sound objects s had
      (inr (record { whole = whole; step = halt.step; is = refl }, halt.through))).once

  secured_same : list_any is_any_secure deeds ≡ false
      → (site (map as_carried lost_then)).secured ≡ (site (map as_carried had_then)).secured
  secured_same none =
      secured_after objects s history n
      ∙ sym (same_secured deeds (deeds_of (map as_carried history)) whole.mail
      (site (map as_carried history)) none)
      ∙ sym (secured_after objects s had n)

  outcomes_same : IsLogOf objects s lost_then (logged_of r) → tells_outcomes ≡ true
      → r.know.outcomes ≡ node.know.outcomes
  outcomes_same log long =
      let before = log.keeps.outcomes ∙ lost_known objects history whole node event low high halt r n less (count_lost log) in
      let now = ap (λ (k : Knowledge). k.outcomes) halt.know in
      before
      ∙ same_long (known objects history) (known objects (whole ∷ history))
      (event_grown objects history whole)
      (sym (ap length before)
      ∙ eqb-true (length r.know.outcomes) (length node.know.outcomes) long ∙ ap length now)
      ∙ sym now

  pub lost_has : IsLogOf objects s lost_then (logged_of r) → tells_outcomes ≡ true
      → tells_counts ≡ true → holds_all ≡ true → IsLogOf objects s had_then (logged_of r)
  lost_has log long equal holds =
      let is = count_lost log in
      let none = none_new log holds in
      let same = secured_same none in
      let outcomes = outcomes_same log long ∙ sym (outcomes_had is) in
      let counts =
      counts_eq_same (counts_raised r.know.counts s r.count) (counts_at (r.count + 1 - 1) node)
      equal ∙ counts_had is in
      record {
        keeps = record {
          count =
              is ∙ sym (count_after objects s had n ∙ ap (λ (c : ℕ). c + n)
              (counted objects history whole node event low high halt r n less));
          outcomes = outcomes;
          other_counts = λ m first last off.
              others_told s r.count m r.know.counts (known objects had_then).counts low first off
              counts;
          own_known = λ first last.
              own_told s r.count r.know.counts (known objects had_then).counts low high
              log.recovered.counts.eight counts;
          secured =
              subst (λ (gs : List (Name × List Placed)). AreHeld r.held (reverse gs)) same
              log.keeps.secured;
          counts =
              log.keeps.counts ∙ secures_after objects s history n
              ∙ sym (same_counts s deeds (deeds_of (map as_carried history)) none)
              ∙ sym (secures_after objects s had n);
          order =
              subst (λ (gs : List (Name × List Placed)). OrderIsKept (beside r.held (reverse gs)))
              same log.keeps.order;
        };
        recovered = log.recovered;
        known =
            subst IsKnowledge (λ i. record { outcomes = outcomes i; counts = counts i })
            (counted_more s r.count r.know low high (omega (arith, less)) log.recovered);
      }
