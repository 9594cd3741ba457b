-- The node that a restart makes of what its log keeps stands for the history with the restart.
use Rattle.std.proofs.Common.{◌≡◌, ℕ, ◌+◌, ◌<◌, ◌≤◌, Bool, true, false, ◌||◌, if◌then◌else◌, List, [], ◌∷◌, map, refl, sym, ap, ◌∙◌, subst, arith, eq-eqb}
use Rattle.std.specs.Prelude.{reverse, min, max, length}
use Rattle.std.specs.List.{list_any}
use Rattle.cam_names.specs.declared.name.Name.{Name}
use Rattle.cam_type.specs.declared.ObjectDecl.{ObjectDecl}
use Rattle.cam_type.specs.declared.Held.{Held}
use Rattle.cam_know.specs.Known.{is_abort_of, is_commit_of, with_count}
use Rattle.cam_event.specs.History.{count}
use Rattle.cam_event.specs.HeldSites.{Placed, site}
use Rattle.cam_event.specs.Carried.{Carried, deeds_of}
use Rattle.cam_event.specs.Loads.{no_places, no_load, with_load}
use Rattle.cam_event.specs.ByDeltas.{Received, as_carried, known, crashed, came_from, have_of, acked_of, places_of}
use Rattle.cam_locks.specs.Restored.{restored, CanRestore}
use Rattle.cam_commit.specs.Events.{AreRecovered, families_of, secured_families}
use Rattle.cam_commit.specs.Families.{Families, CommitsFamilies}
use Rattle.cam_commit.proofs.Recovering.{recovers_families}
use Rattle.cam_recman.specs.declared.Record.TheVariants as records
use Rattle.cam_recman.specs.declared.Recovered.{Recovered}
use Rattle.cam_recman.specs.Recovery.{with_records}
use Rattle.cam_locks.specs.Site.{Site}
use Rattle.cam_server.specs.Calls.{IsNew}
use Rattle.cam_server.specs.Events.{IsLogged}
use Rattle.cam_server.specs.Recovered.{AreHeld, beside, OrderIsKept}
use Rattle.cam_server.specs.Server.{ServesSite}
use Rattle.cam_server.proofs.Restarting.{restart_keeps as server_after}
use Rattle.cam_tranman.specs.Actions.{RunsActions}
use Rattle.cam_tranman.proofs.Restarting.{restart_keeps as actions_after}
use Rattle.cam_tranman.specs.Calls as tranman
use Rattle.cam_node.specs.Halting.{IsEnded, restarted}
use Rattle.cam_node.specs.Keeping.{IsLogOf}
use Rattle.cam_node.specs.Log.{KeepsLog}
use Rattle.cam_node.specs.LogOrder.{IsInOrder}
use Rattle.cam_node.specs.Opened.{IsKnowledge, CanRestart, logged_of, raised, kept_by}
use Rattle.cam_node.specs.Represents.{Node, Represents}
use Rattle.cam_node.specs.Renewed.{IsRenewed}
use Rattle.cam_node.proofs.Crashing.{restart_in_order}
use Rattle.cam_node.proofs.Ended.{ended_orderly, ended_informed, ended_at}
use Rattle.cam_node.proofs.WrittenKnowledge.{counted_more}
use Rattle.cam_node.proofs.Restarting.{count_then, restart_keeps, restart_knows}

-- the log with the restart
pub restart_logged : (objects : List ObjectDecl) (s : ℕ) (history : List Received) (r kept :
    Recovered) (replaced : Bool) → (1 ≤ s) × (s ≤ 8) → kept ≡ raised s r → r.count < 1000000000
    → IsLogOf objects s history (logged_of r) → IsLogOf objects s (restarted objects s history ∷
    history) (logged_of (kept_by replaced r kept))
restart_logged objects s history r kept replaced node is less log =
    subst (λ (q : Recovered). IsLogOf objects s (restarted objects s history ∷ history) (logged_of
    (kept_by replaced r q))) (sym is) (by replaced)
  where
    keeps : KeepsLog objects s (restarted objects s history ∷ history) (logged_of (raised s r))
        × KeepsLog objects s (restarted objects s history ∷ history) (logged_of (with_records r
        (records.Count (r.count + 1) ∷ [])))
    keeps = restart_keeps objects s history r node.0 node.1 log.recovered log.known log.keeps

    more : IsKnowledge (with_count s (r.count + 1) r.know)
    more = counted_more s (r.count + 1) r.know node.0 node.1 (omega (arith, less)) log.recovered

    knows : IsKnowledge (known objects (restarted objects s history ∷ history))
    knows = subst IsKnowledge (restart_knows objects s history r node.0 node.1 log.recovered
        log.known log.keeps) more

    by : (b : Bool) → IsLogOf objects s (restarted objects s history ∷ history) (logged_of (kept_by
        b r (raised s r)))
    by true = record { keeps = keeps.0; recovered = more; known = knows }
    by false = record { keeps = keeps.1; recovered = log.recovered; known = knows }

-- nothing is noted after it
crashed_there : (objects : List ObjectDecl) (s : ℕ) (history : List Received) → crashed (restarted
    objects s history).event ≡ true
crashed_there objects s history = ap (λ (b : Bool). b || false) (eq-eqb s s refl)

no_have : (objects : List ObjectDecl) (s r : ℕ) (history : List Received) → have_of (restarted
    objects s history ∷ history) r ≡ 0
no_have objects s r history =
    ap (λ (b : Bool). if b then 0 else if came_from r (restarted objects s history) then max
    (have_of history r) 0 else have_of history r) (crashed_there objects s history)

no_acked : (objects : List ObjectDecl) (s r : ℕ) (history : List Received) → acked_of objects
    (restarted objects s history ∷ history) r ≡ 0
no_acked objects s r history =
    ap (λ (b : Bool).
    if b then 0
    else if came_from r (restarted objects s history)
    then max (acked_of objects history r) (min 0 (length (with_load (known objects history)
    no_load).outcomes))
    else acked_of objects history r)
    (crashed_there objects s history)

none_noted : (objects : List ObjectDecl) (s : ℕ) (history : List Received) → places_of objects
    (restarted objects s history ∷ history) ≡ no_places
none_noted objects s history = λ i. record {
  have =
      no_have objects s 1 history i ∷ no_have objects s 2 history i ∷ no_have objects s 3 history i
      ∷ no_have objects s 4 history i
      ∷ no_have objects s 5 history i ∷ no_have objects s 6 history i ∷ no_have objects s 7 history
      i ∷ no_have objects s 8 history i ∷ [];
  acked =
      no_acked objects s 1 history i ∷ no_acked objects s 2 history i ∷ no_acked objects s 3
      history i ∷ no_acked objects s 4 history i
      ∷ no_acked objects s 5 history i ∷ no_acked objects s 6 history i ∷ no_acked objects s 7
      history i ∷ no_acked objects s 8 history i ∷ [];
}

-- the families that are held are those that were secured
held_families : (held : List Held) (ps : List (Name × List Placed)) → AreHeld held ps → families_of
    held ≡ map (λ g. g.0) ps
held_families [] [] are = refl
held_families [] (p ∷ ps) are = absurd are
held_families (h ∷ hs) [] are = absurd are
held_families (h ∷ hs) (p ∷ ps) are = λ i. are.0 i ∷ held_families hs ps are.2 i

secured_then : (held : List Held) (secured : List Name) (families : Families) → families_of held ≡
    secured → AreRecovered (families_of held) families
    → AreRecovered secured families
secured_then held secured families are recovered = subst (λ (fs : List Name). AreRecovered fs
    families) are recovered

-- so what is kept is what the history's site is restored from,
kept_logged : (objects : List ObjectDecl) (s : ℕ) (history : List Received) (r kept : Recovered)
    → kept ≡ raised s r → CanRestart objects s r → IsEnded objects s history
    → IsLogOf objects s history (logged_of r)
    → IsLogged objects s (map as_carried history) kept.know kept.held
kept_logged objects s history r kept is can ended log = record {
  secured =
      subst (λ (hs : List Held). AreHeld hs (reverse (site H).secured)) (sym held_is)
      log.keeps.secured;
  order =
      subst (λ (hs : List Held). OrderIsKept (beside hs (reverse (site H).secured))) (sym held_is)
      log.keeps.order;
  restorable = subst (λ (hs : List Held). CanRestore objects s hs) (sym held_is) can.1;
  aborts = λ u. ap (list_any (is_abort_of u)) outcomes ∙ (ended_informed objects s history u ended).0;
  commits =
      λ u. ap (list_any (is_commit_of u)) outcomes ∙ (ended_informed objects s history u ended).1;
}
  where
    H : List Carried
    H = map as_carried history

    held_is : kept.held ≡ r.held
    held_is = ap (λ (q : Recovered). q.held) is

    outcomes : kept.know.outcomes ≡ (known objects history).outcomes
    outcomes = ap (λ (q : Recovered). q.know.outcomes) is ∙ log.keeps.outcomes

-- and what the log holds then stands in the order in which it is live.
pub renewed_order : (objects : List ObjectDecl) (s : ℕ) (history : List Received)
    (r kept : Recovered) (replaced : Bool) (new : Node) → kept ≡ raised s r
    → CanRestart objects s r → IsRenewed objects s kept new → IsEnded objects s history
    → IsLogOf objects s history (logged_of r)
    → IsInOrder (restarted objects s history ∷ history) (kept_by replaced r kept).held
    new.server.table.site
renewed_order objects s history r kept replaced new is can has ended log =
    subst (λ (t : Site). IsInOrder (c ∷ history) (kept_by replaced r kept).held t)
    (sym has.server.site_is)
    (subst (λ (hs : List Held). IsInOrder (c ∷ history) hs (restored objects s kept.held kept.know))
    (held_by replaced)
    (restart_in_order objects s history c kept.know kept.held refl
    (kept_logged objects s history r kept is can ended log)))
  where
    c : Received
    c = restarted objects s history

    held_by : (b : Bool) → kept.held ≡ (kept_by b r kept).held
    held_by true = refl
    held_by false = ap (λ (q : Recovered). q.held) is

pub renewed : (objects : List ObjectDecl) (s : ℕ) (history : List Received) (r kept : Recovered)
    (new : Node) → (1 ≤ s) × (s ≤ 8) → kept ≡ raised s r → CanRestart objects s r
    → IsRenewed objects s kept new → IsEnded objects s history → IsLogOf objects s history
    (logged_of r) → Represents objects (restarted objects s history ∷ history) new
renewed objects s history r kept new node is can has ended log = record {
  own_count = has.count ∙ counted ∙ ap (count (deeds_of (map as_carried (c ∷ history)))) (sym
      has.number);
  knowledge = has.know ∙ knows;
  places = has.places ∙ sym (none_noted objects s history);
  runs =
      subst (λ (n : ℕ). RunsActions objects n (as_carried c ∷ H) new.actions) (sym has.number)
      (actions_after objects s H (as_carried c) new.actions (ended_orderly objects s history ended)
      refl
      (subst (λ (n : ℕ). tranman.AreSame (tranman.none_run s n) new.actions) next has.actions));
  commits =
      subst (λ (n : ℕ). CommitsFamilies objects n (as_carried c ∷ H) new.families) (sym has.number)
      (recovers_families objects s H (as_carried c) new.families (ap (λ (b : Bool). b || false)
      (eq-eqb s s refl)) (λ f. refl) (ended_at objects s history ended)
      (secured_then kept.held (secured_families H) new.families (held_families kept.held (reverse
      (site H).secured) held) has.families));
  serves =
      subst (λ (n : ℕ). ServesSite objects n (as_carried c ∷ H) new.server) (sym has.number)
      (server_after objects s H (as_carried c) kept.know kept.held new.server refl
      (kept_logged objects s history r kept is can ended log)
      (subst (λ (n : ℕ). IsNew n (restored objects s kept.held kept.know) new.server) next
      has.server));
}
  where
    H : List Carried
    H = map as_carried history

    c : Received
    c = restarted objects s history

    knows : kept.know ≡ known objects (c ∷ history)
    knows = ap (λ (q : Recovered). q.know) is ∙ restart_knows objects s history r node.0 node.1
        log.recovered log.known log.keeps

    next : kept.count ≡ count (deeds_of H) s + 1
    next = ap (λ (q : Recovered). q.count) is ∙ ap (λ (n : ℕ). n + 1) log.keeps.count

    counted : kept.count ≡ count (deeds_of (map as_carried (c ∷ history))) s
    counted = next ∙ sym (count_then objects s history)

    held : AreHeld kept.held (reverse (site H).secured)
    held = (kept_logged objects s history r kept is can ended log).secured
