-- A log that keeps a node's history keeps it as where letters carry all.
use Rattle.std.proofs.Common.{◌≡◌, ◌≢◌, ℕ, ◌-◌, ◌≤◌, Bool, List, map, reverse, ap, ◌∙◌, subst}
use Rattle.std.specs.Prelude.{slice_index}
use Rattle.std.specs.List.{list_any}
use Rattle.cam_type.specs.declared.ObjectDecl.{ObjectDecl}
use Rattle.cam_type.specs.declared.Held.{Held}
use Rattle.cam_know.specs.declared.Outcome.{Outcome}
use Rattle.cam_know.specs.Known.{knows, outcome_eq, known_count, IsSame}
use Rattle.cam_event.specs.declared.Event.{Event}
use Rattle.cam_event.specs.History.{count as count_in}
use Rattle.cam_event.specs.Sights.{own_deeds}
use Rattle.cam_event.specs.ByKnowledge.{held, of_node, carried_of}
use Rattle.cam_event.specs.HeldSites.{Site, site}
use Rattle.cam_event.specs.Carried.{Carried, deeds_of}
use Rattle.cam_event.specs.ByDeltas.{as_carried, of_node as received_at, received_of}
use Rattle.cam_event.specs.Taken.{IsRunTaking}
use Rattle.cam_delta.proofs.Addressed.{halted_runs_are_addressed}
use Rattle.cam_delta.proofs.SameHistories.{site_same, entries_alike}
use Rattle.cam_delta.proofs.SameKnown.{nodes_know_the_same}
use Rattle.cam_server.specs.Recovered.{AreHeld, OrderIsKept, beside}
use Rattle.cam_node.specs.Log.{Logged, secure_counts, KeepsLog}

-- what such a log keeps of the history with whole letters
pub record KeptWhole (objects : List ObjectDecl) (s : ℕ) (history : List Carried) (logged : Logged) : Type 0 where
  pub count : logged.count ≡ count_in (deeds_of history) s
  pub outcomes : (o : Outcome) → knows logged.know o ≡ knows (held objects history) o
  pub other_counts : (m : ℕ) → 1 ≤ m → m ≤ 8 → m ≢ s → known_count logged.know m ≡ known_count (held objects history) m
  pub secured : AreHeld logged.held (reverse (site history).secured)
  pub counts : map (λ (h : Held). h.count) logged.held ≡ secure_counts s (deeds_of history)
  pub order : OrderIsKept (beside logged.held (reverse (site history).secured))

pub kept_whole : (objects : List ObjectDecl) (taken : ℕ → Bool) (t : List Event) (s : ℕ) (logged : Logged) → IsRunTaking objects taken t → KeepsLog objects s (received_at (received_of objects t) s) logged → KeptWhole objects s (of_node (carried_of objects t) s) logged
kept_whole objects taken t s logged run log = record {
  count = log.count ∙ ap (λ ds. count_in ds s) deeds;
  outcomes = λ o. ap (λ os. list_any (outcome_eq o) os) log.outcomes ∙ same.outcomes o;
  other_counts = λ m low high off. log.other_counts m low high off ∙ ap (λ cs. slice_index cs (m - 1)) same.counts;
  secured = subst (λ (x : Site). AreHeld logged.held (reverse x.secured)) sites log.secured;
  counts = log.counts ∙ ap (secure_counts s) deeds;
  order = subst (λ (x : Site). OrderIsKept (beside logged.held (reverse x.secured))) sites log.order;
}
  where
    h : List Carried
    h = map as_carried (received_at (received_of objects t) s)

    j : List Carried
    j = of_node (carried_of objects t) s

    same : IsSame (held objects h) (held objects j)
    same = nodes_know_the_same objects t s (halted_runs_are_addressed objects taken t run)

    deeds : deeds_of h ≡ deeds_of j
    deeds = ap own_deeds (entries_alike objects t s)

    sites : site h ≡ site j
    sites = site_same h j (entries_alike objects t s)
