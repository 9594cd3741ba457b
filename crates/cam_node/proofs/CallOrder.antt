-- Where a call came to its site, the order of what the log holds and of what is live goes on.
use Rattle.std.proofs.Common.{◌≡◌, ℕ, ◌≤◌, List, ◌∷◌, ◌++◌, map, Option, Some, None, sym, ap, ◌∙◌, subst, arith}
use Rattle.std.specs.Prelude.{Bool}
use Rattle.std.proofs.lemmas.List.{append-nil}
use Rattle.cam_names.specs.declared.name.Name.{Name}
use Rattle.cam_type.specs.declared.ObjectDecl.{ObjectDecl}
use Rattle.cam_type.specs.declared.Held.{Held}
use Rattle.cam_know.specs.Knowledge.{Knowledge}
use Rattle.cam_know.specs.Known.{both, new_aborts, new_commits}
use Rattle.cam_know.specs.Order.{told_in_order}
use Rattle.cam_event.specs.declared.Deed.{Deed}
use Rattle.cam_event.specs.declared.Event.{Event}
use Rattle.cam_event.specs.declared.Letter.{Letter}
use Rattle.cam_event.specs.declared.LetterId.{LetterId}
use Rattle.cam_event.specs.History.{after, number_of}
use Rattle.cam_event.specs.ByPast.{event_of}
use Rattle.cam_event.specs.ByKnowledge.{new_informs}
use Rattle.cam_event.specs.HeldSites.{Placed, Site, is_any_perform, site, site_after_all}
use Rattle.cam_event.specs.Carried.{Carried, deeds_of}
use Rattle.cam_event.specs.ByDeltas.{as_carried, known}
use Rattle.cam_comman.specs.Letters.{load_on}
use Rattle.cam_recman.specs.declared.Record.{Record}
use Rattle.cam_locks.specs.declared.LiveOp.{LiveOp}
use Rattle.cam_locks.specs.Members.{In}
use Rattle.cam_server.specs.declared.Performed.{Performed}
use Rattle.cam_server.specs.Server.{Server, AreLiveOps}
use Rattle.cam_server.specs.Calls.{Asked}
use Rattle.cam_server.specs.Events.{informs_abort, IsInformedBy}
use Rattle.cam_server.specs.Steps.{did_performed}
use Rattle.cam_server.proofs.QuietDeeds.{left, quiet_live, informs_quiet}
use Rattle.cam_server.proofs.LiveOps.{are_left}
use Rattle.cam_server.proofs.Performing.{after_append, site_append}
use Rattle.cam_node.specs.declared.plan.Plan.{Plan}
use Rattle.cam_node.specs.declared.state.Core.{Core}
use Rattle.cam_node.specs.Represents.{Node}
use Rattle.cam_node.specs.Calls.{answers, mail_on}
use Rattle.cam_node.specs.LogOrder.{IsInOrder, OrderIsKeptWith, live_at, left_live}
use Rattle.cam_node.specs.OrderLaws.{CallsKeepOrder}
use Rattle.cam_node.specs.Plans.{KeepsOrderFor, held_in}
use Rattle.cam_node.specs.Standing.{Stands}
use Rattle.cam_node.specs.Served.{CallStands}
use Rattle.cam_node.proofs.CallRules.{at_site, answered}
use Rattle.cam_node.proofs.Ordering.{dropped_in_order}
use Rattle.cam_node.proofs.Performed.{no_fewer}
use Rattle.cam_node.proofs.PlacedPast.{past_after_all, site_past}
use Rattle.cam_node.proofs.Places.{left_at}
use Rattle.cam_node.proofs.ServedOrder.{served_order, InOrderTo}
use Rattle.cam_node.proofs.Unsecured.{informs_unsecured, same_secured}

-- THE LAW
pub calls_keep_order : CallsKeepOrder
calls_keep_order objects old new id mail load asked done event history logged event_is stands through
    rep order = record {
      kept = subst (λ (ds : List Deed). OrderIsKeptWith (site_after_all L (Some mail) now ds) logged
          new.server.table.site.live new.server.table.site.next) (sym deeds_are)
          (subst (λ (at : Site). OrderIsKeptWith at logged
          new.server.table.site.live new.server.table.site.next)
          (sym (site_append L (Some mail) now first (did_performed asked done).deeds))
          served.kept);
      next = subst (λ (ds : List Deed). new.server.table.site.next ≤ number_of is_any_perform
          (after L ds)) (sym deeds_are)
          (subst (λ (ds : List Deed). new.server.table.site.next ≤ number_of is_any_perform ds)
          (sym (after_append L first (did_performed asked done).deeds)) served.next);
    }
  where
    s : ℕ
    s = old.number

    H : List Carried
    H = map as_carried history

    L : List Deed
    L = deeds_of H

    K : Knowledge
    K = known objects history

    brought : Knowledge
    brought = told_in_order load.know

    k : Knowledge
    k = both K brought

    now : Site
    now = site H

    first : List Deed
    first = new_informs s brought K

    mid : Server
    mid = stands.served.server.mid

    deeds_are : event.deeds ≡ first ++ (did_performed asked done).deeds
    deeds_are =
        ap (λ (e : Event). e.deeds) event_is
        ∙ ap (λ (known_then : Knowledge). new_informs s brought known_then
        ++ (did_performed asked done).deeds) rep.knowledge

    between : Site
    between = site_after_all L (Some mail) now first

    down : Name → Bool
    down = informs_abort s first

    lives : between.live ≡ left down now.live
    lives = quiet_live s L (Some mail) now first
        (informs_quiet s (new_aborts brought K) (new_commits brought K))

    informed : IsInformedBy s first old.server mid
    informed = at_site objects history mail load asked done old new stands through rep

    lived : AreLiveOps mid.table.site.live between.live
    lived =
        subst (λ (ks : List LiveOp). AreLiveOps ks between.live) (sym informed.live)
        (subst (AreLiveOps (left_live down old.server.table.site.live)) (sym lives)
        (are_left down old.server.table.site.live now.live rep.serves.site.operations))

    dropped : OrderIsKeptWith between logged (left_live down old.server.table.site.live)
        old.server.table.site.next
    dropped =
        dropped_in_order now between logged old.server.table.site.live
        (left_live down old.server.table.site.live) old.server.table.site.next
        (same_secured first L (Some mail) now (informs_unsecured s brought K))
        (λ x h. left_at down old.server.table.site.live now.live rep.serves.site.operations x
        (subst (λ (ps : List Placed). In x
        (live_at (left_live down old.server.table.site.live) ps)) lives h))
        order.kept

    between_order : OrderIsKeptWith between logged mid.table.site.live mid.table.site.next
    between_order =
        subst (λ (ks : List LiveOp). OrderIsKeptWith between logged ks mid.table.site.next)
        (sym informed.live)
        (subst (OrderIsKeptWith between logged (left_live down old.server.table.site.live))
        (sym informed.next) dropped)

    between_next : mid.table.site.next ≤ number_of is_any_perform (after L first)
    between_next =
        let within : old.server.table.site.next ≤ number_of is_any_perform L = order.next in
        let more = no_fewer is_any_perform L first in
        omega (arith, informed.next, within, more)

    served : InOrderTo
        (number_of is_any_perform (after (after L first) (did_performed asked done).deeds))
        (site_after_all (after L first) (Some mail) between (did_performed asked done).deeds) logged
        new.server.table.site
    served =
        served_order (after L first) mail between logged asked k mid new.server done stands.call
        (sym (answered objects history mail load asked done old new stands rep))
        stands.served.server.after lived
        (past_after_all L (Some mail) now first (site_past (map as_carried history)))
        (record { kept = between_order; next = between_next })

-- So does its plan, where the event stands so.
pub stood_order : (objects : List ObjectDecl) (id : LetterId) (letter : Letter) (first now : Core)
    (asked : Asked) (done : Performed) (plan : Plan)
    → plan.stepped.event
    ≡ event_of (answers first).number (Some id)
    (new_informs (answers first).number (told_in_order letter.know) (answers first).know)
    (did_performed asked done)
    → plan.adds ≡ None
    → ((new : Node) → Stands plan.change plan.heard now.knowing.known (answers now) new
    → CallStands (mail_on letter) (load_on letter) asked done (answers first) new)
    → KeepsOrderFor objects id letter first now plan
stood_order objects id letter first now asked done plan event_is none then new history logged holds
    stands through rep may keeps order held =
    subst
    (λ (hs : List Held). IsInOrder (record {
      event = plan.stepped.event;
      mail = Some (mail_on letter);
      load = load_on letter;
    } ∷ history) hs new.server.table.site)
    (sym (ap (λ (adds : Option Record). logged.held ++ held_in adds) none
    ∙ append-nil logged.held))
    (calls_keep_order objects (answers first) new id (mail_on letter) (load_on letter) asked done
    plan.stepped.event history logged.held event_is (then new stands) through rep order)
