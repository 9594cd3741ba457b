-- The order of what a log holds and of what is live goes on over an event that secures a family.
use Rattle.std.proofs.Common.{◌≡◌, ℕ, Bool, List, [], ◌∷◌, ◌++◌, map, reverse, sym, ap, ◌∙◌, subst}
use Rattle.cam_names.specs.declared.name.Name.{Name}
use Rattle.cam_type.specs.declared.Held.{Held}
use Rattle.cam_type.specs.declared.HeldOp.{HeldOp}
use Rattle.cam_event.specs.declared.Deed.{Deed}
use Rattle.cam_event.specs.declared.Deed.TheVariants.{Secure}
use Rattle.cam_event.specs.HeldSites.{Placed, Site, site, site_after_all}
use Rattle.cam_event.specs.Carried.{deeds_of}
use Rattle.cam_event.specs.ByDeltas.{as_carried}
use Rattle.cam_locks.specs.declared.LiveOp.{LiveOp}
use Rattle.cam_locks.specs.Members.{In}
use Rattle.cam_server.specs.Server.{AreLiveOps}
use Rattle.cam_server.specs.Events.{informs_abort}
use Rattle.cam_server.specs.Recovered.{AreHeldOps, AreHeld}
use Rattle.cam_server.proofs.QuietDeeds.{left, quiet_live}
use Rattle.cam_server.proofs.LiveOps.{are_left}
use Rattle.cam_server.proofs.Performing.{site_append}
use Rattle.cam_node.specs.Entries.{AreHoldings}
use Rattle.cam_node.specs.LogOrder.{live_at, OrderIsKeptWith, left_live}
use Rattle.cam_node.specs.OrderLaws.{SecuringKeepsOrder}
use Rattle.cam_node.proofs.Places.{left_at, family_ops, held_ops, family_held}
use Rattle.cam_node.proofs.Ordering.{dropped_in_order, with_family, secured_in_order, secured_order}
use Rattle.cam_node.proofs.Unsecured.{same_secured, holdings_behind}
use Rattle.cam_node.proofs.InOrder.{next_stays}

-- After an event that secures a family, which was informed before of the letter's news: what is held of it is what is live of it.
pub securing_in_order : SecuringKeepsOrder
securing_in_order holds objects s history c first f n logged old new deeds quiet none
    lives_new next_new before logs is_held is = (
      subst (AreHoldings holds L c.mail now logged) (sym deeds)
          (holdings_behind holds first (Secure f s n ∷ []) L c.mail now logged none (
            record {
              family = ap (λ (h : Held). h.family) is_held;
              count = ap (λ (h : Held). h.count) is_held;
              operations =
                  subst (λ (hs : List HeldOp). AreHeldOps hs (family_ops f mid.live)) (sym ops)
                  (family_held f kept mid.live lived);
              order =
                  secured_order f mid logged
                  (holds f n) kept old.table.site.next lived mid_logs ops mid_order;
            },
            tt,
          )),
      record {
        kept = subst
            (λ (at : Site). OrderIsKeptWith at
            (logged ++ holds f n ∷ []) new.live new.next) (sym then_is)
            (subst
            (λ (ks : List LiveOp). OrderIsKeptWith (with_family f mid)
            (logged ++ holds f n ∷ []) ks new.next) (sym lives_new)
            (subst
            (λ (next : ℕ). OrderIsKeptWith (with_family f mid) (logged ++ holds f n ∷ []) kept next)
            (sym next_new)
            (secured_in_order f mid logged
            (holds f n) kept old.table.site.next lived mid_logs ops mid_order)));
        next = next_stays history c old.table.site.next new.next next_new is.next;
      },
    )
  where
    L : List Deed
    L = deeds_of (map as_carried history)

    now : Site
    now = site (map as_carried history)

    mid : Site
    mid = site_after_all L c.mail now first

    down : Name → Bool
    down = informs_abort s first

    kept : List LiveOp
    kept = left_live down old.table.site.live

    lives : mid.live ≡ left down now.live
    lives = quiet_live s L c.mail now first quiet

    lived : AreLiveOps kept mid.live
    lived =
        subst (AreLiveOps kept) (sym lives)
        (are_left down old.table.site.live now.live before.site.operations)

    there : mid.secured ≡ now.secured
    there = same_secured first L c.mail now none

    mid_logs : AreHeld logged (reverse mid.secured)
    mid_logs =
        subst (λ (gs : List (Name × List Placed)). AreHeld logged (reverse gs)) (sym there) logs

    mid_order : OrderIsKeptWith mid logged kept old.table.site.next
    mid_order =
        dropped_in_order now mid logged old.table.site.live kept old.table.site.next there
        (λ x h. left_at down old.table.site.live now.live before.site.operations x
        (subst (λ (ps : List Placed). In x (live_at kept ps)) lives h)) is.kept

    ops : (holds f n).ops ≡ held_ops f kept
    ops = ap (λ (h : Held). h.ops) is_held ∙ ap (held_ops f) lives_new

    then_is : site_after_all L c.mail now c.event.deeds ≡ with_family f mid
    then_is =
        ap (site_after_all L c.mail now) deeds ∙ site_append L c.mail now first (Secure f s n ∷ [])
