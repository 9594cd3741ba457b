-- The order of what a log holds and of what is live goes on over each event of a node that secures nothing.
use Rattle.std.proofs.Common.{◌≡◌, ◌⊎◌, inl, inr, ℕ, ◌≤◌, Bool, true, false, not, cond, List, [], ◌∷◌, map, filter, refl, sym, ap, ◌∙◌, subst, arith, true≢false}
use Rattle.std.specs.List.{list_any}
use Rattle.cam_names.specs.declared.name.Name.{Name}
use Rattle.cam_names.specs.Names.{ancestors}
use Rattle.cam_event.specs.declared.Deed.{Deed}
use Rattle.cam_event.specs.HeldSites.{Placed, Site, is_any_perform, site, site_after_all}
use Rattle.cam_event.specs.Carried.{deeds_of}
use Rattle.cam_event.specs.ByDeltas.{Received, as_carried}
use Rattle.cam_locks.specs.declared.LiveOp.{LiveOp}
use Rattle.cam_locks.specs.Members.{In}
use Rattle.cam_locks.proofs.Members.{in_filter}
use Rattle.cam_server.specs.Server.{Server, AreLiveOps}
use Rattle.cam_server.specs.Calls.{AreInformed}
use Rattle.cam_server.specs.Events.{informs_abort}
use Rattle.cam_server.proofs.QuietDeeds.{is_down, left, quiet_live}
use Rattle.cam_node.specs.LogOrder.{live_at, performed, OrderIsKeptWith, HasDropped}
use Rattle.cam_node.specs.OrderLaws.{NothingIsInOrder, DroppingKeepsOrder}
use Rattle.cam_node.proofs.Performed.{no_fewer}
use Rattle.cam_node.proofs.Ordering.{dropped_in_order}
use Rattle.cam_node.proofs.Unsecured.{same_secured}

-- A table that drops operations by their actions drops just those that the site drops, where what is left of both stands for one another.
first_placed : (k : LiveOp) (ks : List LiveOp) (ps : List Placed) → AreLiveOps (k ∷ ks) ps
    → (p : Placed) × In p ps × (k.action ≡ p.operation.action)
first_placed k ks [] are = absurd are
first_placed k ks (p ∷ ps) are = (p, inl refl, are.0.action)

first_live : (ks : List LiveOp) (p : Placed) (ps : List Placed) → AreLiveOps ks (p ∷ ps)
    → (k : LiveOp) × In k ks × (k.action ≡ p.operation.action)
first_live [] p ps are = absurd are
first_live (k ∷ ks) p ps are = (k, inl refl, are.0.action)

kept_at : (keeps down : Name → Bool) (ks : List LiveOp) (ps : List Placed) → AreLiveOps ks ps
    → AreLiveOps (filter (λ k. keeps k.action) ks) (left down ps)
    → (x : ℕ × ℕ) → In x (live_at (filter (λ k. keeps k.action) ks) (left down ps))
    → In x (live_at ks ps)
kept_at keeps down [] [] are more x h = h
kept_at keeps down [] (p ∷ ps) are more x h = absurd are
kept_at keeps down (k ∷ ks) [] are more x h = absurd are
kept_at keeps down (k ∷ ks) (p ∷ ps) are more x h =
    by (keeps k.action) (not (is_down down p)) refl refl more
    (λ rest. kept_at keeps down ks ps are.1 rest x) h
  where
    js : List LiveOp
    js = filter (λ k. keeps k.action) ks

    qs : List Placed
    qs = left down ps

    stays : Name → Bool
    stays a = not (list_any down (ancestors a))

    by : (b c : Bool) → keeps k.action ≡ b → stays p.operation.action ≡ c
        → AreLiveOps (cond b (k ∷ js) js) (cond c (p ∷ qs) qs)
        → (AreLiveOps js qs → In x (live_at js qs) → In x (live_at ks ps))
        → In x (live_at (cond b (k ∷ js) js) (cond c (p ∷ qs) qs))
        → (x ≡ (k.index, p.index)) ⊎ In x (live_at ks ps)
    by true true one other more rest (inl e) = inl e
    by true true one other more rest (inr m) = inr (rest more.1 m)
    by false false one other more rest m = inr (rest more m)
    by true false one other more rest m =
        let found = first_placed k js qs more in
        let there : stays found.0.operation.action ≡ true =
        (in_filter (λ q. not (is_down down q)) found.0 ps found.1).1 in
        absurd (true≢false (sym there ∙ ap stays (sym found.2 ∙ are.0.action) ∙ other))
    by false true one other more rest m =
        let found = first_live js p qs more in
        let there : keeps found.0.action ≡ true =
        (in_filter (λ j. keeps j.action) found.0 ks found.1).1 in
        absurd (true≢false (sym there ∙ ap keeps (found.2 ∙ sym are.0.action) ∙ one))

-- At first there is nothing.
pub nothing_in_order : NothingIsInOrder
nothing_in_order table first = record {
  kept = record {
    order = λ one other h k. absurd (none table.live one h);
    below = λ one h. absurd (none table.live one h);
    at_most = λ one h. absurd (none table.live one h);
  };
  next = omega (arith, first);
}
  where
    none : (ks : List LiveOp) (x : ℕ × ℕ) → In x (live_at ks []) → ⊥
    none [] x h = h
    none (k ∷ ks) x h = h

-- the next index, where nothing is performed
pub next_stays : (history : List Received) (c : Received) (old new : ℕ) → new ≡ old
    → old ≤ performed history → new ≤ performed (c ∷ history)
next_stays history c old new same within =
    let more = no_fewer is_any_perform (deeds_of (map as_carried history)) c.event.deeds in
    omega (arith, same, within, more)

-- After an event that performs and secures nothing, and is no crash.
pub dropping_in_order : DroppingKeepsOrder
dropping_in_order objects s history c logged old new quiet none dropped before behind is = record {
  kept =
      subst (λ (n : ℕ). OrderIsKeptWith then logged new.table.site.live n) (sym dropped.next)
      (dropped_in_order now then logged old.table.site.live new.table.site.live old.table.site.next
      there among is.kept);
  next = next_stays history c old.table.site.next new.table.site.next dropped.next is.next;
}
  where
    L : List Deed
    L = deeds_of (map as_carried history)

    now : Site
    now = site (map as_carried history)

    then : Site
    then = site_after_all L c.mail now c.event.deeds

    down : Name → Bool
    down = informs_abort s c.event.deeds

    there : then.secured ≡ now.secured
    there = same_secured c.event.deeds L c.mail now none

    lives : then.live ≡ left down now.live
    lives = quiet_live s L c.mail now c.event.deeds quiet

    kept : List LiveOp
    kept = filter (λ k. dropped.keeps k.action) old.table.site.live

    more : AreLiveOps kept (left down now.live)
    more =
        subst (λ (ks : List LiveOp). AreLiveOps ks (left down now.live)) dropped.live
        (subst (AreLiveOps new.table.site.live) lives behind.site.operations)

    among : (x : ℕ × ℕ) → In x (live_at new.table.site.live then.live)
        → In x (live_at old.table.site.live now.live)
    among x h =
        kept_at dropped.keeps down old.table.site.live now.live before.site.operations more x
        (subst (λ (ks : List LiveOp). In x (live_at ks (left down now.live))) dropped.live
        (subst (λ (ps : List Placed). In x (live_at new.table.site.live ps)) lives h))

-- what is informed has dropped operations
pub informed_drops : (aborts commits : Name → Bool) (old new : Server)
    → AreInformed aborts commits old new → HasDropped old.table.site new.table.site
informed_drops aborts commits old new are = record {
  keeps = λ a. not (list_any aborts (ancestors a));
  live = are.live;
  next = are.next;
}
