-- After a restart the server that was restored from the log serves the site of the history.
use Rattle.std.proofs.Common.{◌≡◌, ℕ, eqb, Bool, true, false, not, ◌&&◌, ◌||◌, if◌then◌else◌, List, [], ◌∷◌, ◌++◌, map, filter, flat_map, reverse, zip, sym, ap, subst, ◌∙◌, refl}
use Rattle.std.specs.List.{list_any}
use Rattle.std.proofs.lemmas.List.{reverse-reverse}
use Rattle.cam_names.specs.declared.name.Name.{Name}
use Rattle.cam_names.specs.Names.{name_eq}
use Rattle.cam_names.proofs.Names.{name_eq_same, name_eq_sym}
use Rattle.cam_type.specs.declared.ObjectDecl.{ObjectDecl}
use Rattle.cam_type.specs.declared.Held.{Held}
use Rattle.cam_type.specs.declared.HeldOp.{HeldOp}
use Rattle.cam_know.specs.Knowledge.{Knowledge}
use Rattle.cam_know.specs.Known.{committed_name}
use Rattle.cam_event.specs.declared.Deed.{Deed}
use Rattle.cam_event.specs.declared.Deed.TheVariants.{Crash}
use Rattle.cam_event.specs.History.{after, informed}
use Rattle.cam_event.specs.HeldSites.{Placed, in_order, for_family, site, site_after_all}
use Rattle.cam_event.specs.Carried.{Carried, deeds_of}
use Rattle.cam_event.proofs.SameInforms.{among_committed}
use Rattle.cam_event.proofs.Snoc.{count_crash}
use Rattle.cam_locks.specs.Names.{has_name, once}
use Rattle.cam_locks.specs.Site as locks
use Rattle.cam_locks.specs.Restored.{ops_of}
use Rattle.cam_locks.proofs.HeldIndices.{restored_rise}
use Rattle.cam_server.specs.Server.{IsSiteOf}
use Rattle.cam_server.specs.Recovered.{AreHeldOps, AreHeld, beside}
use Rattle.cam_server.specs.Events.{IsLogged, RestartKeeps}
use Rattle.cam_server.proofs.ToldOutcomes.{any_kept}
use Rattle.cam_server.proofs.PlacedOrder.{IsAway, AreAway, IsApart, AreApart, order_backwards}
use Rattle.cam_server.proofs.LogOrder.{EachOrdered, AllOrdered, log_ordered}
use Rattle.cam_server.proofs.SortedAlike.{sorted_alike}
use Rattle.cam_server.proofs.LogAlike.{group, groups, kept_groups, each_left, each_right, all_right, log_alike, log_live}
use Rattle.cam_server.proofs.Serving.{serves_after}

-- each of the first pairs is in order with the others
abbrev Cross : List (HeldOp × Placed) → List (HeldOp × Placed) → Type 0
Cross [] bs = Unit {0}
Cross (z ∷ zs) bs = EachOrdered z bs × Cross zs bs

cross : (zs bs : List (HeldOp × Placed)) → AllOrdered (zs ++ bs) → Cross zs bs
cross [] bs all = tt
cross (z ∷ zs) bs all = (each_right z zs bs all.0, cross zs bs all.1)

cross_left : (zs xs ys : List (HeldOp × Placed)) → Cross zs (xs ++ ys) → Cross zs xs
cross_left [] xs ys all = tt
cross_left (z ∷ zs) xs ys all = (each_left z xs ys all.0, cross_left zs xs ys all.1)

cross_right : (zs xs ys : List (HeldOp × Placed)) → Cross zs (xs ++ ys) → Cross zs ys
cross_right [] xs ys all = tt
cross_right (z ∷ zs) xs ys all = (each_right z xs ys all.0, cross_right zs xs ys all.1)

-- so no two groups share a place
one_away : (e : Name) (p : Placed) (b : HeldOp × Placed) (hs : List HeldOp) (ps : List Placed)
    → p.index ≡ b.1.index → AreHeldOps hs ps → EachOrdered b (zip hs ps)
    → IsAway p (map (for_family e) ps)
one_away e p b [] [] pi held each = tt
one_away e p b [] (q ∷ ps) pi held each = absurd held
one_away e p b (h ∷ hs) [] pi held each = absurd held
one_away e p b (h ∷ hs) (q ∷ ps) pi held each = (ap (λ (i : ℕ). eqb i q.index) pi ∙ each.0.apart, one_away e p b hs ps pi held.1 each.1)

ops_away : (f e : Name) (hs is : List HeldOp) (ps qs : List Placed) → AreHeldOps hs ps → AreHeldOps is qs
    → Cross (zip hs ps) (zip is qs)
    → AreAway (map (for_family f) ps) (map (for_family e) qs)
ops_away f e [] is [] qs held more all = tt
ops_away f e [] is (p ∷ ps) qs held more all = absurd held
ops_away f e (h ∷ hs) is [] qs held more all = absurd held
ops_away f e (h ∷ hs) is (p ∷ ps) qs held more all =
    (one_away e (for_family f p) (h, p) is qs refl more all.0, ops_away f e hs is ps qs held.1 more all.1)

away_none : (ps : List Placed) → AreAway ps []
away_none [] = tt
away_none (p ∷ ps) = (tt, away_none ps)

group_away : (x y : Bool) (ps qs : List Placed) → AreAway ps qs
    → AreAway (if x then [] else ps) (if y then [] else qs)
group_away true y ps qs away = tt
group_away false true ps qs away = away_none ps
group_away false false ps qs away = away

group_apart : (L : List Deed) (s : ℕ) (h : Held) (g : Name × List Placed) (hs : List Held) (gs : List (Name × List Placed))
    → AreHeldOps h.ops g.1 → AreHeld hs gs
    → Cross (zip h.ops g.1) (beside hs gs) → IsApart (group L s) g gs
group_apart L s h g [] [] ops held all = tt
group_apart L s h g [] (e ∷ gs) ops held all = absurd held
group_apart L s h g (i ∷ hs) [] ops held all = absurd held
group_apart L s h g (i ∷ hs) (e ∷ gs) ops held all = (
  group_away (informed L s g.0 false) (informed L s e.0 false) (map (for_family g.0) g.1) (map (for_family e.0) e.1)
      (ops_away g.0 e.0 h.ops i.ops g.1 e.1 ops held.1 (cross_left (zip h.ops g.1) (zip i.ops e.1) (beside hs gs) all)),
  group_apart L s h g hs gs ops held.2 (cross_right (zip h.ops g.1) (zip i.ops e.1) (beside hs gs) all),
)

groups_apart : (L : List Deed) (s : ℕ) (hs : List Held) (gs : List (Name × List Placed)) → AreHeld hs gs
    → AllOrdered (beside hs gs) → AreApart (group L s) gs
groups_apart L s [] [] held all = tt
groups_apart L s [] (g ∷ gs) held all = absurd held
groups_apart L s (h ∷ hs) [] held all = absurd held
groups_apart L s (h ∷ hs) (g ∷ gs) held all =
    (group_apart L s h g hs gs held.1 held.2 (cross (zip h.ops g.1) (beside hs gs) all), groups_apart L s hs gs held.2 (all_right (zip h.ops g.1) (beside hs gs) all))

-- each of the names, kept once
has_once : (names : List Name) (u : Name) → has_name (once names) u ≡ list_any (name_eq u) names
has_once [] u = refl
has_once (a ∷ names) u = by (name_eq u a) refl (has_once names u)
  where
    and_true : (b : Bool) → (b && true) ≡ b
    and_true true = refl
    and_true false = refl

    by : (b : Bool) → name_eq u a ≡ b → has_name (once names) u ≡ list_any (name_eq u) names
        → (b || has_name (filter (λ c. not (name_eq a c)) (once names)) u) ≡ (b || list_any (name_eq u) names)
    by true is rest = refl
    by false is rest =
        any_kept (name_eq u) (λ c. not (name_eq a c)) true (once names)
        (λ c same. ap (λ (d : Name). not (name_eq a d)) (sym (name_eq_same u c same)) ∙ ap not (name_eq_sym a u ∙ is))
        ∙ and_true (list_any (name_eq u) (once names)) ∙ rest

-- what is live after a restart, by what the log held
pub crash_live : (objects : List ObjectDecl) (s : ℕ) (before : List Carried) (c : Carried) (know : Knowledge) (logged : List Held)
    → c.event.deeds ≡ Crash s ∷ [] → IsLogged objects s before know logged
    → in_order (groups (deeds_of before) s (reverse (site before).secured)) ≡ (site (c ∷ before)).live
crash_live objects s before c know logged crash log =
    let L : List Deed = deeds_of before in
    let gs : List (Name × List Placed) = (site before).secured in
    let ordered = log_ordered objects s logged (reverse gs) log.secured log.order log.restorable in
    sym (ap (λ hs. in_order (groups L s hs)) (sym (reverse-reverse gs)) ∙ order_backwards (group L s) (reverse gs) (groups_apart L s logged (reverse gs) log.secured ordered))
    ∙ ap in_order (sym (kept_groups L s gs)) ∙ sym (ap (λ (ds : List Deed). (site_after_all L c.mail (site before) ds).live) crash)

pub restart_keeps : RestartKeeps
restart_keeps objects s before c know logged new crash log is =
    let L : List Deed = deeds_of before in
    let gs : List (Name × List Placed) = (site before).secured in
    let ordered = log_ordered objects s logged (reverse gs) log.secured log.order log.restorable in
    let left : List Placed = in_order (groups L s (reverse gs)) in
    let lives : left ≡ (site (c ∷ before)).live = crash_live objects s before c know logged crash log in
    serves_after objects s before c new (Crash s ∷ L) left (sym (ap (after L) crash)) lives
    (record {
      count_is = is.count_is ∙ sym (count_crash L s);
      replies = λ a n. is.replies a n;
      site = subst (λ (t : locks.Site). IsSiteOf objects s left t) (sym is.site_is)
          (record {
            objects_are = refl;
            node = refl;
            operations = sorted_alike (flat_map (ops_of know) logged) (groups L s (reverse gs)) (log_live L s know log.aborts logged (reverse gs) log.secured)
                (log_alike L s know log.aborts logged (reverse gs) log.secured ordered);
            order = restored_rise objects s know logged log.restorable;
          });
      commits = λ u.
          ap (λ (t : locks.Site). has_name t.committed u) is.site_is ∙ has_once (flat_map committed_name know.outcomes) u
          ∙ among_committed u know.outcomes ∙ log.commits u;
    })
