-- What a log restores and what a crash leaves of a site are alike in their orders, and stand for one another.
use Rattle.std.proofs.Common.{◌≡◌, ℕ, nat_lt, Bool, true, false, not, cond, if◌then◌else◌, List, [], ◌∷◌, ◌++◌, map, filter, flat_map, zip, sym, ap, ◌∙◌, refl, true≢false}
use Rattle.cam_names.specs.declared.name.Name.{Name}
use Rattle.cam_type.specs.declared.Held.{Held}
use Rattle.cam_type.specs.declared.HeldOp.{HeldOp}
use Rattle.cam_know.specs.Knowledge.{Knowledge}
use Rattle.cam_know.specs.Known.{knows_abort}
use Rattle.cam_event.specs.declared.Deed.{Deed}
use Rattle.cam_event.specs.History.{informed}
use Rattle.cam_event.specs.HeldSites.{Placed, for_family}
use Rattle.cam_locks.specs.declared.LiveOp.{LiveOp}
use Rattle.cam_locks.specs.Restored.{of_family, ops_of}
use Rattle.cam_server.specs.Server.{AreLiveOps}
use Rattle.cam_server.specs.Recovered.{AreHeldOps, AreHeld, beside}
use Rattle.cam_server.proofs.LogOrder.{EachOrdered, AllOrdered}
use Rattle.cam_server.proofs.SortedAlike.{InPlace, AreAlike, live_append, place_append}

-- what a crash leaves of a group
abbrev pub group : List Deed → ℕ → Name × List Placed → List Placed
group L s g = if informed L s g.0 false then [] else map (for_family g.0) g.1

abbrev pub groups : List Deed → ℕ → List (Name × List Placed) → List Placed
groups L s gs = flat_map (group L s) gs

-- it is what the definition of the site leaves
pub kept_groups : (L : List Deed) (s : ℕ) (gs : List (Name × List Placed))
    → flat_map (λ g. map (for_family g.0) g.1) (filter (λ g. not (informed L s g.0 false)) gs) ≡ groups L s gs
kept_groups L s [] = refl
kept_groups L s (g ∷ gs) = by (informed L s g.0 false) (kept_groups L s gs)
  where
    rest : List (Name × List Placed)
    rest = filter (λ h. not (informed L s h.0 false)) gs

    by : (b : Bool) → flat_map (λ h. map (for_family h.0) h.1) rest ≡ groups L s gs
        → flat_map (λ h. map (for_family h.0) h.1) (cond (not b) (g ∷ rest) rest) ≡ (if b then [] else map (for_family g.0) g.1) ++ groups L s gs
    by true is = is
    by false is = ap (λ (ps : List Placed). map (for_family g.0) g.1 ++ ps) is

-- pairs that are in order with each of two lists
pub each_left : (b : HeldOp × Placed) (xs ys : List (HeldOp × Placed)) → EachOrdered b (xs ++ ys)
    → EachOrdered b xs
each_left b [] ys each = tt
each_left b (x ∷ xs) ys each = (each.0, each_left b xs ys each.1)

pub each_right : (b : HeldOp × Placed) (xs ys : List (HeldOp × Placed)) → EachOrdered b (xs ++ ys)
    → EachOrdered b ys
each_right b [] ys each = each
each_right b (x ∷ xs) ys each = each_right b xs ys each.1

pub all_right : (xs ys : List (HeldOp × Placed)) → AllOrdered (xs ++ ys) → AllOrdered ys
all_right [] ys all = all
all_right (x ∷ xs) ys all = all_right xs ys all.1

-- an operation is in place among those of a family, and of all that are left
ops_place : (f e : Name) (k : LiveOp) (p : Placed) (b : HeldOp × Placed) (hs : List HeldOp) (ps : List Placed)
    → k.index ≡ b.0.index → p.index ≡ b.1.index
    → AreHeldOps hs ps → EachOrdered b (zip hs ps) → InPlace k p (map (of_family f) hs) (map (for_family e) ps)
ops_place f e k p b [] [] ki pi held each = tt
ops_place f e k p b [] (q ∷ ps) ki pi held each = absurd held
ops_place f e k p b (h ∷ hs) [] ki pi held each = absurd held
ops_place f e k p b (h ∷ hs) (q ∷ ps) ki pi held each = (
  ap (λ (i : ℕ). nat_lt h.index i) ki ∙ each.0.order ∙ ap (λ (i : ℕ). not (nat_lt i q.index)) (sym pi),
  ops_place f e k p b hs ps ki pi held.1 each.1,
)

-- the log's knowledge tells the aborts of the history
abbrev pub Tells : List Deed → ℕ → Knowledge → Type 0
Tells L s know = (u : Name) → knows_abort know u ≡ informed L s u false

log_place : (L : List Deed) (s : ℕ) (know : Knowledge) → Tells L s know
    → (k : LiveOp) (p : Placed) (b : HeldOp × Placed) → k.index ≡ b.0.index → p.index ≡ b.1.index
    → (hs : List Held) (gs : List (Name × List Placed)) → AreHeld hs gs → EachOrdered b (beside hs gs)
    → InPlace k p (flat_map (ops_of know) hs) (groups L s gs)
log_place L s know tells k p b ki pi [] [] held each = tt
log_place L s know tells k p b ki pi [] (g ∷ gs) held each = absurd held
log_place L s know tells k p b ki pi (h ∷ hs) [] held each = absurd held
log_place L s know tells k p b ki pi (h ∷ hs) (g ∷ gs) held each =
    place_append k p (ops_of know h) (flat_map (ops_of know) hs) (group L s g) (groups L s gs)
    (by (knows_abort know h.family) (informed L s g.0 false) (tells h.family ∙ ap (λ (u : Name). informed L s u false) held.0))
    (log_place L s know tells k p b ki pi hs gs held.2 (each_right b (zip h.ops g.1) (beside hs gs) each))
  where
    by : (x y : Bool) → x ≡ y
        → InPlace k p (if x then [] else map (of_family h.family) h.ops) (if y then [] else map (for_family g.0) g.1)
    by true true e = tt
    by false false e = ops_place h.family g.0 k p b h.ops g.1 ki pi held.1 (each_left b (zip h.ops g.1) (beside hs gs) each)
    by true false e = absurd (true≢false e)
    by false true e = absurd (true≢false (sym e))

-- all of them are alike in their orders,
family_alike : (f e : Name) (hs : List HeldOp) (ps : List Placed) (bs : List (HeldOp × Placed)) (ks : List LiveOp) (qs : List Placed)
    → AreHeldOps hs ps → AllOrdered (zip hs ps ++ bs)
    → ((k : LiveOp) (p : Placed) (b : HeldOp × Placed) → k.index ≡ b.0.index → p.index ≡ b.1.index → EachOrdered b bs → InPlace k p ks qs)
    → AreAlike ks qs → AreAlike (map (of_family f) hs ++ ks) (map (for_family e) ps ++ qs)
family_alike f e [] [] bs ks qs held all rest alike = alike
family_alike f e [] (p ∷ ps) bs ks qs held all rest alike = absurd held
family_alike f e (h ∷ hs) [] bs ks qs held all rest alike = absurd held
family_alike f e (h ∷ hs) (p ∷ ps) bs ks qs held all rest alike = (
  place_append (of_family f h) (for_family e p) (map (of_family f) hs) ks (map (for_family e) ps) qs
      (ops_place f e (of_family f h) (for_family e p) (h, p) hs ps refl refl held.1 (each_left (h, p) (zip hs ps) bs all.0))
      (rest (of_family f h) (for_family e p) (h, p) refl refl (each_right (h, p) (zip hs ps) bs all.0)),
  family_alike f e hs ps bs ks qs held.1 all.1 rest alike,
)

pub log_alike : (L : List Deed) (s : ℕ) (know : Knowledge) → Tells L s know
    → (hs : List Held) (gs : List (Name × List Placed)) → AreHeld hs gs → AllOrdered (beside hs gs)
    → AreAlike (flat_map (ops_of know) hs) (groups L s gs)
log_alike L s know tells [] [] held all = tt
log_alike L s know tells [] (g ∷ gs) held all = absurd held
log_alike L s know tells (h ∷ hs) [] held all = absurd held
log_alike L s know tells (h ∷ hs) (g ∷ gs) held all =
    by (knows_abort know h.family) (informed L s g.0 false) (tells h.family ∙ ap (λ (u : Name). informed L s u false) held.0)
    (log_alike L s know tells hs gs held.2 (all_right (zip h.ops g.1) (beside hs gs) all))
  where
    by : (x y : Bool) → x ≡ y → AreAlike (flat_map (ops_of know) hs) (groups L s gs)
        → AreAlike ((if x then [] else map (of_family h.family) h.ops) ++ flat_map (ops_of know) hs) ((if y then [] else map (for_family g.0) g.1) ++ groups L s gs)
    by true true e rest = rest
    by false false e rest =
        family_alike h.family g.0 h.ops g.1 (beside hs gs) (flat_map (ops_of know) hs) (groups L s gs) held.1 all
        (λ k p b ki pi each. log_place L s know tells k p b ki pi hs gs held.2 each) rest
    by true false e rest = absurd (true≢false e)
    by false true e rest = absurd (true≢false (sym e))

family_live : (f e : Name) (hs : List HeldOp) (ps : List Placed) → f ≡ e → AreHeldOps hs ps
    → AreLiveOps (map (of_family f) hs) (map (for_family e) ps)
family_live f e [] [] same held = tt
family_live f e [] (p ∷ ps) same held = absurd held
family_live f e (h ∷ hs) [] same held = absurd held
family_live f e (h ∷ hs) (p ∷ ps) same held = (record { action = same; object = held.0.0; op = held.0.1 }, family_live f e hs ps same held.1)

-- and each stands for the one beside it.
pub log_live : (L : List Deed) (s : ℕ) (know : Knowledge) → Tells L s know
    → (hs : List Held) (gs : List (Name × List Placed)) → AreHeld hs gs
    → AreLiveOps (flat_map (ops_of know) hs) (groups L s gs)
log_live L s know tells [] [] held = tt
log_live L s know tells [] (g ∷ gs) held = absurd held
log_live L s know tells (h ∷ hs) [] held = absurd held
log_live L s know tells (h ∷ hs) (g ∷ gs) held =
    live_append (ops_of know h) (flat_map (ops_of know) hs) (group L s g) (groups L s gs)
    (by (knows_abort know h.family) (informed L s g.0 false) (tells h.family ∙ ap (λ (u : Name). informed L s u false) held.0))
    (log_live L s know tells hs gs held.2)
  where
    by : (x y : Bool) → x ≡ y
        → AreLiveOps (if x then [] else map (of_family h.family) h.ops) (if y then [] else map (for_family g.0) g.1)
    by true true e = tt
    by false false e = family_live h.family g.0 h.ops g.1 held.0 held.1
    by true false e = absurd (true≢false e)
    by false true e = absurd (true≢false (sym e))
