-- Each operation that stands at a site, or that it has secured, was performed: its place is below the number of those that were.
use Rattle.std.proofs.Common.{ℕ, ◌+◌, ◌<◌, nat_lt, Bool, true, false, cond, not, List, [], ◌∷◌, ◌++◌, map, filter, flat_map, reverse, Option, sym, subst, arith}
use Rattle.std.proofs.lemmas.List.{reverse-append}
use Rattle.cam_names.specs.declared.name.Name.{Name}
use Rattle.cam_names.specs.Names.{name_eq, family, is_ancestor}
use Rattle.cam_event.specs.declared.Operation.{Operation}
use Rattle.cam_event.specs.declared.Deed.{Deed}
use Rattle.cam_event.specs.declared.Deed.TheVariants.{Create, Ask, Call, Perform, Bounce, Got, AskCommit, AskAbort, Commit, Abort, Secure, Inform, Crash}
use Rattle.cam_event.specs.History.{after, number_of, informed}
use Rattle.cam_event.specs.Inputs.{Mail}
use Rattle.cam_event.specs.HeldSites.{Placed, Site, put_placed, in_order, for_family, is_any_perform, performed_op, site, site_after, site_after_all}
use Rattle.cam_event.specs.Carried.{Carried, deeds_of}

abbrev pub ArePast : ℕ → List Placed → Type 0
ArePast n [] = Unit {0}
ArePast n (p ∷ ps) = (p.index < n) × ArePast n ps

abbrev pub AllPast : ℕ → List (Name × List Placed) → Type 0
AllPast n [] = Unit {0}
AllPast n (g ∷ gs) = ArePast n g.1 × AllPast n gs

pub record IsPast (n : ℕ) (site : Site) : Type 0 where
  pub live : ArePast n site.live
  pub secured : AllPast n site.secured

past_next : (n : ℕ) (ps : List Placed) → ArePast n ps → ArePast (n + 1) ps
past_next n [] past = tt
past_next n (p ∷ ps) past = (omega (arith, past.0), past_next n ps past.1)

all_next : (n : ℕ) (gs : List (Name × List Placed)) → AllPast n gs → AllPast (n + 1) gs
all_next n [] past = tt
all_next n (g ∷ gs) past = (past_next n g.1 past.0, all_next n gs past.1)

past_append : (n : ℕ) (ps qs : List Placed) → ArePast n ps → ArePast n qs → ArePast n (ps ++ qs)
past_append n [] qs one other = other
past_append n (p ∷ ps) qs one other = (one.0, past_append n ps qs one.1 other)

past_left : (n : ℕ) (test : Placed → Bool) (ps : List Placed) → ArePast n ps
    → ArePast n (filter test ps)
past_left n test [] past = tt
past_left n test (p ∷ ps) past = by (test p) (past_left n test ps past.1)
  where
    by : (b : Bool) → ArePast n (filter test ps)
        → ArePast n (cond b (p ∷ filter test ps) (filter test ps))
    by true rest = (past.0, rest)
    by false rest = rest

past_put : (n : ℕ) (p : Placed) (ps : List Placed) → p.index < n → ArePast n ps
    → ArePast n (put_placed p ps)
past_put n p [] one past = (one, tt)
past_put n p (q ∷ ps) one past = by (nat_lt p.index q.index) (past_put n p ps one past.1)
  where
    by : (b : Bool) → ArePast n (put_placed p ps)
        → ArePast n (cond b (p ∷ q ∷ ps) (q ∷ put_placed p ps))
    by true rest = (one, past)
    by false rest = (past.0, rest)

past_order : (n : ℕ) (ps : List Placed) → ArePast n ps → ArePast n (in_order ps)
past_order n [] past = tt
past_order n (p ∷ ps) past = past_put n p (in_order ps) past.0 (past_order n ps past.1)

past_family : (n : ℕ) (f : Name) (ps : List Placed) → ArePast n ps
    → ArePast n (map (for_family f) ps)
past_family n f [] past = tt
past_family n f (p ∷ ps) past = (past.0, past_family n f ps past.1)

past_groups : (n : ℕ) (test : Name × List Placed → Bool) (gs : List (Name × List Placed))
    → AllPast n gs
    → ArePast n (flat_map (λ g. map (for_family g.0) g.1) (filter test gs))
past_groups n test [] past = tt
past_groups n test (g ∷ gs) past = by (test g) (past_groups n test gs past.1)
  where
    by : (b : Bool) → ArePast n (flat_map (λ g. map (for_family g.0) g.1) (filter test gs))
        → ArePast n
        (flat_map (λ g. map (for_family g.0) g.1) (cond b (g ∷ filter test gs) (filter test gs)))
    by true rest =
        past_append n (map (for_family g.0) g.1)
        (flat_map (λ g. map (for_family g.0) g.1) (filter test gs))
        (past_family n g.0 g.1 past.0) rest
    by false rest = rest

performed_past : (n : ℕ) (os : List Operation)
    → ArePast (n + 1) (map (λ o. record { index = n; operation = o }) os)
performed_past n [] = tt
performed_past n (o ∷ os) = (omega arith, performed_past n os)

-- one deed more
past_after : (L : List Deed) (mail : Option Mail) (at : Site) (d : Deed)
    → IsPast (number_of is_any_perform L) at
    → IsPast (number_of is_any_perform (d ∷ L)) (site_after L mail at d)
past_after L mail at (Create a) past = past
past_after L mail at (Ask a b) past = past
past_after L mail at (Call a n x op c) past = past
past_after L mail at (Perform a n answer) past =
    let number : ℕ = number_of is_any_perform L in
    record {
      live = past_append (number + 1) at.live (map (λ o. record {
        index = number;
        operation = o;
      }) (performed_op answer mail))
          (past_next number at.live past.live) (performed_past number (performed_op answer mail));
      secured = all_next number at.secured past.secured;
    }
past_after L mail at (Bounce a n u) past = past
past_after L mail at (Got a n seen) past = past
past_after L mail at (AskCommit a v) past = past
past_after L mail at (AskAbort a) past = past
past_after L mail at (Commit a) past = past
past_after L mail at (Abort a) past = past
past_after L mail at (Secure f s c) past =
    record {
      live = past.live;
      secured = (
        past_left (number_of is_any_perform L)
            (λ p. name_eq f (family p.operation.action)) at.live past.live,
        past.secured,
      );
    }
past_after L mail at (Inform s u true) past = past
past_after L mail at (Inform s u false) past =
    record {
      live =
          past_left (number_of is_any_perform L)
          (λ p. not (is_ancestor u p.operation.action)) at.live past.live;
      secured = past.secured;
    }
past_after L mail at (Crash s) past =
    let number : ℕ = number_of is_any_perform L in
    record {
      live =
          past_order number
          (flat_map (λ g. map (for_family g.0) g.1)
          (filter (λ g. not (informed L s g.0 false)) at.secured))
          (past_groups number (λ g. not (informed L s g.0 false)) at.secured past.secured);
      secured = past.secured;
    }

pub past_after_all : (L : List Deed) (mail : Option Mail) (at : Site) (ds : List Deed)
    → IsPast (number_of is_any_perform L) at
    → IsPast (number_of is_any_perform (after L ds)) (site_after_all L mail at ds)
past_after_all L mail at [] past = past
past_after_all L mail at (d ∷ ds) past =
    past_after_all (d ∷ L) mail (site_after L mail at d) ds (past_after L mail at d past)

pub site_past : (history : List Carried)
    → IsPast (number_of is_any_perform (deeds_of history)) (site history)
site_past [] = record { live = tt; secured = tt }
site_past (c ∷ before) =
    past_after_all (deeds_of before) c.mail (site before) c.event.deeds (site_past before)

-- the same backwards
all_last : (n : ℕ) (gs : List (Name × List Placed)) (g : Name × List Placed) → AllPast n gs
    → ArePast n g.1 → AllPast n (gs ++ g ∷ [])
all_last n [] g all one = (one, tt)
all_last n (h ∷ gs) g all one = (all.0, all_last n gs g all.1 one)

pub all_backwards : (n : ℕ) (gs : List (Name × List Placed)) → AllPast n gs → AllPast n (reverse gs)
all_backwards n [] all = tt
all_backwards n (g ∷ gs) all =
    subst (AllPast n) (sym (reverse-append (g ∷ []) gs))
    (all_last n (reverse gs) g (all_backwards n gs all.1) all.0)
