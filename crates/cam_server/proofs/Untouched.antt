-- What news of other families leave of a site: each live operation, its lift, and so what is granted.
use Rattle.std.proofs.Common.{◌≡◌, ℕ, Bool, true, false, not, ◌||◌, cond, List, [], ◌∷◌, filter, find, reverse, option_and_then, Option, Some, sym, ap, ap₂, ◌∙◌, refl, true≢false, inl, inr}
use Rattle.std.specs.List.{list_any, list_all}
use Rattle.std.proofs.lemmas.Bool.{and_parts, cases_Bool}
use Rattle.cam_names.specs.declared.name.Name.{Name}
use Rattle.cam_names.specs.Names.{name_eq, ancestors, family}
use Rattle.cam_names.proofs.Names.{name_eq_same, name_eq_refl, ancestors_any}
use Rattle.cam_names.proofs.Ancestry.{family_ancestor}
use Rattle.cam_names.proofs.Any.{any_weaker}
use Rattle.cam_type.specs.declared.Op.{Op}
use Rattle.cam_type.specs.Moss.{conflicts}
use Rattle.cam_know.specs.declared.Outcome.{Outcome}
use Rattle.cam_know.specs.declared.Outcome.TheVariants.{Aborted, Committed}
use Rattle.cam_know.specs.Knowledge.{Knowledge}
use Rattle.cam_know.specs.Known.{is_abort_of, is_commit_of, knows_abort, knows_commit}
use Rattle.cam_locks.specs.declared.LiveOp.{LiveOp}
use Rattle.cam_locks.specs.Members.{In}
use Rattle.cam_locks.specs.Names.{has_name}
use Rattle.cam_locks.specs.Site.{Site}
use Rattle.cam_locks.specs.Moss.{is_on, lift_of, holder_of}
use Rattle.cam_locks.specs.Calls.{is_of, has_family}
use Rattle.cam_locks.proofs.Members.{any_passes}
use Rattle.cam_locks.proofs.Lifts.{of_reverse}
use Rattle.cam_server.specs.Ahead.{decided_name, is_apart, AreApart}

-- the news have an outcome of this action
abbrev pub is_told : List Outcome → Name → Bool
is_told os u = list_any (λ o. name_eq u (decided_name o)) os

pub abort_is_told : (k : Knowledge) (u : Name) → knows_abort k u ≡ true → is_told k.outcomes u ≡ true
abort_is_told k u h = any_weaker (is_abort_of u) (λ o. name_eq u (decided_name o)) k.outcomes each h
  where
    each : (o : Outcome) → is_abort_of u o ≡ true → name_eq u (decided_name o) ≡ true
    each (Aborted b) is = is
    each (Committed b counts) is = cc

pub commit_is_told : (k : Knowledge) (u : Name) → knows_commit k u ≡ true → is_told k.outcomes u ≡ true
commit_is_told k u h = any_weaker (is_commit_of u) (λ o. name_eq u (decided_name o)) k.outcomes each h
  where
    each : (o : Outcome) → is_commit_of u o ≡ true → name_eq u (decided_name o) ≡ true
    each (Aborted b) is = cc
    each (Committed b counts) is = is

-- none of an action whose family has a live operation here
none_told : (site : Site) (os : List Outcome) (u : Name) → list_all (is_apart site) os ≡ true → has_family site (family u) ≡ true → is_told os u ≡ false
none_told site [] u apart there = refl
none_told site (o ∷ os) u apart there =
    let parts = and_parts (is_apart site o) (list_all (is_apart site) os) apart in
    elim (cases_Bool (name_eq u (decided_name o))) [
      | inl same ↦
          let gone : not true ≡ true =
          ap not (sym there) ∙ ap (λ (v : Name). not (has_family site (family v))) (name_eq_same u (decided_name o) same) ∙ parts.0 in
          absurd (true≢false (sym gone))
      | inr other ↦ ap (λ b. b || is_told os u) other ∙ none_told site os u parts.1 there
    ]

-- so of no ancestor of the action of a live operation
pub live_untold : (news : Knowledge) (site : Site) → AreApart news site → (o : LiveOp) → In o site.live
    → (u : Name) → In u (ancestors o.action) → is_told news.outcomes u ≡ false
live_untold news site apart o there u up =
    none_told site news.outcomes u apart
    (ap (has_family site) (family_ancestor u o.action (sym (ancestors_any u o.action) ∙ any_passes (name_eq u) u (ancestors o.action) up (name_eq_refl u)))
    ∙ any_passes (is_of (family o.action)) o site.live there (name_eq_refl (family o.action)))

never : (b told : Bool) → (b ≡ true → told ≡ true) → told ≡ false → b ≡ false
never true told is none = absurd (true≢false (sym (is refl) ∙ none))
never false told is none = refl

pub none_down : (p : Name → Bool) (us : List Name) → ((u : Name) → In u us → p u ≡ false) → list_any p us ≡ false
none_down p [] none = refl
none_down p (u ∷ us) none = ap₂ (λ a b. a || b) (none u (inl refl)) (none_down p us (λ v h. none v (inr h)))

-- all live operations are left
pub all_left : (down : Name → Bool) (os : List LiveOp) → ((o : LiveOp) → In o os → list_any down (ancestors o.action) ≡ false)
    → filter (λ o. not (list_any down (ancestors o.action))) os ≡ os
all_left down [] none = refl
all_left down (o ∷ os) none =
    ap (λ b. cond (not b) (o ∷ filter (λ p. not (list_any down (ancestors p.action))) os) (filter (λ p. not (list_any down (ancestors p.action))) os)) (none o (inl refl))
    ∙ ap (λ (ps : List LiveOp). o ∷ ps) (all_left down os (λ p h. none p (inr h)))

pub live_stay : (news : Knowledge) (site : Site) → AreApart news site
    → filter (λ o. not (list_any (knows_abort news) (ancestors o.action))) site.live ≡ site.live
live_stay news site apart =
    all_left (knows_abort news) site.live
    (λ o h. none_down (knows_abort news) (ancestors o.action)
    (λ u up. never (knows_abort news u) (is_told news.outcomes u) (abort_is_told news u) (live_untold news site apart o h u up)))

-- and their lifts are the same
find_same : (p q : Name → Bool) (us : List Name) → ((u : Name) → In u us → p u ≡ q u) → find p us ≡ find q us
find_same p q [] same = refl
find_same p q (u ∷ us) same =
    ap (λ b. cond b (Some u) (find p us)) (same u (inl refl)) ∙ ap (λ (o : Option Name). cond (q u) (Some u) o) (find_same p q us (λ v h. same v (inr h)))

or_no : (a b : Bool) → b ≡ false → (a || b) ≡ a
or_no true b none = refl
or_no false b none = none

lifts_stay : (news : Knowledge) (site : Site) (committed : List Name) → AreApart news site
    → ((u : Name) → has_name committed u ≡ (has_name site.committed u || knows_commit news u))
    → (o : LiveOp) → In o site.live → lift_of committed o ≡ lift_of site.committed o
lifts_stay news site committed apart more o there =
    find_same (λ u. not (has_name committed u)) (λ u. not (has_name site.committed u)) (reverse (ancestors o.action))
    (λ u up. ap not (more u ∙ or_no (has_name site.committed u) (knows_commit news u)
    (never (knows_commit news u) (is_told news.outcomes u) (commit_is_told news u) (live_untold news site apart o there u (of_reverse u (ancestors o.action) up)))))

-- So the same one stands in the way.
holder_same : (one other : LiveOp → Option Name) (a : Name) (op : Op) (test : LiveOp → Bool) (os : List LiveOp) → ((o : LiveOp) → In o os → one o ≡ other o)
    → option_and_then one (find (λ o. conflicts a op (one o) o.op) (filter test os))
    ≡ option_and_then other (find (λ o. conflicts a op (other o) o.op) (filter test os))
holder_same one other a op test [] same = refl
holder_same one other a op test (o ∷ os) same =
    by (test o) (conflicts a op (one o) o.op) (conflicts a op (other o) o.op)
    (ap (λ (l : Option Name). conflicts a op l o.op) (same o (inl refl))) (same o (inl refl)) (holder_same one other a op test os (λ p h. same p (inr h)))
  where
    first_one : LiveOp → Bool
    first_one p = conflicts a op (one p) p.op

    first_other : LiveOp → Bool
    first_other p = conflicts a op (other p) p.op

    by_test : (c d : Bool) → c ≡ d → one o ≡ other o
        → option_and_then one (find first_one (filter test os)) ≡ option_and_then other (find first_other (filter test os))
        → option_and_then one (cond c (Some o) (find first_one (filter test os))) ≡ option_and_then other (cond d (Some o) (find first_other (filter test os)))
    by_test true true e lift rest = lift
    by_test false false e lift rest = rest
    by_test true false e lift rest = absurd (true≢false e)
    by_test false true e lift rest = absurd (true≢false (sym e))

    by : (t c d : Bool) → first_one o ≡ first_other o → one o ≡ other o
        → option_and_then one (find first_one (filter test os)) ≡ option_and_then other (find first_other (filter test os))
        → option_and_then one (find first_one (cond t (o ∷ filter test os) (filter test os)))
        ≡ option_and_then other (find first_other (cond t (o ∷ filter test os) (filter test os)))
    by true c d e lift rest = by_test (first_one o) (first_other o) e lift rest
    by false c d e lift rest = rest

pub holder_stays : (news : Knowledge) (site : Site) (committed : List Name) → AreApart news site
    → ((u : Name) → has_name committed u ≡ (has_name site.committed u || knows_commit news u))
    → (a : Name) (x : ℕ) (op : Op) → holder_of committed site.live a x op ≡ holder_of site.committed site.live a x op
holder_stays news site committed apart more a x op =
    holder_same (lift_of committed) (lift_of site.committed) a op (is_on x) site.live (lifts_stay news site committed apart more)
