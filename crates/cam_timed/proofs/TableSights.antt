-- What a node goes by in a run by time is what tables have, but for what actions depend on; and of each action that was created at the node
-- it depends on what they have.
use Rattle.std.proofs.Common.{◌≡◌, ◌≤◌, ◌+◌, inl, inr, ℕ, Bool, true, false, if◌then◌else◌, List, [], ◌∷◌, length, Option, refl, sym, ap, ◌∙◌, subst, arith}
use Rattle.cam_names.specs.declared.name.Name.{Name}
use Rattle.cam_names.specs.Names.{home_node}
use Rattle.cam_names.specs.Dependencies.{as_counts}
use Rattle.cam_type.specs.declared.ObjectDecl.{ObjectDecl}
use Rattle.cam_event.specs.declared.LetterId.{LetterId}
use Rattle.cam_event.specs.declared.Event.{Event}
use Rattle.cam_event.specs.declared.Deed.{Deed}
use Rattle.cam_event.specs.History.{after, is_crash, count, created}
use Rattle.cam_event.specs.Live.{live_at}
use Rattle.cam_event.specs.Gained.{deps}
use Rattle.cam_event.specs.Pasts.{in_base, plain_all, every, HasNode, IsEarlier}
use Rattle.cam_event.specs.Sights.{entries, own_deeds}
use Rattle.cam_event.proofs.Members.{In, count_more}
use Rattle.cam_cut.proofs.DepsFacts.{pair_count, pair_range}
use Rattle.cam_cut.proofs.DepsAgree.{deps_more}
use Rattle.cam_cut.proofs.Settled.{Settled, created_settled}
use Rattle.cam_cut.proofs.SettledSets.{has_settled}
use Rattle.cam_cut.proofs.Holds.{IsPart, base_part, every_part, every_closed}
use Rattle.cam_cut.proofs.Firsts.{base_of, keep_each}
use Rattle.cam_agree.proofs.DepsPairs.{SamePairs, counts_same}
use Rattle.cam_own.specs.Depending.{at_one, nodes_of}
use Rattle.cam_timed.specs.declared.TimedEvent.{TimedEvent}
use Rattle.cam_timed.specs.Moments.{events}
use Rattle.cam_timed.specs.Travelling.{carrier, abort_paths, timed_informs}
use Rattle.cam_timed.specs.TimedSights.{timed_sight}
use Rattle.cam_timed.specs.Held.{KnowsWhatItHolds}
use Rattle.cam_timed.specs.KeptSights.{kept_sight}
use Rattle.cam_timed.specs.TimedRuns.{IsTimedRun}
use Rattle.cam_timed.proofs.Told.{first_each}
use Rattle.cam_timed.proofs.Holding.{TimedHolds}
use Rattle.cam_timed.proofs.TimedSees.{timed_sees}
use Rattle.cam_timed.proofs.RuleHolds.{timed_holds}
use Rattle.cam_timed.proofs.Held.{nodes_know_what_they_hold}

-- a count is at least 1
at_least : (L : List Deed) (s : ℕ) → 1 ≤ count L s
at_least [] s = omega arith
at_least (d ∷ L) s = by (is_crash s d) (at_least L s)
  where
    by : (b : Bool) → 1 ≤ count L s → 1 ≤ (if b then count L s + 1 else count L s)
    by true h = omega (arith, h)
    by false h = h

-- so each is 1
pub base_count : (objects : List ObjectDecl) (t : List Event) (s : ℕ) (got : Option LetterId) (m : ℕ) → TimedHolds objects t → count (base_of t s got) m ≡ 1
base_count objects t s got m holds =
    let few : count (base_of t s got) m ≤ count (plain_all t) m = count_more t (in_base t s got) every (λ k h. refl) m in
    let least = at_least (base_of t s got) m in
    omega (arith, few, least, holds.no_crash m)

-- pairs at count 1 are their nodes at count 1
ones : (ps : List (ℕ × ℕ)) → ((p : ℕ × ℕ) → In p ps → p.1 ≡ 1) → at_one ps ≡ ps
ones [] h = refl
ones (p ∷ ps) h = λ i. (p.0, sym (h p (inl refl)) i) ∷ ones ps (λ q k. h q (inr k)) i

pub all_at_one : (objects : List ObjectDecl) (t : List Event) (a : Name) → TimedHolds objects t → nodes_of (deps objects (plain_all t) a) ≡ as_counts (deps objects (plain_all t) a)
all_at_one objects t a holds = ap as_counts (ones (deps objects (plain_all t) a) at)
  where
    at : (p : ℕ × ℕ) → In p (deps objects (plain_all t) a) → p.1 ≡ 1
    at p i =
        let high : p.1 ≤ count (plain_all t) p.0 = pair_count objects (plain_all t) a p (holds.sets.legal every (every_closed t)) i in
        let range = pair_range objects (plain_all t) a p holds.sets.ranged i in
        omega (arith, high, holds.no_crash p.0, range.1)

-- the first Informs change nothing of it
all_same : (objects : List ObjectDecl) (t : List Event) (s : ℕ) (got : Option LetterId) (a : Name) → deps objects (after (plain_all t) (timed_informs t s got)) a ≡ deps objects (plain_all t) a
all_same objects t s got a = keep_each (λ L. deps objects L a) (λ r b o L. refl) s (timed_informs t s got) (first_each t (abort_paths t) s got (carrier t got)) (plain_all t)

-- of an action that was created at the node the base has all on which it depends
pub deps_kept : (objects : List ObjectDecl) (t : List Event) (s : ℕ) (got : Option LetterId) (a : Name) → TimedHolds objects t → IsEarlier (length t) got → home_node a ≡ s → created (plain_all t) a ≡ true
    → (timed_sight objects t s got).deps a ≡ (kept_sight objects t s (timed_informs t s got)).deps a
deps_kept objects t s got a holds early at whole =
    counts_same (deps objects (base_of t s got) a) (deps objects (plain_all t) a) same
    ∙ sym (all_at_one objects t a holds) ∙ ap nodes_of (sym (all_same objects t s got a))
  where
    part : IsPart t s got (in_base t s got)
    part = base_part t s got holds.sets.ordered early

    has : HasNode t (in_base t s got) (home_node a)
    has = subst (HasNode t (in_base t s got)) (sym at) part.node

    there : created (base_of t s got) a ≡ true
    there =
        sym (keep_each (λ L. created L a) (λ r b o L. refl) s (timed_informs t s got) (first_each t (abort_paths t) s got (carrier t got)) (base_of t s got))
        ∙ sym ((timed_sees objects t s got (in_base t s got) holds early part).same_created a at) ∙ (timed_sees objects t s got every holds early (every_part t s got)).same_created a at
        ∙ keep_each (λ L. created L a) (λ r b o L. refl) s (timed_informs t s got) (first_each t (abort_paths t) s got (carrier t got)) (plain_all t) ∙ whole

    set : Settled t (in_base t s got) (base_of t s got) a
    set = created_settled objects t (in_base t s got) (base_of t s got) a (holds.sets.legal (in_base t s got) part.closed) has there

    same : SamePairs (deps objects (base_of t s got) a) (deps objects (plain_all t) a)
    same = record {
      there = λ p i. deps_more objects t (in_base t s got) every (λ k h. refl) (holds.sets.legal every (every_closed t)) a p i;
      back = λ p i. has_settled objects (plain_all t) t (in_base t s got) holds.sets.placed part.closed (holds.sets.legal every (every_closed t)) (holds.sets.legal (in_base t s got) part.closed) a set p i;
    }

-- What a node goes by, but for dependencies.
pub kept_fields : (objects : List ObjectDecl) (T : List TimedEvent) (s : ℕ) (got : Option LetterId) → IsTimedRun objects T → IsEarlier (length (events T)) got
    → record (timed_sight objects (events T) s got) { deps = (kept_sight objects (events T) s (timed_informs (events T) s got)).deps } ≡ kept_sight objects (events T) s (timed_informs (events T) s got)
kept_fields objects T s got run early = λ i. record {
  node = s;
  deeds = after (own_deeds (entries (events T) s)) (timed_informs (events T) s got);
  events = entries (events T) s;
  live = live i;
  knows_abort = λ a. (knows a).aborts i;
  knows_commit = λ a. (knows a).commits i;
  known_count = λ m. base_count objects (events T) s got m holds i;
  orphan = (kept_sight objects (events T) s (timed_informs (events T) s got)).orphan;
  deps = (kept_sight objects (events T) s (timed_informs (events T) s got)).deps;
}
  where
    holds : TimedHolds objects (events T)
    holds = timed_holds objects T run

    knows : (a : Name) → KnowsWhatItHolds objects (events T) s got a
    knows a = nodes_know_what_they_hold objects T s got a run early

    live : (timed_sight objects (events T) s got).live ≡ live_at objects (after (plain_all (events T)) (timed_informs (events T) s got)) s
    live = (timed_sees objects (events T) s got every holds early (every_part (events T) s got)).same_live
