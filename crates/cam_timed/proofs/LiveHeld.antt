-- The live operations of a node's site are those that it performed by its own deeds and was not informed to drop.
use Rattle.std.proofs.Common.{◌≡◌, ◌≤◌, ◌+◌, inl, inr, ℕ, Bool, true, false, not, if◌then◌else◌, List, [], ◌∷◌, ◌++◌, map, filter, Option, Some, None, refl, sym, ap, ◌∙◌, subst, arith}
use Rattle.std.specs.List.{list_any}
use Rattle.std.proofs.lemmas.Bool.{eq-eqb}
use Rattle.std.proofs.lemmas.List.{map-append}
use Rattle.cam_names.specs.Names.{ancestors}
use Rattle.cam_type.specs.declared.ObjectDecl.{ObjectDecl}
use Rattle.cam_event.specs.declared.LetterId.{LetterId}
use Rattle.cam_event.specs.declared.Event.{Event}
use Rattle.cam_event.specs.declared.Deed.{Deed}
use Rattle.cam_event.specs.declared.Deed.TheVariants.{Create, Ask, Call, Perform, Bounce, Got, AskCommit, AskAbort, Commit, Abort, Secure, Inform, Crash}
use Rattle.cam_event.specs.History.{after, is_crash, count, informed, number_of, Addressed, call_of}
use Rattle.cam_event.specs.Live.{of_call}
use Rattle.cam_event.specs.Pasts.{in_base, plain_all, every}
use Rattle.cam_event.specs.Sights.{entries, own_deeds}
use Rattle.cam_event.specs.HeldSites.{is_any_perform}
use Rattle.cam_event.proofs.Members.{In, in_after}
use Rattle.cam_plain.proofs.Called.{count_grows}
use Rattle.cam_cut.proofs.Informs.{IsInformAt}
use Rattle.cam_cut.proofs.SiteFacts.{SiteAgrees, surviving_alike, local_site}
use Rattle.cam_cut.proofs.Holds.{IsPart, base_part, every_node, own_in}
use Rattle.cam_cut.proofs.Firsts.{base_of, Firsts, set_local, set_calls}
use Rattle.cam_cut.proofs.SightRun.{own_firsts_placed}
use Rattle.cam_agree.proofs.LiveLists.{filter_map}
use Rattle.cam_agree.proofs.LiveStands.{standing}
use Rattle.cam_agree.proofs.LiveStep.{placed}
use Rattle.cam_agree.proofs.LiveHere.{operation, live_standing}
use Rattle.cam_timed.specs.Moments.{events}
use Rattle.cam_timed.specs.Travelling.{carrier, abort_paths, abort_base, timed_informs}
use Rattle.cam_timed.specs.Held.{performed_by, SitesHoldTheirLive}
use Rattle.cam_timed.proofs.Told.{first_each}
use Rattle.cam_timed.proofs.Holding.{TimedHolds, timed_firsts}
use Rattle.cam_timed.proofs.TimedSees.{timed_sees}
use Rattle.cam_timed.proofs.RuleHolds.{timed_holds}

-- A crash counts.
at_least : (L : List Deed) (s : ℕ) → 1 ≤ count L s
at_least [] s = omega arith
at_least (d ∷ L) s = by (is_crash s d) (at_least L s)
  where
    by : (b : Bool) → 1 ≤ count L s → 1 ≤ (if b then count L s + 1 else count L s)
    by true h = omega (arith, h)
    by false h = h

pub crash_counts : (L : List Deed) (s : ℕ) → In (Crash s) L → 2 ≤ count L s
crash_counts [] s h = absurd h
crash_counts (d ∷ L) s (inl e) =
    let least = at_least L s in
    subst (λ (x : Deed). 2 ≤ count (x ∷ L) s) e
    (subst (λ (b : Bool). 2 ≤ (if b then count L s + 1 else count L s)) (sym (eq-eqb s s refl)) (omega (arith, least)))
crash_counts (d ∷ L) s (inr h) = let more = count_grows L d s in omega (arith, crash_counts L s h, more)

abbrev NoCrash : List Deed → Type 0
NoCrash L = (r : ℕ) → In (Crash r) L → ⊥

no_inform : (s r : ℕ) → IsInformAt s (Crash r) → ⊥
no_inform s r x = let is = x.is in absurd (grind (arith, is))

-- no node crashes
own_no_crash : (objects : List ObjectDecl) (t : List Event) (s : ℕ) (got : Option LetterId) → TimedHolds objects t → NoCrash (after (own_deeds (entries t s)) (timed_informs t s got))
own_no_crash objects t s got holds r h = elim (in_after (timed_informs t s got) (own_deeds (entries t s)) (Crash r) h) [
  | inl new ↦ no_inform s r (first_each t (abort_paths t) s got (carrier t got) (Crash r) new)
  | inr old ↦ absurd (omega (arith, crash_counts (plain_all t) r (own_in t every s (every_node t s) (Crash r) old), holds.no_crash r))
]

-- without crashes what is left of a site is what it performed
standing_performed : (H L : List Deed) (s : ℕ) → NoCrash L → map operation (standing H L s) ≡ performed_by (call_of H) L
standing_performed H [] s none = refl
standing_performed H (Perform a n answer ∷ L) s none =
    map-append operation (standing H L s) (map (placed (number_of is_any_perform L)) (of_call a n answer (call_of H a n)))
    ∙ (λ i. standing_performed H L s (λ r k. none r (inr k)) i ++ one (call_of H a n) i)
  where
    one : (o : Option Addressed) → map operation (map (placed (number_of is_any_perform L)) (of_call a n answer o)) ≡ of_call a n answer o
    one None = refl
    one (Some call) = refl
standing_performed H (Crash r ∷ L) s none = absurd (none r (inl refl))
standing_performed H (Create a ∷ L) s none = standing_performed H L s (λ r k. none r (inr k))
standing_performed H (Ask a b ∷ L) s none = standing_performed H L s (λ r k. none r (inr k))
standing_performed H (Call a n x op c ∷ L) s none = standing_performed H L s (λ r k. none r (inr k))
standing_performed H (Bounce a n u ∷ L) s none = standing_performed H L s (λ r k. none r (inr k))
standing_performed H (Got a n seen ∷ L) s none = standing_performed H L s (λ r k. none r (inr k))
standing_performed H (AskCommit a v ∷ L) s none = standing_performed H L s (λ r k. none r (inr k))
standing_performed H (AskAbort a ∷ L) s none = standing_performed H L s (λ r k. none r (inr k))
standing_performed H (Commit a ∷ L) s none = standing_performed H L s (λ r k. none r (inr k))
standing_performed H (Abort a ∷ L) s none = standing_performed H L s (λ r k. none r (inr k))
standing_performed H (Secure f x c ∷ L) s none = standing_performed H L s (λ r k. none r (inr k))
standing_performed H (Inform x u o ∷ L) s none = standing_performed H L s (λ r k. none r (inr k))

pub sites_hold_their_live : SitesHoldTheirLive
sites_hold_their_live objects T s got run early =
    live_standing objects G O M s (own_firsts_placed objects t s first each holds.sets)
    (surviving_alike objects G M (firsts.legal (in_base t s got) base) (set_calls objects t s first (in_base t s got) each holds.sets))
    (set_local objects t s got first (in_base t s got) (SiteAgrees objects G s) each holds.sets base (local_site objects G s))
    (λ u. (timed_sees objects t s got (in_base t s got) holds early base).same_told u false)
    ∙ sym (filter_map (λ o. not (list_any (λ u. informed O s u false) (ancestors o.action))) operation (standing G O s))
    ∙ ap (filter (λ o. not (list_any (λ u. informed O s u false) (ancestors o.action)))) (standing_performed G O s (own_no_crash objects t s got holds))
  where
    t : List Event
    t = events T

    holds : TimedHolds objects t
    holds = timed_holds objects T run

    first : List Deed
    first = timed_informs t s got

    G : List Deed
    G = plain_all t

    O : List Deed
    O = after (own_deeds (entries t s)) first

    M : List Deed
    M = after (base_of t s got) first

    base : IsPart t s got (in_base t s got)
    base = base_part t s got holds.sets.ordered early

    firsts : Firsts objects t s got (abort_base t s got) first
    firsts = timed_firsts objects t s got holds early

    each : (d : Deed) → In d first → IsInformAt s d
    each = firsts.each
