-- By deltas each input gives the same event.
use Rattle.std.proofs.Common.{◌≡◌, ◌⊎◌, inl, inr, ℕ, Bool, true, false, not, ◌&&◌, ◌||◌, List, [], ◌∷◌, ◌++◌, filter, map, Option, Some, None, refl, sym, ap, ◌∙◌, subst}
use Rattle.std.specs.Prelude.{flat_map, slice_index, ◌-◌}
use Rattle.std.specs.Option.{option_map_or}
use Rattle.std.specs.List.{list_any}
use Rattle.std.proofs.lemmas.Bool.{cases_Bool, true≢false}
use Rattle.cam_names.specs.declared.name.Name.{Name}
use Rattle.cam_names.specs.Names.{name_eq}
use Rattle.cam_names.specs.Dependencies.{as_counts}
use Rattle.cam_names.proofs.Names.{name_eq_same}
use Rattle.cam_type.specs.declared.ObjectDecl.{ObjectDecl}
use Rattle.cam_know.specs.declared.Outcome.{Outcome}
use Rattle.cam_know.specs.Knowledge.{Knowledge}
use Rattle.cam_know.specs.Known.{nothing, both, aborted_name, committed_name, is_abort_of, is_commit_of, knows_abort, knows_commit, new_aborts, new_commits, IsSame}
use Rattle.cam_know.proofs.OrphanBySet.{any_same, orphan_by_set}
use Rattle.cam_know.proofs.Union.{any_both}
use Rattle.cam_event.specs.declared.LetterId.{LetterId}
use Rattle.cam_event.specs.declared.Event.{Event}
use Rattle.cam_event.specs.declared.Deed.{Deed}
use Rattle.cam_event.specs.declared.Deed.TheVariants.{Inform}
use Rattle.cam_event.specs.History.{after}
use Rattle.cam_event.specs.Inputs.{Input, Begins, Requests, Receives, Tells, Queries, Restarts, Mail, mail_got, node_of, got_of}
use Rattle.cam_event.specs.Sights.{own_deeds}
use Rattle.cam_event.specs.Rules.{rule}
use Rattle.cam_event.specs.ByPast.{event_of}
use Rattle.cam_event.specs.ByKnowledge.{sight_with, new_informs, of_node, carried_by, carried_of, node_step, held}
use Rattle.cam_event.specs.HeldSites.{site_after_all}
use Rattle.cam_event.specs.Carried.{Carried, entry_of}
use Rattle.cam_event.proofs.SortedNames.{sorted_same}
use Rattle.cam_event.proofs.SameInforms.{among_aborted, among_committed}
use Rattle.cam_agree.proofs.Ran.{Ran, plain_ran}
use Rattle.cam_agree.proofs.DepsEvents.{ran_events as whole_events}
use Rattle.cam_know.specs.Order.{told_in_order}
use Rattle.cam_event.specs.ByDeltas.{as_carried, load_by, received_of, next_by_deltas}
use Rattle.cam_event.specs.Readings.{by_pasts}
use Rattle.cam_event.specs.Runs.{MayCome}
use Rattle.cam_delta.specs.Laws.{IsAddressed, NodesGoByTheSame, StepsAreTheSame, EventsAreThoseOfPasts}
use Rattle.cam_delta.proofs.Addressed.{ran_addressed}
use Rattle.cam_delta.proofs.Growing.{history, listed}
use Rattle.cam_delta.proofs.SameHistories.{pairs_same, site_same, entries_alike}
use Rattle.cam_delta.proofs.SameKnown.{BringsSame, together_same, SameSoFar, brought_same, same_so_far}

-- a name is among those kept where it is among the names and passes the test
pub among_kept : (p : Name → Bool) (z : Name) (names : List Name) → list_any (name_eq z) (filter p names) ≡ (list_any (name_eq z) names && p z)
among_kept p z [] = refl
among_kept p z (x ∷ names) =
    elim (cases_Bool (p x)) [
      | inl passes ↦ rw passes (ap (λ b. name_eq z x || b) (among_kept p z names) ∙ kept (name_eq z x) (list_any (name_eq z) names) (p z) (λ same. ap p (name_eq_same z x same) ∙ passes))
      | inr fails ↦ rw fails (among_kept p z names ∙ left_out (name_eq z x) (list_any (name_eq z) names) (p z) (λ same. ap p (name_eq_same z x same) ∙ fails))
    ]
  where
    kept : (a b c : Bool) → (a ≡ true → c ≡ true) → (a || (b && c)) ≡ ((a || b) && c)
    kept true b true h = refl
    kept true b false h = absurd (true≢false (sym (h refl)))
    kept false b c h = refl

    left_out : (a b c : Bool) → (a ≡ true → c ≡ false) → (b && c) ≡ ((a || b) && c)
    left_out true true true h = absurd (true≢false (h refl))
    left_out true false true h = absurd (true≢false (h refl))
    left_out true true false h = refl
    left_out true false false h = refl
    left_out false b c h = refl

-- what is new of the one is new of the other, where both come to the same
new_same : (h j a b : Bool) → h ≡ j → (h || a) ≡ (j || b) → (a && not h) ≡ (b && not j)
new_same true true true true e f = refl
new_same true true true false e f = refl
new_same true true false true e f = refl
new_same true true false false e f = refl
new_same true false a b e f = cc
new_same false true a b e f = cc
new_same false false true true e f = refl
new_same false false true false e f = cc
new_same false false false true e f = cc
new_same false false false false e f = refl

-- the first Informs
pub informs_same : (s : ℕ) (k l load all : Knowledge) → IsSame k l → BringsSame k.outcomes load all → new_informs s (told_in_order load) k ≡ new_informs s all l
informs_same s k l load all same h =
    λ i. map (λ a. Inform s a false) (sorted_same (new_aborts (told_in_order load) k) (new_aborts all l) aborts i)
    ++ map (λ a. Inform s a true) (sorted_same (new_commits (told_in_order load) k) (new_commits all l) commits i)
  where
    together : IsSame (both k (told_in_order load)) (both l all)
    together = together_same k l load all same h

    aborts : (z : Name) → list_any (name_eq z) (new_aborts (told_in_order load) k) ≡ list_any (name_eq z) (new_aborts all l)
    aborts z =
        among_kept (λ a. not (knows_abort k a)) z (flat_map aborted_name (told_in_order load).outcomes)
        ∙ ap (λ b. b && not (knows_abort k z)) (among_aborted z (told_in_order load).outcomes)
        ∙ new_same (knows_abort k z) (knows_abort l z) (knows_abort (told_in_order load) z) (knows_abort all z) (any_same (is_abort_of z) k l same)
        (sym (any_both (is_abort_of z) k (told_in_order load)) ∙ any_same (is_abort_of z) (both k (told_in_order load)) (both l all) together ∙ any_both (is_abort_of z) l all)
        ∙ sym (ap (λ b. b && not (knows_abort l z)) (among_aborted z all.outcomes))
        ∙ sym (among_kept (λ a. not (knows_abort l a)) z (flat_map aborted_name all.outcomes))

    commits : (z : Name) → list_any (name_eq z) (new_commits (told_in_order load) k) ≡ list_any (name_eq z) (new_commits all l)
    commits z =
        among_kept (λ a. not (knows_commit k a)) z (flat_map committed_name (told_in_order load).outcomes)
        ∙ ap (λ b. b && not (knows_commit k z)) (among_committed z (told_in_order load).outcomes)
        ∙ new_same (knows_commit k z) (knows_commit l z) (knows_commit (told_in_order load) z) (knows_commit all z) (any_same (is_commit_of z) k l same)
        (sym (any_both (is_commit_of z) k (told_in_order load)) ∙ any_same (is_commit_of z) (both k (told_in_order load)) (both l all) together ∙ any_both (is_commit_of z) l all)
        ∙ sym (ap (λ b. b && not (knows_commit l z)) (among_committed z all.outcomes))
        ∙ sym (among_kept (λ a. not (knows_commit l a)) z (flat_map committed_name all.outcomes))

-- what a node goes by
sight_same : (objects : List ObjectDecl) (s : ℕ) (h j : List Carried) (first : List Deed) (k l : Knowledge) → map entry_of h ≡ map entry_of j → IsSame k l
    → sight_with objects s h first k ≡ sight_with objects s j first l
sight_same objects s h j first k l same alike =
    λ i. record {
      node = s;
      deeds = after (own_deeds (same i)) first;
      events = same i;
      live = map (λ p. p.operation) (site_after_all (own_deeds (same i)) None (site_same h j same i) first).live;
      knows_abort = λ a. any_same (is_abort_of a) k l alike i;
      knows_commit = λ a. any_same (is_commit_of a) k l alike i;
      known_count = λ m. slice_index (alike.counts i) (m - 1);
      orphan = λ a visited. orphan_by_set k l alike a visited i;
      deps = λ a. as_counts (pairs_same objects h j a same i);
    }

-- one step
pub step_same : (objects : List ObjectDecl) (s : ℕ) (h j : List Carried) (input : Input) (mail : Option Mail) (load all : Knowledge) → map entry_of h ≡ map entry_of j → IsSame (held objects h) (held objects j)
    → BringsSame (held objects h).outcomes load all → node_step objects s h input mail (told_in_order load) ≡ node_step objects s j input mail all
step_same objects s h j input mail load all same alike brings =
    let first : new_informs s (told_in_order load) (held objects h) ≡ new_informs s all (held objects j) = informs_same s (held objects h) (held objects j) load all alike brings in
    ap (λ ds. event_of s (got_of input) ds (rule objects (sight_with objects s h ds (both (held objects h) (told_in_order load))) mail input)) first
    ∙ ap (λ g. event_of s (got_of input) (new_informs s all (held objects j)) (rule objects g mail input))
    (sight_same objects s h j (new_informs s all (held objects j)) (both (held objects h) (told_in_order load)) (both (held objects j) all) same (together_same (held objects h) (held objects j) load all alike brings))

-- a letter is for the node of its input
input_addressed : (t : List Event) (input : Input) → (mail : Option Mail) → mail_got t (got_of input) ≡ mail → (mail ≡ None) ⊎ IsAddressed t (node_of t input) (got_of input)
input_addressed t (Begins s) mail e = inr tt
input_addressed t (Requests r) mail e = inr tt
input_addressed t (Receives letter) None e = inl refl
input_addressed t (Receives letter) (Some m) e = inr (m, e, sym (ap (λ o. option_map_or (λ (x : Mail). x.to) o 0) e))
input_addressed t (Tells s to) mail e = inr tt
input_addressed t (Queries s f) mail e = inr tt
input_addressed t (Restarts s) mail e = inr tt

none_brings : (mine : List Outcome) → BringsSame mine nothing nothing
none_brings mine = record { to = λ o i. absurd i; back = λ o i. absurd i; counts = refl }

no_mail : (objects : List ObjectDecl) (t : List Event) (s : ℕ) (got : Option LetterId) → mail_got t got ≡ None
    → BringsSame (listed objects t s) (load_by objects (received_of objects t) got (mail_got t got)).know (carried_by objects (carried_of objects t) got (mail_got t got))
no_mail objects t s None e = none_brings (listed objects t s)
no_mail objects t s (Some letter) e =
    subst (λ o. BringsSame (listed objects t s) (load_by objects (received_of objects t) (Some letter) o).know (carried_by objects (carried_of objects t) (Some letter) o)) (sym e) (none_brings (listed objects t s))

pub input_brings : (objects : List ObjectDecl) (t : List Event) (input : Input) → SameSoFar objects t
    → BringsSame (listed objects t (node_of t input)) (load_by objects (received_of objects t) (got_of input) (mail_got t (got_of input))).know (carried_by objects (carried_of objects t) (got_of input) (mail_got t (got_of input)))
input_brings objects t input same = elim (input_addressed t input (mail_got t (got_of input)) refl) [
  | inl none ↦ no_mail objects t (node_of t input) (got_of input) none
  | inr to ↦ brought_same objects t (node_of t input) (got_of input) to same
]

pub steps_are_the_same : StepsAreTheSame
steps_are_the_same objects t input to =
    let same : SameSoFar objects t = same_so_far objects t to in
    let s : ℕ = node_of t input in
    step_same objects s (map as_carried (history objects t s)) (of_node (carried_of objects t) s) input (mail_got t (got_of input))
    (load_by objects (received_of objects t) (got_of input) (mail_got t (got_of input))).know (carried_by objects (carried_of objects t) (got_of input) (mail_got t (got_of input)))
    (entries_alike objects t s) (same.nodes s) (input_brings objects t input same)

pub nodes_go_by_the_same : NodesGoByTheSame
nodes_go_by_the_same objects t s to =
    let h : List Carried = map as_carried (history objects t s) in
    let j : List Carried = of_node (carried_of objects t) s in
    let alike : IsSame (held objects h) (held objects j) = (same_so_far objects t to).nodes s in
    let brings : BringsSame (held objects h).outcomes nothing nothing = none_brings (held objects h).outcomes in
    let first : new_informs s nothing (held objects h) ≡ new_informs s nothing (held objects j) = informs_same s (held objects h) (held objects j) nothing nothing alike brings in
    ap (λ ds. sight_with objects s h ds (both (held objects h) nothing)) first
    ∙ sight_same objects s h j (new_informs s nothing (held objects j)) (both (held objects h) nothing) (both (held objects j) nothing) (entries_alike objects t s) (together_same (held objects h) (held objects j) nothing nothing alike brings)

pub ran_events : (objects : List ObjectDecl) (t : List Event) (input : Input) → Ran objects t → MayCome objects t input → next_by_deltas objects t input ≡ (by_pasts objects).next t input
ran_events objects t input run may = steps_are_the_same objects t input (ran_addressed objects t run) ∙ whole_events objects t input run may

-- of runs without a halt
pub events_are_those_of_pasts : EventsAreThoseOfPasts
events_are_those_of_pasts objects t input run = ran_events objects t input (plain_ran objects t run)
