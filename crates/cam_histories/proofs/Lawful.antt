-- The history of each node of a run is lawful, through halts too.
use Rattle.std.proofs.Common.{◌≡◌, ◌⊎◌, inl, inr, ℕ, eqb, Bool, true, false, not, if◌then◌else◌, List, [], ◌∷◌, ◌++◌, filter, length, Some, None, refl, sym, ap, ◌∙◌, subst}
use Rattle.std.specs.Prelude.{flat_map}
use Rattle.std.specs.List.{list_any}
use Rattle.std.proofs.lemmas.Bool.{true≢false}
use Rattle.std.proofs.lemmas.Bool.Decides.{eqb_tells}
use Rattle.cam_type.specs.declared.ObjectDecl.{ObjectDecl}
use Rattle.cam_event.specs.declared.Event.{Event}
use Rattle.cam_event.specs.declared.Deed.{Deed}
use Rattle.cam_event.specs.declared.Deed.TheVariants.{Crash}
use Rattle.cam_event.specs.declared.Note.TheVariants as notes
use Rattle.cam_event.specs.History.{is_crash, aborted, committed}
use Rattle.cam_event.specs.Inputs.{Input, Restarts, mail_got, node_of, got_of}
use Rattle.cam_event.specs.Pasts.{last_of, holds}
use Rattle.cam_event.specs.ByPast.{next, first_informs, own_past, abort_in, commit_in}
use Rattle.cam_event.specs.Rules.{informs}
use Rattle.cam_event.specs.ByDeltas.{Received, next_by_deltas}
use Rattle.cam_event.specs.Runs.{MayCome, IsNext}
use Rattle.cam_event.specs.Taken.{is_entered, taken_of, IsTakenNext, MayStand, IsRunTaking}
use Rattle.cam_event.proofs.Members.{in_any, any_in, any_more, in_append}
use Rattle.cam_event.proofs.NewestPasts.{plain_none}
use Rattle.cam_cut.proofs.Lists.{in_filter}
use Rattle.cam_cut.proofs.NextEvent.{sight_of, did_of}
use Rattle.cam_cut.proofs.Parts.{first_is}
use Rattle.cam_agree.proofs.Ran.{Ran, plain_ran}
use Rattle.cam_delta.proofs.Growing.{newest_received, history_here, history_there}
use Rattle.cam_delta.proofs.SameSteps.{ran_events}
use Rattle.cam_node.specs.Lawful.{IsStepOf, IsLawful}
use Rattle.cam_node.specs.Halting.{IsTakenOf, Restarted, IsThrough, IsEnded}
use Rattle.cam_histories.specs.Laws.{history_of, HistoriesAreLawful, HistoriesGoThrough, HistoriesMayEnd}
use Rattle.cam_histories.proofs.Replying.{rule_restarts}
use Rattle.cam_histories.proofs.Putting.{ran_inputs_put}

-- the next event of an input is a step of its node
step_at : (objects : List ObjectDecl) (t : List Event) (input : Input) → Ran objects t → MayCome objects t input
    → IsStepOf objects (node_of t input) (history_of objects t (node_of t input)) (newest_received objects (next_by_deltas objects t input) t)
step_at objects t input run may = record { input = input; may = ran_inputs_put objects t input run may; is_next = refl }

pub next_is_step : (objects : List ObjectDecl) (t : List Event) (e : Event) → Ran objects t → IsNext objects t e → IsStepOf objects e.node (history_of objects t e.node) (newest_received objects e t)
next_is_step objects t e run is =
    subst (λ (x : Event). IsStepOf objects x.node (history_of objects t x.node) (newest_received objects x t))
    (ran_events objects t is.input run is.may ∙ sym is.is_next)
    (step_at objects t is.input run is.may)

pub histories_are_lawful : HistoriesAreLawful
histories_are_lawful objects [] s run = tt
histories_are_lawful objects (e ∷ t) s run = by (histories_are_lawful objects t s run.1) (histories_are_lawful objects t e.node run.1) (eqb_tells e.node s)
  where
    by : IsLawful objects s (history_of objects t s) → IsLawful objects e.node (history_of objects t e.node) → ((eqb e.node s ≡ true) × (e.node ≡ s)) ⊎ ((eqb e.node s ≡ false) × (e.node ≡ s → ⊥)) → IsLawful objects s (history_of objects (e ∷ t) s)
    by old mine (inl y) =
        subst (λ (n : ℕ). IsLawful objects n (history_of objects (e ∷ t) n)) y.1
        (subst (IsLawful objects e.node) (sym (history_here objects e t)) (next_is_step objects t e (plain_ran objects t run.1) run.0, mine))
    by old mine (inr n) = subst (IsLawful objects s) (sym (history_there objects e t s n.0)) old

-- a history with a step after it
through_step : (objects : List ObjectDecl) (s : ℕ) (h : List Received) (c : Received) → IsStepOf objects s h c → IsThrough objects s h → IsThrough objects s (c ∷ h)
through_step objects s [] c step through = step
through_step objects s (k ∷ h) c step through = (step, inl through)

-- or with a restart, where its last event may be a taken one
through_restart : (objects : List ObjectDecl) (s : ℕ) (h : List Received) (c : Received) → IsStepOf objects s h c → Restarted s c → IsEnded objects s h → IsThrough objects s (c ∷ h)
through_restart objects s [] c step again ended = step
through_restart objects s (k ∷ h) c step again (inl through) = (step, inl through)
through_restart objects s (k ∷ h) c step again (inr halted) = (step, inr (again, halted.0, halted.1))

through_ended : (objects : List ObjectDecl) (s : ℕ) (h : List Received) → IsThrough objects s h → IsEnded objects s h
through_ended objects s [] through = tt
through_ended objects s (k ∷ h) through = inl through

-- What stands of a history, where its last event was taken or not: it goes through halts, but for a taken event at its end.
record IsSo (objects : List ObjectDecl) (s : ℕ) (h : List Received) (last : Bool) : Type 0 where
  goes : last ≡ false → IsThrough objects s h
  ends : IsEnded objects s h

so_through : (objects : List ObjectDecl) (s : ℕ) (h : List Received) (last : Bool) → IsThrough objects s h → IsSo objects s h last
so_through objects s h last through = record { goes = λ e. through; ends = through_ended objects s h through }

-- a step after it, which is a restart where the last event was taken
after_step : (objects : List ObjectDecl) (s : ℕ) (h : List Received) (c : Received) (last : Bool) → IsSo objects s h last → IsStepOf objects s h c → (last ≡ true → Restarted s c) → IsThrough objects s (c ∷ h)
after_step objects s h c true so step again = through_restart objects s h c step (again refl) so.ends
after_step objects s h c false so step again = through_step objects s h c step (so.goes refl)

-- what was taken of an event
taken_step : (objects : List ObjectDecl) (t : List Event) (e : Event) → Ran objects t → IsTakenNext objects t e → IsTakenOf objects e.node (history_of objects t e.node) (newest_received objects e t)
taken_step objects t e run is =
    subst (λ (x : Event). IsTakenOf objects x.node (history_of objects t x.node) (newest_received objects x t)) (sym is.taken)
    (record { whole = newest_received objects is.whole t; step = next_is_step objects t is.whole run is.may; is = refl })

-- a restart has nothing but its crash
restart_deeds : (objects : List ObjectDecl) (t : List Event) (m : ℕ) → (next objects t (Restarts m)).deeds ≡ Crash m ∷ []
restart_deeds objects t m =
    ap (λ L. informs m (filter (λ a. not (aborted (own_past t m) a)) (flat_map abort_in L)) (filter (λ a. not (committed (own_past t m) a)) (flat_map commit_in L)) ++ Crash m ∷ []) (plain_none t)

-- the crash of an event is that of its rule
kept_crash : (s : ℕ) (ds : List Deed) → list_any (is_crash s) (filter is_entered ds) ≡ true → list_any (is_crash s) ds ≡ true
kept_crash s ds h = any_more (is_crash s) (filter is_entered ds) ds (λ d i. (in_filter is_entered ds d i).0) h

crash_by : (objects : List ObjectDecl) (t : List Event) (input : Input) (s : ℕ) → list_any (is_crash s) (next objects t input).deeds ≡ true → (m : ℕ) × (input ≡ Restarts m)
crash_by objects t input s h =
    let first : List Deed = first_informs t (node_of t input) (got_of input) in
    let rest : List Deed = (did_of objects t input).deeds in
    let found = any_in (is_crash s) (first ++ rest) h in
    elim (in_append first rest found.0 found.1) [
      | inl i ↦ let inform = first_is t (node_of t input) (got_of input) found.0 i in absurd (true≢false (sym found.2 ∙ ap (is_crash s) inform.is))
      | inr i ↦ rule_restarts objects (sight_of objects t input) (mail_got t (got_of input)) input s (in_any (is_crash s) rest found.0 i found.2)
    ]

-- A taken event that has a crash is the whole of a restart.
restart_whole : (objects : List ObjectDecl) (t : List Event) (input : Input) (m : ℕ) → input ≡ Restarts m → taken_of (next objects t input) ≡ next objects t input
restart_whole objects t input m is = subst (λ (i : Input). taken_of (next objects t i) ≡ next objects t i) (sym is) (whole (restart_deeds objects t m))
  where
    whole : (next objects t (Restarts m)).deeds ≡ Crash m ∷ [] → taken_of (next objects t (Restarts m)) ≡ next objects t (Restarts m)
    whole alone = λ i. record { node = m; got = None; deeds = (ap (filter is_entered) alone ∙ sym alone) i; sent = []; note = notes.Plain }

crash_whole : (objects : List ObjectDecl) (t : List Event) (e : Event) → Ran objects t → IsTakenNext objects t e → list_any (is_crash e.node) e.deeds ≡ true → IsNext objects t e
crash_whole objects t e run is crash =
    let input : Input = is.may.input in
    let from = crash_by objects t input e.node
    (subst (λ (x : Event). list_any (is_crash e.node) x.deeds ≡ true) is.may.is_next
    (kept_crash e.node is.whole.deeds (subst (λ (x : Event). list_any (is_crash e.node) x.deeds ≡ true) is.taken crash))) in
    record {
      input = input;
      may = is.may.may;
      is_next = is.taken ∙ ap taken_of is.may.is_next ∙ restart_whole objects t input from.0 from.1;
    }

-- so the history with the newest event stands so
newest_so : (objects : List ObjectDecl) (t : List Event) (e : Event) (last took : Bool) → Ran objects t → MayStand objects t e took → (last ≡ true → list_any (is_crash e.node) e.deeds ≡ true)
    → IsSo objects e.node (history_of objects t e.node) last → IsSo objects e.node (newest_received objects e t ∷ history_of objects t e.node) took
newest_so objects t e last false run may again so =
    so_through objects e.node (newest_received objects e t ∷ history_of objects t e.node) false
    (after_step objects e.node (history_of objects t e.node) (newest_received objects e t) last so (next_is_step objects t e run may) again)
newest_so objects t e true true run may again so =
    so_through objects e.node (newest_received objects e t ∷ history_of objects t e.node) true
    (after_step objects e.node (history_of objects t e.node) (newest_received objects e t) true so (next_is_step objects t e run (crash_whole objects t e run may (again refl))) again)
newest_so objects t e false true run may again so = record {
  goes = λ h. absurd (true≢false h);
  ends = inr (taken_step objects t e run may, so.goes refl);
}

stands : (objects : List ObjectDecl) (took : ℕ → Bool) (t : List Event) (s : ℕ) → IsRunTaking objects took t → IsSo objects s (history_of objects t s) (holds took (last_of t s))
stands objects took [] s run = record { goes = λ h. tt; ends = tt }
stands objects took (e ∷ t) s run = by (stands objects took t s run.2) (stands objects took t e.node run.2) (eqb_tells e.node s)
  where
    last : Bool → Bool
    last b = holds took (if b then Some (length t) else last_of t s)

    by : IsSo objects s (history_of objects t s) (holds took (last_of t s)) → IsSo objects e.node (history_of objects t e.node) (holds took (last_of t e.node))
        → ((eqb e.node s ≡ true) × (e.node ≡ s)) ⊎ ((eqb e.node s ≡ false) × (e.node ≡ s → ⊥)) → IsSo objects s (history_of objects (e ∷ t) s) (last (eqb e.node s))
    by old mine (inl y) =
        subst (λ (b : Bool). IsSo objects s (history_of objects (e ∷ t) s) (last b)) (sym y.0)
        (subst (λ (n : ℕ). IsSo objects n (history_of objects (e ∷ t) n) (took (length t))) y.1
        (subst (λ (h : List Received). IsSo objects e.node h (took (length t))) (sym (history_here objects e t))
        (newest_so objects t e (holds took (last_of t e.node)) (took (length t)) (took, run.2) run.0 run.1 mine)))
    by old mine (inr n) =
        subst (λ (b : Bool). IsSo objects s (history_of objects (e ∷ t) s) (last b)) (sym n.0)
        (subst (λ (h : List Received). IsSo objects s h (holds took (last_of t s))) (sym (history_there objects e t s n.0)) old)

pub histories_go_through : HistoriesGoThrough
histories_go_through objects took t s run h = (stands objects took t s run).goes h

pub histories_may_end : HistoriesMayEnd
histories_may_end objects took t s run = (stands objects took t s run).ends
