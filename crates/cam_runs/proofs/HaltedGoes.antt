-- Requests by bodies and plays in a run in which nodes halt: what they lead to is under way, and the same by both readings.
use Rattle.std.proofs.Common.{◌≡◌, ◌⊎◌, inl, inr, ℕ, zero, suc, ◌+◌, ◌-◌, eqb, Bool, true, false, not, ◌&&◌, if◌then◌else◌, List, [], ◌∷◌, ◌++◌, length, Option, Some, None, refl, sym, ap, ◌∙◌, subst, arith}
use Rattle.std.specs.Prelude.{slice_get, nat_lt}
use Rattle.std.proofs.lemmas.Bool.{and_parts, eqb-true}
use Rattle.std.proofs.lemmas.Option.{same_Some}
use Rattle.cam_names.specs.declared.name.Name.{Name}
use Rattle.cam_names.specs.Names.{name_eq, is_prefix, home_node}
use Rattle.cam_names.proofs.Names.{name_eq_same}
use Rattle.cam_event.specs.declared.Request.{Request}
use Rattle.cam_event.specs.declared.ViewStep.{ViewStep}
use Rattle.cam_event.specs.declared.Want.{Want}
use Rattle.cam_event.specs.declared.Deed.{Deed}
use Rattle.cam_event.specs.History.{after}
use Rattle.cam_event.specs.Pasts.{plain_all}
use Rattle.cam_event.specs.Views.{view}
use Rattle.cam_event.specs.Inputs.{Requests}
use Rattle.cam_event.specs.Sights.{Sight, Entry, own_deeds}
use Rattle.cam_event.specs.Refusals.{has_ended, is_not_open}
use Rattle.cam_event.specs.Readings.{by_pasts, by_knowledge}
use Rattle.cam_event.proofs.OwnSteps.{entries_same}
use Rattle.cam_agree.proofs.Ran.{ran_holds, ran_informs}
use Rattle.cam_delta.proofs.Addressed.{ran_addressed}
use Rattle.cam_delta.proofs.SameSteps.{nodes_go_by_the_same}
use Rattle.cam_script.specs.declared.Script.{Script}
use Rattle.cam_script.specs.declared.Statement.{Statement}
use Rattle.cam_body.specs.declared.Next.{Next}
use Rattle.cam_body.specs.declared.Next.TheVariants as nexts
use Rattle.cam_body.specs.Work.{next, body_at, child_body}
use Rattle.cam_runs.specs.Running.{has_number}
use Rattle.cam_runs.specs.Requests.{home_sight, asked_in}
use Rattle.cam_runs.specs.Playing.{body_number, body_of, go_refusal, may_go, in_order}
use Rattle.cam_runs.specs.InRange.{nests_within, IsInRange}
use Rattle.cam_runs.specs.UnderWay.{Idle, Known, WorksAt}
use Rattle.cam_runs.specs.Halts.{accepted}
use Rattle.cam_runs.specs.Standing.{Standing, Setting, put, made, drain}
use Rattle.cam_runs.specs.HaltedPlaying.{given_body, make_request, go, may_go_on, go_in_round, round, rounds, play}
use Rattle.cam_runs.specs.UnderHalts.{IsUnderHalts}
use Rattle.cam_runs.proofs.NewActions.{IsNew}
use Rattle.cam_runs.proofs.BodyRequests.{BodyRequest, body_request_by}
use Rattle.cam_runs.proofs.Going.{child_nests, may_parts}
use Rattle.cam_runs.proofs.OnEvents.{more_numbers}
use Rattle.cam_runs.proofs.HaltedEvents.{ran}
use Rattle.cam_runs.proofs.HaltedNew.{asked_new}
use Rattle.cam_runs.proofs.HaltedPuts.{pasts, helds, Both, both_stay, both_then, if_both, put_both, ready_by, drain_both}

-- a new action gets a body
pub body_given : (script : Script) (old new : Standing) (b : Name) (n : ℕ) → IsUnderHalts script old → IsUnderHalts script new → new.running.bound ≡ old.running.bound → IsNew (plain_all old.running.trace) (plain_all new.running.trace) b → nests_within script.bodies (9 - length b) n ≡ true
    → IsUnderHalts script (given_body (Some n) (Some b) new)
body_given script old new b n before led same fresh nests = record {
  run = led.run;
  below = led.below;
  waits = led.waits;
  works = λ a m at. elim (more_numbers new.running.bodies b a n (Some m) at) [
    | inl was ↦ led.works a m was
    | inr is ↦ subst (λ (x : Name). WorksAt script.bodies (plain_all new.running.trace) x m) (name_eq_same b a is.0)
        (subst (λ (k : ℕ). WorksAt script.bodies (plain_all new.running.trace) b k) (same_Some n m (sym is.1)) (record { nests = nests; named = fresh.named; known = fresh.known; one = fresh.one }))
  ];
  placed = led.placed;
  decided = led.decided;
  bound = λ v a free at.
      let k = led.bound v a free at in
      let was = before.bound v a free (ap (λ bs. slice_get bs v) (sym same) ∙ at) in
      record { known = k.known; bare = still a (body_number (new.running.bodies ++ (b, n) ∷ []) a) k.bare (more_numbers new.running.bodies b a n (body_number (new.running.bodies ++ (b, n) ∷ []) a) refl) (λ is. fresh.fresh (subst (λ (x : Name). Known (plain_all old.running.trace) x) (sym (name_eq_same b a is)) was.known)) };
}
  where
    still : (a : Name) (o : Option ℕ) → body_number new.running.bodies a ≡ None → (body_number new.running.bodies a ≡ o) ⊎ ((name_eq b a ≡ true) × (o ≡ Some n)) → (name_eq b a ≡ true → ⊥) → o ≡ None
    still a o none (inl e) other = sym e ∙ none
    still a o none (inr is) other = absurd (other is.0)

-- an edit that gives a body, or none
pub given_both : (script : Script) (old one other : Standing) (body : Option ℕ) (binds : Standing → Option Name) → IsUnderHalts script old → Both script old one other
    → ((b : Name) (n : ℕ) → body ≡ Some n → binds one ≡ Some b → IsUnderHalts script (given_body (Some n) (Some b) one))
    → Both script old (given_body body (binds one) one) (given_body body (binds other) other)
given_both script old one other body binds before first gives = record {
  under = by body (binds one) refl refl;
  bound = bounds body (binds one) ∙ first.bound;
  same = ap (λ x. given_body body (binds x) x) first.same;
}
  where
    by : (o : Option ℕ) (a : Option Name) → body ≡ o → binds one ≡ a → IsUnderHalts script (given_body o a one)
    by (Some n) (Some b) e f = gives b n e f
    by (Some n) None e f = record { run = first.under.run; below = first.under.below; waits = first.under.waits; works = first.under.works; bound = first.under.bound; placed = first.under.placed; decided = first.under.decided }
    by None a e f = record { run = first.under.run; below = first.under.below; waits = first.under.waits; works = first.under.works; bound = first.under.bound; placed = first.under.placed; decided = first.under.decided }

    bounds : (o : Option ℕ) (a : Option Name) → (given_body o a one).running.bound ≡ one.running.bound
    bounds (Some n) (Some b) = refl
    bounds (Some n) None = refl
    bounds None a = refl

-- A request by an action's body.
pub go_both : (script : Script) (c : Setting) (st : Standing) (a : Name) → IsInRange script → IsUnderHalts script st → has_number st.halted (home_node a) ≡ false
    → has_ended (home_sight (by_pasts script.objects) st.running a) a ≡ None → is_not_open (home_sight (by_pasts script.objects) st.running a) a ≡ None
    → Both script st (go (pasts script c) script.bodies st a) (go (helds script c) script.bodies st a)
go_both script c st a range under awake running made_open = by (next body seen) refl
  where
    seen : List ViewStep
    seen = view (plain_all st.running.trace) a

    body : List Statement
    body = body_of script.bodies st.running a

    work-on : (want : Want) → BodyRequest script st.running a want → Both script st (make_request (pasts script c) st a (child_body body seen) (nexts.Request want)) (make_request (helds script c) st a (child_body body seen) (nexts.Request want))
    work-on want asks =
        let request : Request = record { action = a; want = want } in
        let one : Standing = put (pasts script c) st (Requests request) in
        let first = put_both script c st (Requests request) (ready_by script st (Requests request) under awake asks.may (λ b n at same. subst (λ (x : Name). Idle (plain_all st.running.trace) x) (sym same) asks.idle)) in
        given_both script st one (put (helds script c) st (Requests request)) (child_body body seen) (λ after. asked_in (made st after)) under first
        (λ b m e f.
        let new = asked_new script c st request b under asks.may f in
        let longer : length b ≡ length a + 1 = eqb-true (length b) (length a + 1) (and_parts (is_prefix a b) (eqb (length b) (length a + 1)) new.1).1 in
        let room : asks.level ≡ 9 - length b = omega (arith, asks.room, longer) in
        let nests : nests_within script.bodies asks.level m ≡ true = child_nests script.bodies asks.level asks.work.statement asks.work.more m asks.deep (sym (ap body_at asks.work.at) ∙ e) in
        body_given script st one b m under first.under first.bound new.0 (subst (λ (k : ℕ). nests_within script.bodies k m ≡ true) room nests))

    by : (n : Next) → next body seen ≡ n → Both script st (make_request (pasts script c) st a (child_body body seen) n) (make_request (helds script c) st a (child_body body seen) n)
    by (nexts.Request want) e = work-on want (body_request_by script st.running a want range (ran_holds script.objects st.running.trace (ran script st under.run)) under.works running made_open e)
    by nexts.Wait e = both_stay script st under
    by nexts.Over e = both_stay script st under

-- a sight of which the node's own deeds alone count
abbrev plain_sight : ℕ → List Entry → List Deed → Sight
plain_sight s own first = record {
  node = s;
  deeds = after (own_deeds own) first;
  events = own;
  live = [];
  knows_abort = λ a. false;
  knows_commit = λ a. false;
  known_count = λ m. 1;
  orphan = λ a visited. None;
  deps = λ a. [];
}

may_go_same : (script : Script) (st : Standing) (a : Name) → IsUnderHalts script st → may_go (home_sight (by_knowledge script.objects) st.running a) st.running a ≡ may_go (home_sight (by_pasts script.objects) st.running a) st.running a
may_go_same script st a under =
    ap (λ g. may_go g st.running a) (nodes_go_by_the_same script.objects st.running.trace (home_node a) (ran_addressed script.objects st.running.trace (ran script st under.run)))
    ∙ λ i. may_go (plain_sight (home_node a) (entries_same script.objects st.running.trace (home_node a) i) (ran_informs script.objects st.running.trace (home_node a) None (ran script st under.run) tt i)) st.running a

pub go_refusal_same : (script : Script) (st : Standing) (a : Name) → IsUnderHalts script st → go_refusal (home_sight (by_knowledge script.objects) st.running a) a ≡ go_refusal (home_sight (by_pasts script.objects) st.running a) a
go_refusal_same script st a under =
    ap (λ g. go_refusal g a) (nodes_go_by_the_same script.objects st.running.trace (home_node a) (ran_addressed script.objects st.running.trace (ran script st under.run)))
    ∙ λ i. go_refusal (plain_sight (home_node a) (entries_same script.objects st.running.trace (home_node a) i) (ran_informs script.objects st.running.trace (home_node a) None (ran script st under.run) tt i)) a

not_so : (b : Bool) → not b ≡ true → b ≡ false
not_so true h = cc
not_so false h = refl

-- rounds of requests
names_both : (script : Script) (c : Setting) (names : List Name) (st : Standing) → IsInRange script → IsUnderHalts script st → Both script st (go_in_round (pasts script c) script.bodies names st) (go_in_round (helds script c) script.bodies names st)
names_both script c [] st range under = both_stay script st under
names_both script c (a ∷ more) st range under =
    let one : Standing = if may_go_on (pasts script c) st a then go (pasts script c) script.bodies st a else st in
    let mixed : Standing = if may_go_on (pasts script c) st a then go (helds script c) script.bodies st a else st in
    let other : Standing = if may_go_on (helds script c) st a then go (helds script c) script.bodies st a else st in
    let same : other ≡ mixed = λ i. if may_go_same script st a under i && not (has_number st.halted (home_node a)) then go (helds script c) script.bodies st a else st in
    let first : Both script st one mixed = if_both script (may_go_on (pasts script c) st a) st (go (pasts script c) script.bodies st a) (go (helds script c) script.bodies st a) under (λ may.
    let parts = and_parts (may_go (home_sight (by_pasts script.objects) st.running a) st.running a) (not (has_number st.halted (home_node a))) may in
    let goes = may_parts (home_sight (by_pasts script.objects) st.running a) st.running a parts.0 in
    go_both script c st a range under (not_so (has_number st.halted (home_node a)) parts.1) goes.0 goes.1) in
    both_then script st one other (go_in_round (pasts script c) script.bodies more) (go_in_round (helds script c) script.bodies more)
    (record { under = first.under; bound = first.bound; same = same ∙ first.same }) (names_both script c more one range)

round_both : (script : Script) (c : Setting) (st : Standing) → IsInRange script → IsUnderHalts script st → Both script st (round (pasts script c) script.bodies st) (round (helds script c) script.bodies st)
round_both script c st range under =
    let names : List Name = in_order st.running.bodies in
    both_then script st (go_in_round (pasts script c) script.bodies names st) (go_in_round (helds script c) script.bodies names st) (drain (pasts script c)) (drain (helds script c))
    (names_both script c names st range under) (drain_both script c (go_in_round (pasts script c) script.bodies names st))

rounds_both : (script : Script) (c : Setting) (n : ℕ) (st : Standing) → IsInRange script → IsUnderHalts script st → Both script st (rounds (pasts script c) script.bodies n st) (rounds (helds script c) script.bodies n st)
rounds_both script c zero st range under = both_stay script st under
rounds_both script c (suc n) st range under =
    let one : Standing = round (pasts script c) script.bodies st in
    both_then script st one (round (helds script c) script.bodies st)
    (λ after. if nat_lt (accepted st.turns) (accepted after.turns) then rounds (pasts script c) script.bodies n after else after)
    (λ after. if nat_lt (accepted st.turns) (accepted after.turns) then rounds (helds script c) script.bodies n after else after)
    (round_both script c st range under)
    (λ led. if_both script (nat_lt (accepted st.turns) (accepted one.turns)) one (rounds (pasts script c) script.bodies n one) (rounds (helds script c) script.bodies n one) led (λ e. rounds_both script c n one range led))

pub play_both : (script : Script) (c : Setting) (st : Standing) → IsInRange script → IsUnderHalts script st → Both script st (play (pasts script c) script.bodies st) (play (helds script c) script.bodies st)
play_both script c st range under = rounds_both script c 514 st range under
