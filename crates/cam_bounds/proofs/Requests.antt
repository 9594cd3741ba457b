-- What a request by an action's body costs: no more than what is left of the body falls by, while its
-- node goes on; and a halt costs one input.
use Rattle.std.proofs.Common.{◌≡◌, ◌⊎◌, inl, inr, ℕ, ◌+◌, ◌*◌, ◌≤◌, Bool, true, false, ◌&&◌, ◌||◌, List, [], ◌∷◌, ◌++◌, length, Option, Some, None, refl, ap, ◌∙◌, arith}
use Rattle.std.specs.Prelude.{eqb, if◌then◌else◌, slice_get}
use Rattle.std.specs.List.{list_any}
use Rattle.std.proofs.lemmas.Bool.{eq-eqb}
use Rattle.cam_names.specs.declared.name.Name.{Name}
use Rattle.cam_names.specs.Names.{home_node}
use Rattle.cam_names.specs.Dependencies.{pairs_of}
use Rattle.cam_names.proofs.Names.{name_eq_refl}
use Rattle.cam_know.specs.declared.Reason.{Reason}
use Rattle.cam_event.specs.declared.Deed.{Deed}
use Rattle.cam_event.specs.declared.Event.{Event}
use Rattle.cam_event.specs.declared.Want.{Want}
use Rattle.cam_event.specs.declared.Want.TheVariants as wants
use Rattle.cam_event.specs.ByPast.{first_informs, next as next_past}
use Rattle.cam_event.specs.Inputs.{Input, Requests}
use Rattle.cam_event.specs.Pasts.{plain_all}
use Rattle.cam_event.specs.Rules.{stopped_by, wanted, Did}
use Rattle.cam_event.specs.Sights.{Sight}
use Rattle.cam_event.specs.Taken.{taken_of}
use Rattle.cam_event.specs.Views.{view}
use Rattle.cam_script.specs.declared.Script.{Script}
use Rattle.cam_script.specs.declared.Statement.{Statement}
use Rattle.cam_script.specs.SoFar.{Size}
use Rattle.cam_body.specs.declared.Next.TheVariants as nexts
use Rattle.cam_body.specs.Work.{child_body, next}
use Rattle.cam_cut.proofs.NextEvent.{sight_of}
use Rattle.cam_runs.specs.HaltedPlaying.{given_body}
use Rattle.cam_runs.specs.Playing.{is_stop_note, is_stop_of}
use Rattle.cam_runs.specs.Requests.{asked_in}
use Rattle.cam_runs.specs.RequestsLeft.{left_away, left_of}
use Rattle.cam_runs.specs.Running.{has_number, waiting_weight}
use Rattle.cam_runs.specs.Standing.{made, put, Setting, Standing}
use Rattle.cam_runs.proofs.HaltedNew.{as_long, longer, no_ask}
use Rattle.cam_runs.proofs.HaltedPuts.{pasts}
use Rattle.cam_runs.proofs.Light.{sent_weight}
use Rattle.cam_runs.proofs.LinesSpend.{cost_left, request_pays}
use Rattle.cam_runs.proofs.OneEvent.{first_none}
use Rattle.cam_runs.proofs.RequestsPut.{gift_made, no_child, request_lowers, Makes}
use Rattle.cam_bounds.proofs.Dues.{due, fewer_unstopped, one_given, unstopped}
use Rattle.cam_bounds.proofs.Inputs.{put_takes}
use Rattle.cam_bounds.proofs.Weights.{asks_light, next_light}

-- A body that is given changes neither events nor letters.
pub given_events : (child : Option ℕ) (asked : Option Name) (st : Standing)
    → (given_body child asked st).running.trace ≡ st.running.trace
given_events None asked st = refl
given_events (Some m) None st = refl
given_events (Some m) (Some b) st = refl

pub given_weighs : (child : Option ℕ) (asked : Option Name) (st : Standing)
    → waiting_weight (given_body child asked st).running ≡ waiting_weight st.running
given_weighs None asked st = refl
given_weighs (Some m) None st = refl
given_weighs (Some m) (Some b) st = refl

pub none_given : (sizes : List Size) (bodies : List (List Statement)) (child : Option ℕ)
    → one_given sizes bodies child None ≡ 0
none_given sizes bodies None = refl
none_given sizes bodies (Some m) = refl

one_at_most : (sizes : List Size) (bodies : List (List Statement)) (child : Option ℕ)
    (asked : Option Name) → one_given sizes bodies child asked ≤ 1
one_at_most sizes bodies None asked = omega arith
one_at_most sizes bodies (Some m) None = omega arith
one_at_most sizes bodies (Some m) (Some b) = omega arith

-- where each input is this halt, or none is
abbrev pub halting_so : Setting → Option Bool → Setting
halting_so c o = record c { halts = λ turns s appends restarted. o }

module _ (sizes : List Size) (script : Script) (st : Standing) (a : Name) (want : Want) (c : Setting) where
  abbrev pub t : List Event
  t = st.running.trace

  abbrev pub request : Input
  request = Requests (record { action = a; want = want })

  abbrev pub home_sight_of : Sight
  home_sight_of = sight_of script.objects t request

  abbrev pub reason : Option Reason
  reason = home_sight_of.orphan a (pairs_of (home_sight_of.deps a))

  abbrev pub event : Event
  event = next_past script.objects t request

  abbrev pub after : Option Bool → Standing
  after o = put (pasts script (halting_so c o)) st request

  abbrev pub asked : Option Bool → Option Name
  asked o = asked_in (made st (after o))

  pub asked_event : asked None ≡ asked_in event.deeds
  asked_event = ap asked_in (longer (length t) event.deeds [])

  -- at a halt no child is asked for
  pub asked_halted : (took : Bool) → asked (Some took) ≡ None
  asked_halted true = ap asked_in (longer (length t) (taken_of event).deeds []) ∙ no_ask event.deeds
  asked_halted false = ap asked_in (as_long (length t) _ [])

  -- A request that asks for a child sends little.
  pub asks_little : (o : Option Bool) → (asked o ≡ None) ⊎ (sent_weight event.sent ≤ 10)
  asks_little (Some took) = inl (asked_halted took)
  asks_little None =
      by (asks_light script.objects home_sight_of a want reason (first_informs t (home_node a) None)
      (first_none t (home_node a)))
    where
      by : (asked_in event.deeds ≡ None) ⊎ (sent_weight event.sent ≤ 10)
          → (asked None ≡ None) ⊎ (sent_weight event.sent ≤ 10)
      by (inl none) = inl (asked_event ∙ none)
      by (inr light) = inr light

  pub little : (o : Option Bool) (child : Option ℕ)
      → sent_weight event.sent + one_given sizes script.bodies child (asked o) ≤ 81
  little o child = by (asks_little o)
    where
      by : (asked o ≡ None) ⊎ (sent_weight event.sent ≤ 10)
          → sent_weight event.sent + one_given sizes script.bodies child (asked o) ≤ 81
      by (inl none) =
          let all = next_light script.objects t request in
          let no_one = ap (one_given sizes script.bodies child) none ∙ none_given sizes script.bodies child in
          omega (arith, all, no_one)
      by (inr light) =
          let one = one_at_most sizes script.bodies child (asked o) in omega (arith, light, one)

  -- The body that makes it pays for the body of its child,
  module _ (n : ℕ) (body : List Statement) (numbered : slice_get script.bodies n ≡ Some body)
      (asks : next body (view (plain_all t) a) ≡ nexts.Request want) where
    abbrev pub child : Option ℕ
    child = child_body body (view (plain_all t) a)

    abbrev pub gift : Option Bool → ℕ
    gift o = gift_made sizes child (asked o)

    abbrev pub its_due : List Event → ℕ
    its_due now = due sizes script.bodies now a n

    pub due_pays : (o : Option Bool) → its_due (after o).running.trace + 82 * gift o ≤ its_due t
    due_pays o =
        let pays = request_pays sizes script st a want n body numbered asks (halting_so c o) in
        let few = fewer_unstopped t (after o).running.trace a
        (put_takes (pasts script (halting_so c o)) st request).stopped in
        omega (arith, pays, few)

    -- and for its event and its letters, where the action was not stopped before.
    pub record Paid : Type 0 where
      pub cost : ℕ
      pub falls : its_due (after None).running.trace + (cost + 82 * gift None) ≤ its_due t
      pub enough : 1 + sent_weight event.sent + one_given sizes script.bodies child (asked None) ≤ cost

    module _ (awake : has_number st.halted (home_node a) ≡ false)
        (going : list_any (is_stop_of a) t ≡ false) where
      away_is : (now : List Event) → list_any (is_stop_of a) now ≡ false
          → left_away sizes script.bodies st.halted now a n ≡ cost_left sizes script.bodies now a n
      away_is now on =
          ap (λ b. if b then 0 else left_of sizes script.bodies now a n) awake
          ∙ ap (λ b. if b then 0 else cost_left sizes script.bodies now a n) on

      was_going : unstopped t a ≡ 1
      was_going = ap (λ b. if b then 0 else 1) going

      abbrev did_by : Option Reason → Did
      did_by o = stopped_by a o (wanted script.objects home_sight_of a want)

      plain_note : (w : Want) → is_stop_note a (wanted script.objects home_sight_of a w).note ≡ false
      plain_note (wants.Ask m) = refl
      plain_note (wants.Call x op) = refl
      plain_note (wants.Commit v) = refl
      plain_note wants.Abort = refl
      plain_note (wants.GiveUp b) = refl

      neither : (x y : Bool) → y ≡ false → (x && y) ≡ false
      neither true y h = h
      neither false y h = refl

      both_false : (x y : Bool) → x ≡ false → y ≡ false → (x || y) ≡ false
      both_false true y h k = h
      both_false false y h k = k

      -- It is stopped: it sends nothing, and is not stopped again.
      stopped_pays : (r : Reason) → reason ≡ Some r → Paid
      stopped_pays r is =
          let none : asked None ≡ None =
          asked_event
          ∙ ap (λ o. asked_in (first_informs t (home_node a) None ++ (did_by o).deeds)) is
          ∙ ap (λ (ds : List Deed). asked_in (ds ++ [])) (first_none t (home_node a)) in
          let silent : sent_weight event.sent ≡ 0 = ap (λ o. sent_weight (did_by o).sent) is in
          let stops : is_stop_of a event ≡ true =
          ap (λ o. eqb (home_node a) (home_node a) && is_stop_note a (did_by o).note) is
          ∙ (λ i. eq-eqb (home_node a) (home_node a) refl i && name_eq_refl a i) in
          let now : unstopped (event ∷ t) a ≡ 0 =
          ap (λ b. if b || list_any (is_stop_of a) t then 0 else 1) stops in
          let no_gift = ap (gift_made sizes child) none ∙ no_child sizes child in
          let no_one = ap (one_given sizes script.bodies child) none ∙ none_given sizes script.bodies child in
          let pays = request_pays sizes script st a want n body numbered asks (halting_so c None) in
          let was = was_going in
          record {
            cost = 1;
            falls = omega (arith, pays, now, was, no_gift);
            enough = omega (arith, silent, no_one);
          }

      -- Else one request less is left.
      request_pays_all : reason ≡ None → Paid
      request_pays_all is =
          let on : list_any (is_stop_of a) (event ∷ t) ≡ false =
          both_false (is_stop_of a event) (list_any (is_stop_of a) t)
          (neither (eqb (home_node a) (home_node a)) (is_stop_note a event.note)
          (ap (λ o. is_stop_note a (did_by o).note) is ∙ plain_note want)) going in
          let makes : Makes script st a want n body =
          record { numbered = numbered; asks = asks; awake = awake; going = going } in
          let lowers = request_lowers sizes script st a want n body makes (halting_so c None) in
          let old = away_is t going in
          let new = away_is (event ∷ t) on in
          let few = fewer_unstopped t (event ∷ t) a
          (put_takes (pasts script (halting_so c None)) st request).stopped in
          let small = little None child in
          record {
            cost = 82;
            falls = omega (arith, lowers, old, new, few);
            enough = omega (arith, small);
          }

      pub paid : Paid
      paid = by reason refl
        where
          by : (o : Option Reason) → reason ≡ o → Paid
          by None is = request_pays_all is
          by (Some r) is = stopped_pays r is
