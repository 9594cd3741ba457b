-- What stands later has the events that stood before, whichever inputs are halts.
use Rattle.std.proofs.Common.{◌≡◌, ℕ, zero, suc, Bool, true, false, if◌then◌else◌, List, [], ◌∷◌}
use Rattle.std.proofs.Common.{◌++◌}
use Rattle.std.proofs.Common.{Option, Some, None, refl, sym, ap, ◌∙◌}
use Rattle.std.specs.Prelude.{nat_lt}
use Rattle.std.proofs.lemmas.List.{append_assoc}
use Rattle.cam_names.specs.declared.name.Name.{Name}
use Rattle.cam_event.specs.declared.LetterId.{LetterId}
use Rattle.cam_event.specs.declared.Event.{Event}
use Rattle.cam_event.specs.Inputs as inputs
use Rattle.cam_event.specs.Inputs.{Receives, Requests, node_of}
use Rattle.cam_event.specs.Pasts.{plain_all}
use Rattle.cam_event.specs.Taken.{taken_of}
use Rattle.cam_event.specs.Views.{view}
use Rattle.cam_script.specs.declared.Statement.{Statement}
use Rattle.cam_body.specs.declared.Next.{Next}
use Rattle.cam_body.specs.declared.Next.TheVariants as nexts
use Rattle.cam_body.specs.Work.{next, child_body}
use Rattle.cam_runs.specs.Running.{waiting_weight}
use Rattle.cam_runs.specs.Requests.{asked_in}
use Rattle.cam_runs.specs.Playing.{body_of, in_order}
use Rattle.cam_runs.specs.Halts.{accepted, appends}
use Rattle.cam_runs.specs.Standing.{Standing, Setting, after_input, put, made, deliver, waiting}
use Rattle.cam_runs.specs.Standing.{deliver_waiting, deliveries, drain}
use Rattle.cam_runs.specs.HaltedPlaying.{given_body, requested, make_request, go, may_go_on}
use Rattle.cam_runs.specs.HaltedPlaying.{go_in_round, round, rounds}

-- the later events, and those before them
pub record Trail (old new : Standing) : Type 0 where
  pub more : List Event
  pub is : new.running.trace ≡ more ++ old.running.trace

pub trail_stays : (st : Standing) → Trail st st
trail_stays st = record { more = []; is = refl }

pub trail_on : (a b d : Standing) → Trail a b → Trail b d → Trail a d
trail_on a b d one two = record {
  more = two.more ++ one.more;
  is = two.is ∙ ap (λ t. two.more ++ t) one.is
      ∙ sym (append_assoc two.more one.more a.running.trace);
}

after_trail : (line : ℕ) (again : Bool) (st : Standing) (s : ℕ) (e : Event) (w : Bool)
    (o : Option Bool) → Trail st (after_input line again st s e w o)
after_trail line again st s e w None = record { more = e ∷ []; is = refl }
after_trail line again st s e w (Some true) = record { more = taken_of e ∷ []; is = refl }
after_trail line again st s e w (Some false) = record { more = []; is = refl }

module _ (c : Setting) where
  pub put_trail : (st : Standing) (input : inputs.Input) → Trail st (put c st input)
  put_trail st input =
      after_trail c.line (c.restarted s) st s (c.reading.next t input) w
      (c.halts st.turns s w (c.restarted s))
    where
      t : List Event
      t = st.running.trace

      s : ℕ
      s = node_of t input

      w : Bool
      w = appends c.reading t input

  pub deliver_trail : (st : Standing) (k : ℕ) (letter : LetterId)
      → Trail st (deliver c st k letter)
  deliver_trail st k letter =
      let first = put_trail st (Receives letter) in record { more = first.more; is = first.is }

  waiting_trail : (st : Standing) (w : Option (ℕ × LetterId)) → Trail st (deliver_waiting c st w)
  waiting_trail st None = trail_stays st
  waiting_trail st (Some w) = deliver_trail st w.0 w.1

  pub deliveries_trail : (n : ℕ) (st : Standing) → Trail st (deliveries c n st)
  deliveries_trail zero st = trail_stays st
  deliveries_trail (suc n) st =
      trail_on st (deliver_waiting c st (waiting st)) (deliveries c (suc n) st)
      (waiting_trail st (waiting st)) (deliveries_trail n (deliver_waiting c st (waiting st)))

  pub drain_trail : (st : Standing) → Trail st (drain c st)
  drain_trail st = deliveries_trail (waiting_weight st.running) st

  given_trace : (body : Option ℕ) (a : Option Name) (st : Standing)
      → (given_body body a st).running.trace ≡ st.running.trace
  given_trace (Some body) (Some a) st = refl
  given_trace (Some body) None st = refl
  given_trace None a st = refl

  pub given_trail : (body : Option ℕ) (a : Option Name) (st : Standing)
      → Trail st (given_body body a st)
  given_trail body a st = record { more = []; is = given_trace body a st }

  make_trail : (st : Standing) (a : Name) (child : Option ℕ) (n : Next)
      → Trail st (make_request c st a child n)
  make_trail st a child (nexts.Request want) =
      trail_on st (requested c st a want) (make_request c st a child (nexts.Request want))
      (put_trail st (Requests (record { action = a; want = want })))
      (given_trail child (asked_in (made st (requested c st a want))) (requested c st a want))
  make_trail st a child nexts.Wait = trail_stays st
  make_trail st a child nexts.Over = trail_stays st

  pub go_trail : (bodies : List (List Statement)) (st : Standing) (a : Name)
      → Trail st (go c bodies st a)
  go_trail bodies st a =
      make_trail st a
      (child_body (body_of bodies st.running a) (view (plain_all st.running.trace) a))
      (next (body_of bodies st.running a) (view (plain_all st.running.trace) a))

  pub if_trail : (b : Bool) (st one : Standing) → Trail st one → Trail st (if b then one else st)
  if_trail true st one h = h
  if_trail false st one h = trail_stays st

  pub names_trail : (bodies : List (List Statement)) (names : List Name) (st : Standing)
      → Trail st (go_in_round c bodies names st)
  names_trail bodies [] st = trail_stays st
  names_trail bodies (a ∷ more) st =
      let one : Standing = if may_go_on c st a then go c bodies st a else st in
      trail_on st one (go_in_round c bodies (a ∷ more) st)
      (if_trail (may_go_on c st a) st (go c bodies st a) (go_trail bodies st a))
      (names_trail bodies more one)

  pub round_trail : (bodies : List (List Statement)) (st : Standing)
      → Trail st (round c bodies st)
  round_trail bodies st =
      let one : Standing = go_in_round c bodies (in_order st.running.bodies) st in
      trail_on st one (round c bodies st)
      (names_trail bodies (in_order st.running.bodies) st) (drain_trail one)

  pub rounds_trail : (bodies : List (List Statement)) (n : ℕ) (st : Standing)
      → Trail st (rounds c bodies n st)
  rounds_trail bodies zero st = trail_stays st
  rounds_trail bodies (suc n) st =
      let one : Standing = round c bodies st in
      trail_on st one (rounds c bodies (suc n) st) (round_trail bodies st)
      (if_trail (nat_lt (accepted st.turns) (accepted one.turns)) one (rounds c bodies n one)
      (rounds_trail bodies n one))
