-- Inputs extend what stands: letters that are handed over, and requests by bodies.
use Rattle.std.proofs.Common.{◌≡◌, ℕ, zero, suc, Bool, true, false, not, if◌then◌else◌, List, []}
use Rattle.std.proofs.Common.{◌∷◌, Option, Some, None, refl, ap}
use Rattle.std.specs.Prelude.{nat_lt}
use Rattle.std.proofs.lemmas.Bool.{and_parts}
use Rattle.cam_names.specs.declared.name.Name.{Name}
use Rattle.cam_names.specs.Names.{home_node}
use Rattle.cam_event.specs.declared.LetterId.{LetterId}
use Rattle.cam_event.specs.Inputs.{Input as Coming, Receives, Requests, node_of}
use Rattle.cam_event.specs.Pasts.{plain_all}
use Rattle.cam_event.specs.Views.{view}
use Rattle.cam_body.specs.declared.Next.{Next}
use Rattle.cam_body.specs.declared.Next.TheVariants as nexts
use Rattle.cam_body.specs.Work.{child_body, next}
use Rattle.cam_runs.specs.Halts.{Halt, Halting, accepted, appends, given}
use Rattle.cam_runs.specs.HaltedPlaying.{given_body, go, go_in_round, make_request, may_go_on}
use Rattle.cam_runs.specs.HaltedPlaying.{requested, round, rounds}
use Rattle.cam_runs.specs.Playing.{body_of, in_order, may_go}
use Rattle.cam_runs.specs.Requests.{asked_in, home_sight}
use Rattle.cam_runs.specs.Running.{has_number, letters, waiting_weight}
use Rattle.cam_runs.specs.Standing.{Setting, Standing, addressee, deliver, deliver_waiting}
use Rattle.cam_runs.specs.Standing.{deliveries, drain, made, put, waiting}
use Rattle.cam_histories.proofs.NextLetter.{waits_there}
use Rattle.cam_script.specs.declared.Statement.{Statement}
use Rattle.cam_cluster.proofs.Extends.{Extends, extends_on, same_extends}
use Rattle.cam_cluster.proofs.InputAgrees.{put_agrees}
use Rattle.cam_cluster.proofs.OneExtends.{after_extends}

not_so : (b : Bool) → not b ≡ true → b ≡ false
not_so true h = cc
not_so false h = refl

-- by lines that know these halts
module _ (c : Setting) (halts : List Halt) (known : c.halts ≡ given halts) where
  pub put_extends : (st : Standing) (input : Coming)
      → has_number st.halted (node_of st.running.trace input) ≡ false
      → Extends halts st (put c st input)
  put_extends st input awake =
      let t = st.running.trace in
      let s : ℕ = node_of t input in
      let w : Bool = appends c.reading t input in
      after_extends _ c.line (c.restarted s) _ s (c.reading.next t input) w awake _ (ap (λ (h :
      Halting). h st.turns s w (c.restarted s)) known) (put_agrees c _ known st input awake)

  -- letters that are handed over,
  pub deliver_extends : (st : Standing) (k : ℕ) (letter : LetterId)
      → has_number st.halted (addressee st letter) ≡ false
      → Extends halts st (deliver c st k letter)
  deliver_extends st k letter awake =
      extends_on _ _ _ _ (put_extends st (Receives letter) awake) (same_extends _ _ _ refl
      refl refl)

  waiting_extends : (st : Standing) → Extends halts st (deliver_waiting c st (waiting st))
  waiting_extends st = by (waiting st) refl
    where
      by : (o : Option (ℕ × LetterId)) → waiting st ≡ o → Extends halts st (deliver_waiting c st o)
      by None is = same_extends _ _ _ refl refl refl
      by (Some w) is = deliver_extends st w.0 w.1 (waits_there st _ _ _ _ is).4

  deliveries_extend : (n : ℕ) (st : Standing) → Extends halts st (deliveries c n st)
  deliveries_extend zero st = same_extends _ _ _ refl refl refl
  deliveries_extend (suc n) st =
      let one = deliver_waiting c st (waiting st) in
      extends_on _ _ _ _ (waiting_extends st) (deliveries_extend n one)

  pub drain_extends : (st : Standing) → Extends halts st (drain c st)
  drain_extends st = deliveries_extend (waiting_weight st.running) st

  -- and requests by bodies.
  pub given_extends : (st : Standing) (body : Option ℕ) (b : Option Name)
      → Extends halts st (given_body body b st)
  given_extends st (Some n) (Some b) =
      same_extends halts st (given_body (Some n) (Some b) st) refl refl refl
  given_extends st (Some n) None =
      same_extends halts st (given_body (Some n) None st) refl refl refl
  given_extends st None b = same_extends _ _ _ refl refl refl

  request_extends : (st : Standing) (a : Name) (child : Option ℕ) (n : Next)
      → has_number st.halted (home_node a) ≡ false → Extends halts st (make_request c st a child n)
  request_extends st a child (nexts.Request want) awake =
      let after = requested c st a want in
      extends_on halts st after (given_body child (asked_in (made st after)) after) (put_extends st
      (Requests (record { action = a; want = want })) awake) (given_extends after child (asked_in
      (made st after)))
  request_extends st a child nexts.Wait awake = same_extends _ _ _ refl refl refl
  request_extends st a child nexts.Over awake = same_extends _ _ _ refl refl refl

  pub go_extends : (bodies : List (List Statement)) (st : Standing) (a : Name)
      → has_number st.halted (home_node a) ≡ false → Extends halts st (go c bodies st a)
  go_extends bodies st a awake =
      let seen = view (plain_all st.running.trace) a in
      let body = body_of bodies st.running a in
      request_extends st a (child_body body seen) (next body seen) awake

  if_extends : (b : Bool) (st one : Standing) → (b ≡ true → Extends halts st one)
      → Extends halts st (if b then one else st)
  if_extends true st one so = so refl
  if_extends false st one so = same_extends _ _ _ refl refl refl

  in_round_extends : (bodies : List (List Statement)) (names : List Name) (st : Standing)
      → Extends halts st (go_in_round c bodies names st)
  in_round_extends bodies [] st = same_extends _ _ _ refl refl refl
  in_round_extends bodies (a ∷ names) st =
      let one : Standing = if may_go_on c st a then go c bodies st a else st in
      extends_on _ _ _ _ (if_extends (may_go_on c st a) st (go c bodies st a) (λ may. go_extends
      bodies st a (not_so _ (and_parts (may_go (home_sight c.reading st.running a) st.running a)
      (not (has_number st.halted (home_node a))) may).1))) (in_round_extends bodies names one)

  round_extends : (bodies : List (List Statement)) (st : Standing)
      → Extends halts st (round c bodies st)
  round_extends bodies st =
      let requests = go_in_round c bodies (in_order st.running.bodies) st in
      extends_on _ _ _ _ (in_round_extends bodies (in_order st.running.bodies) st)
      (drain_extends requests)

  pub rounds_extend : (bodies : List (List Statement)) (n : ℕ) (st : Standing)
      → Extends halts st (rounds c bodies n st)
  rounds_extend bodies zero st = same_extends _ _ _ refl refl refl
  rounds_extend bodies (suc n) st =
      let one : Standing = round c bodies st in
      extends_on _ _ _ _ (round_extends bodies st) (if_extends (nat_lt (accepted st.turns)
      (accepted one.turns)) one (rounds c bodies n one) (λ more. rounds_extend bodies n one))
