-- Inputs, drains and plays leave no more requests of bodies than were left.
use Rattle.std.proofs.Common.{◌≡◌, ℕ, zero, suc, ◌+◌, ◌≤◌, Bool, true, false, List, [], ◌∷◌, Option, Some, None, refl, sym, ap, ◌∙◌, subst, arith}
use Rattle.std.specs.Prelude.{if◌then◌else◌, nat_lt, slice_get}
use Rattle.std.specs.Option.{option_map_or}
use Rattle.cam_names.specs.declared.name.Name.{Name}
use Rattle.cam_names.proofs.Names.{name_eq_same}
use Rattle.cam_event.specs.declared.Event.{Event}
use Rattle.cam_event.specs.declared.LetterId.{LetterId}
use Rattle.cam_event.specs.declared.ViewStep.{ViewStep}
use Rattle.cam_event.specs.Inputs.{Input, Receives, Requests}
use Rattle.cam_event.specs.Pasts.{plain_all}
use Rattle.cam_event.specs.Views.{view}
use Rattle.cam_script.specs.declared.Script.{Script}
use Rattle.cam_script.specs.declared.Statement.{Statement}
use Rattle.cam_script.specs.SoFar.{Size, cost_at}
use Rattle.cam_body.specs.declared.Next.{Next}
use Rattle.cam_body.specs.declared.Next.TheVariants as nexts
use Rattle.cam_body.specs.Work.{child_body, next}
use Rattle.cam_runs.specs.HaltedPlaying.{given_body, go, go_in_round, make_request, may_go_on, requested, round, rounds}
use Rattle.cam_runs.specs.Halts.{accepted}
use Rattle.cam_runs.specs.Playing.{body_of, in_order}
use Rattle.cam_runs.specs.Requests.{asked_in}
use Rattle.cam_runs.specs.RequestsLeft.{left_by, sum_in}
use Rattle.cam_runs.specs.Running.{waiting_weight}
use Rattle.cam_runs.specs.Standing.{deliver, deliver_waiting, deliveries, drain, made, put, waiting, Setting, Standing}
use Rattle.cam_runs.proofs.HaltedPuts.{pasts}
use Rattle.cam_runs.proofs.LinesSpend.{all_left, cost_left, kept_left, put_keeps, request_pays, Keeps}
use Rattle.cam_runs.proofs.RequestsFall.{first_left, view_lowers}
use Rattle.cam_runs.proofs.RequestsKept.{below_all, no_more, sum_behind, sum_falls}
use Rattle.cam_runs.proofs.RequestsPut.{gift_made}
use Rattle.cam_runs.proofs.GivenBodies.{has_body, HasBody, HasCosts}

module _ (sizes : List Size) (script : Script) (costs : HasCosts sizes script.bodies) where
  abbrev pub left : Standing → ℕ
  left st = all_left sizes script.bodies st

  -- an action that has just its body
  fresh : (t : List Event) (b : Name) (m : ℕ)
      → cost_left sizes script.bodies t b m ≤ cost_at sizes m
  fresh t b m = by (slice_get script.bodies m) refl
    where
      by : (o : Option (List Statement)) → slice_get script.bodies m ≡ o
          → option_map_or (λ body. left_by sizes body (view (plain_all t) b)) o 0
          ≤ cost_at sizes m
      by None at = below_all (cost_at sizes m)
      by (Some body) at =
          let less = view_lowers sizes body [] (view (plain_all t) b) in
          let first = first_left sizes body in
          let cost = costs m body at in
          omega (arith, less, first, cost)

  pub given_least : (m : ℕ) (b : Name) (st : Standing)
      → left (given_body (Some m) (Some b) st) ≤ left st + cost_at sizes m
  given_least m b st =
      by _ _ _ (sum_behind (cost_left sizes script.bodies st.running.trace) st.running.bodies
      ((b, m) ∷ [])) (fresh st.running.trace b m)
    where
      by : (all some one : ℕ) → all ≡ some + (one + 0) → one ≤ cost_at sizes m
          → all ≤ some + cost_at sizes m
      by all some one p q = omega (arith, p, q)

  given_paid : (child : Option ℕ) (asked : Option Name) (st : Standing) (old : ℕ)
      → left st + gift_made sizes child asked ≤ old → left (given_body child asked st) ≤ old
  given_paid None asked st old h = omega (arith, h)
  given_paid (Some m) None st old h = omega (arith, h)
  given_paid (Some m) (Some b) st old h =
      let most = given_least m b st in omega (arith, h, most)

  -- A request by a body, and rounds of them, leave no more.
  pub go_spends : (c : Setting) (st : Standing) (a : Name)
      → left (go (pasts script c) script.bodies st a) ≤ left st
  go_spends c st a = by (next body seen) refl
    where
      seen : List ViewStep
      seen = view (plain_all st.running.trace) a

      body : List Statement
      body = body_of script.bodies st.running a

      by : (x : Next) → next body seen ≡ x
          → left (make_request (pasts script c) st a (child_body body seen) x) ≤ left st
      by nexts.Wait asks = no_more (left st)
      by nexts.Over asks = no_more (left st)
      by (nexts.Request want) asks =
          given_paid (child_body body seen) asked after (left st)
          (subst (λ (ps : List (Name × ℕ)).
          sum_in (cost_left sizes script.bodies after.running.trace) ps
          + gift_made sizes (child_body body seen) asked ≤ left st) (sym keeps.bodies)
          (sum_falls (cost_left sizes script.bodies st.running.trace)
          (cost_left sizes script.bodies after.running.trace) st.running.bodies a has.number
          (gift_made sizes (child_body body seen) asked) has.found (keeps.left sizes script.bodies)
          (λ b same. subst (λ (x : Name).
          cost_left sizes script.bodies after.running.trace x has.number
          + gift_made sizes (child_body body seen) asked
          ≤ cost_left sizes script.bodies st.running.trace x has.number)
          (sym (name_eq_same b a same))
          (request_pays sizes script st a want has.number body (has.numbered ∙ ap Some (sym has.is))
          asks c))))
        where
          has : HasBody script st.running a
          has = has_body script st.running a seen want asks

          after : Standing
          after = requested (pasts script c) st a want

          asked : Option Name
          asked = asked_in (made st after)

          keeps : Keeps st after
          keeps = put_keeps (pasts script c) st (Requests (record { action = a; want = want }))

  names_spend : (c : Setting) (names : List Name) (st : Standing)
      → left (go_in_round (pasts script c) script.bodies names st) ≤ left st
  names_spend c [] st = no_more (left st)
  names_spend c (a ∷ more) st =
      let one = first (may_go_on (pasts script c) st a) in
      let rest = names_spend c more (if may_go_on (pasts script c) st a
      then go (pasts script c) script.bodies st a else st) in
      omega (arith, one, rest)
    where
      first : (b : Bool)
          → left (if b then go (pasts script c) script.bodies st a else st) ≤ left st
      first true = go_spends c st a
      first false = no_more (left st)

  pub put_spends : (c : Setting) (st : Standing) (input : Input)
      → left (put c st input) ≤ left st
  put_spends c st input = kept_left sizes script.bodies st (put c st input) (put_keeps c st input)

  pub deliver_spends : (c : Setting) (st : Standing) (k : ℕ) (letter : LetterId)
      → left (deliver c st k letter) ≤ left st
  deliver_spends c st k letter = put_spends c st (Receives letter)

  deliveries_spend : (c : Setting) (n : ℕ) (st : Standing) → left (deliveries c n st) ≤ left st
  deliveries_spend c zero st = no_more (left st)
  deliveries_spend c (suc n) st =
      let one = first (waiting st) in
      let rest = deliveries_spend c n (deliver_waiting c st (waiting st)) in
      omega (arith, one, rest)
    where
      first : (o : Option (ℕ × LetterId)) → left (deliver_waiting c st o) ≤ left st
      first None = no_more (left st)
      first (Some w) = deliver_spends c st w.0 w.1

  pub drain_spends : (c : Setting) (st : Standing) → left (drain c st) ≤ left st
  drain_spends c st = deliveries_spend c (waiting_weight st.running) st

  pub rounds_spend : (c : Setting) (n : ℕ) (st : Standing)
      → left (rounds (pasts script c) script.bodies n st) ≤ left st
  rounds_spend c zero st = no_more (left st)
  rounds_spend c (suc n) st =
      by (nat_lt (accepted st.turns) (accepted after.turns)) (rounds_spend c n after)
    where
      after : Standing
      after = round (pasts script c) script.bodies st

      one : left after ≤ left st
      one =
          let x = names_spend c (in_order st.running.bodies) st in
          let y = drain_spends (pasts script c) (go_in_round (pasts script c) script.bodies
          (in_order st.running.bodies) st) in
          omega (arith, x, y)

      by : (b : Bool) → left (rounds (pasts script c) script.bodies n after) ≤ left after
          → left (if b then rounds (pasts script c) script.bodies n after else after) ≤ left st
      by true rest = omega (arith, one, rest)
      by false rest = one
