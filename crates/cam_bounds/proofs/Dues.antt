-- What the bodies of a run may still cost: 82 for each request that is left of them, and 1 for an
-- action that was not stopped.
use Rattle.std.proofs.Common.{◌≡◌, ℕ, ◌+◌, ◌*◌, ◌≤◌, Bool, true, false, List, [], ◌∷◌, Option, Some, None, refl, arith}
use Rattle.std.specs.Prelude.{if◌then◌else◌, slice_get}
use Rattle.std.specs.List.{list_any}
use Rattle.std.specs.Option.{option_map_or}
use Rattle.cam_names.specs.declared.name.Name.{Name}
use Rattle.cam_event.specs.declared.Event.{Event}
use Rattle.cam_event.specs.declared.ViewStep.{ViewStep}
use Rattle.cam_event.specs.Pasts.{plain_all}
use Rattle.cam_event.specs.Views.{view}
use Rattle.cam_script.specs.declared.Statement.{Statement}
use Rattle.cam_script.specs.SoFar.{Size, cost_at}
use Rattle.cam_runs.specs.HaltedPlaying.{given_body}
use Rattle.cam_runs.specs.Playing.{is_stop_of}
use Rattle.cam_runs.specs.RequestsLeft.{left_by, sum_in}
use Rattle.cam_runs.specs.Standing.{Standing}
use Rattle.cam_runs.proofs.GivenBodies.{HasCosts}
use Rattle.cam_runs.proofs.LinesSpend.{cost_left}
use Rattle.cam_runs.proofs.RequestsFall.{first_left, view_lowers}
use Rattle.cam_runs.proofs.RequestsKept.{below_all, flag_lowers, no_more, sum_behind}
use Rattle.cam_runs.proofs.RequestsPut.{gift_made}

-- the actions that were stopped stay so
abbrev pub StaysStopped : List Event → List Event → Type 0
StaysStopped t now =
    (a : Name) → list_any (is_stop_of a) t ≡ true → list_any (is_stop_of a) now ≡ true

abbrev pub unstopped : List Event → Name → ℕ
unstopped t a = if list_any (is_stop_of a) t then 0 else 1

pub fewer_unstopped : (t now : List Event) (a : Name) → StaysStopped t now
    → unstopped now a ≤ unstopped t a
fewer_unstopped t now a stays =
    flag_lowers (list_any (is_stop_of a) t) (list_any (is_stop_of a) now) 1 1 (stays a) (no_more 1)

module _ (sizes : List Size) (bodies : List (List Statement)) where
  abbrev pub due : List Event → Name → ℕ → ℕ
  due t a n = 82 * cost_left sizes bodies t a n + unstopped t a

  abbrev pub all_due : Standing → ℕ
  all_due st = sum_in (due st.running.trace) st.running.bodies

  -- it does not grow
  pub due_lowers : (t now : List Event)
      → ((a : Name) (n : ℕ) → cost_left sizes bodies now a n ≤ cost_left sizes bodies t a n)
      → StaysStopped t now → (a : Name) (n : ℕ) → due now a n ≤ due t a n
  due_lowers t now costs stays a n =
      let cost = costs a n in
      let few = fewer_unstopped t now a stays in
      omega (arith, cost, few)

  -- One child at most gets a body.
  abbrev pub one_given : Option ℕ → Option Name → ℕ
  one_given (Some m) (Some b) = 1
  one_given _ _ = 0

  pub given_due : HasCosts sizes bodies → (child : Option ℕ) (asked : Option Name) (st : Standing)
      → all_due (given_body child asked st)
      ≤ all_due st + 82 * gift_made sizes child asked + one_given child asked
  given_due costs None asked st = omega arith
  given_due costs (Some m) None st = omega arith
  given_due costs (Some m) (Some b) st =
      let all = sum_behind (due st.running.trace) st.running.bodies ((b, m) ∷ []) in
      let one = fresh (slice_get bodies m) refl in
      let few = most_one (list_any (is_stop_of b) st.running.trace) in
      by _ _ _ _ _ all one few
    where
      seen : List ViewStep
      seen = view (plain_all st.running.trace) b

      fresh : (o : Option (List Statement)) → slice_get bodies m ≡ o
          → option_map_or (λ body. left_by sizes body seen) o 0 ≤ cost_at sizes m
      fresh None at = below_all (cost_at sizes m)
      fresh (Some body) at =
          let less = view_lowers sizes body [] seen in
          let first = first_left sizes body in
          let cost = costs m body at in
          omega (arith, less, first, cost)

      most_one : (b : Bool) → (if b then 0 else 1) ≤ 1
      most_one true = omega arith
      most_one false = omega arith

      by : (all some one cost few : ℕ) → all ≡ some + ((82 * one + few) + 0) → one ≤ cost → few ≤ 1
          → all ≤ some + 82 * cost + 1
      by all some one cost few p q r = omega (arith, p, q, r)
