-- A round of a play makes no request and changes nothing, or lowers what is left of the requests.
use Rattle.std.proofs.Common.{◌≡◌, ◌⊎◌, inl, inr, ℕ, ◌+◌, ◌≤◌, Bool, true, false, not, ◌&&◌, List, [], ◌∷◌, Option, Some, refl, sym, ap, ◌∙◌, subst, arith}
use Rattle.std.specs.Prelude.{if◌then◌else◌}
use Rattle.std.specs.List.{list_any}
use Rattle.std.proofs.lemmas.Bool.{and_parts}
use Rattle.cam_names.specs.declared.name.Name.{Name}
use Rattle.cam_names.specs.Names.{home_node}
use Rattle.cam_names.proofs.Names.{name_eq_same}
use Rattle.cam_event.specs.declared.ViewStep.{ViewStep}
use Rattle.cam_event.specs.History.{created, ended}
use Rattle.cam_event.specs.Inputs.{Requests}
use Rattle.cam_event.specs.Pasts.{plain_all}
use Rattle.cam_event.specs.Sights.{is_present}
use Rattle.cam_event.specs.Views.{view}
use Rattle.cam_script.specs.declared.Script.{Script}
use Rattle.cam_script.specs.declared.Statement.{Statement}
use Rattle.cam_script.specs.SoFar.{Size}
use Rattle.cam_body.specs.declared.Next.{Next}
use Rattle.cam_body.specs.declared.Next.TheVariants as nexts
use Rattle.cam_body.specs.Work.{child_body, next}
use Rattle.cam_runs.specs.Halts.{accepted}
use Rattle.cam_runs.specs.HaltedPlaying.{given_body, go, go_in_round, make_request, may_go_on}
use Rattle.cam_runs.specs.Playing.{body_of, is_stop_of, may_go}
use Rattle.cam_runs.specs.Requests.{asked_in, home_sight}
use Rattle.cam_runs.specs.RequestsLeft.{left_away, sum_in}
use Rattle.cam_runs.specs.Running.{has_number}
use Rattle.cam_runs.specs.Standing.{made, Setting, Standing}
use Rattle.cam_runs.specs.HaltedPlaying.{requested}
use Rattle.cam_runs.proofs.HaltedPuts.{pasts}
use Rattle.cam_runs.proofs.RequestsKept.{away_lowers, put_counts, put_later, sum_falls, Later}
use Rattle.cam_runs.proofs.RequestsPut.{gift_made, request_lowers, Makes}
use Rattle.cam_runs.proofs.GivenBodies.{given_lowers, has_body, total, HasBody, HasCosts}

-- WHAT A STEP MAY DO: nothing, or it accepts an input and less is left.
pub record Moved (sizes : List Size) (bodies : List (List Statement)) (old new : Standing) : Type 0 where
  pub less : total sizes bodies new.halted new + 1 ≤ total sizes bodies old.halted old
  pub count : accepted old.turns + 1 ≤ accepted new.turns

abbrev pub Moves : List Size → List (List Statement) → Standing → Standing → Type 0
Moves sizes bodies old new = (new ≡ old) ⊎ Moved sizes bodies old new

moves_then : (sizes : List Size) (bodies : List (List Statement)) (one two three : Standing)
    → Moves sizes bodies one two → Moves sizes bodies two three → Moves sizes bodies one three
moves_then sizes bodies one two three (inl same) other =
    subst (λ (st : Standing). Moves sizes bodies st three) same other
moves_then sizes bodies one two three (inr moved) (inl same) =
    inr (subst (λ (st : Standing). Moved sizes bodies one st) (sym same) moved)
moves_then sizes bodies one two three (inr moved) (inr more) = inr (record {
  less = let x = moved.less in let y = more.less in omega (arith, x, y);
  count = let x = moved.count in let y = more.count in omega (arith, x, y);
})

-- what may go on is awake and goes on
awake_of : (c : Setting) (st : Standing) (a : Name) → may_go_on c st a ≡ true
    → has_number st.halted (home_node a) ≡ false
awake_of c st a h =
    by (has_number st.halted (home_node a))
    (and_parts (may_go (home_sight c.reading st.running a) st.running a)
    (not (has_number st.halted (home_node a))) h).1
  where
    by : (b : Bool) → not b ≡ true → b ≡ false
    by true k = cc
    by false k = refl

going_of : (c : Setting) (st : Standing) (a : Name) → may_go_on c st a ≡ true
    → list_any (is_stop_of a) st.running.trace ≡ false
going_of c st a h =
    let g = home_sight c.reading st.running a in
    let may = (and_parts (may_go g st.running a) (not (has_number st.halted (home_node a))) h).0 in
    by (list_any (is_stop_of a) st.running.trace)
    (and_parts (created g.deeds a && not (ended g.deeds a) && is_present g a)
    (not (list_any (is_stop_of a) st.running.trace)) may).1
  where
    by : (b : Bool) → not b ≡ true → b ≡ false
    by true k = cc
    by false k = refl

-- A request by an action's body.
pub go_moves : (sizes : List Size) (script : Script) (c : Setting) (st : Standing) (a : Name)
    → HasCosts sizes script.bodies → may_go_on (pasts script c) st a ≡ true
    → Moves sizes script.bodies st (go (pasts script c) script.bodies st a)
go_moves sizes script c st a costs may = by (next body seen) refl
  where
    seen : List ViewStep
    seen = view (plain_all st.running.trace) a

    body : List Statement
    body = body_of script.bodies st.running a

    by : (x : Next) → next body seen ≡ x
        → Moves sizes script.bodies st
        (make_request (pasts script c) st a (child_body body seen) x)
    by nexts.Wait asks = inl refl
    by nexts.Over asks = inl refl
    by (nexts.Request want) asks = inr (record { less = less; count = count })
      where
        has : HasBody script st.running a
        has = has_body script st.running a seen want asks

        makes : Makes script st a want has.number body
        makes = record {
          numbered = has.numbered ∙ ap Some (sym has.is);
          asks = asks;
          awake = awake_of (pasts script c) st a may;
          going = going_of (pasts script c) st a may;
        }

        after : Standing
        after = requested (pasts script c) st a want

        asked : Option Name
        asked = asked_in (made st after)

        later : Later st after
        later = put_later (pasts script c) st (Requests (record { action = a; want = want }))

        f : Name → ℕ → ℕ
        f = left_away sizes script.bodies st.halted st.running.trace

        g : Name → ℕ → ℕ
        g = left_away sizes script.bodies after.halted after.running.trace

        sums : sum_in g st.running.bodies + (1 + gift_made sizes (child_body body seen) asked)
            ≤ sum_in f st.running.bodies
        sums =
            sum_falls f g st.running.bodies a has.number
            (1 + gift_made sizes (child_body body seen) asked) has.found
            (away_lowers sizes script.bodies st.halted after.halted st after later later.halted)
            (λ b same. subst (λ (x : Name).
            g x has.number + (1 + gift_made sizes (child_body body seen) asked)
            ≤ f x has.number) (sym (name_eq_same b a same))
            (request_lowers sizes script st a want has.number body makes c))

        less : total sizes script.bodies (given_body (child_body body seen) asked after).halted
            (given_body (child_body body seen) asked after) + 1
            ≤ total sizes script.bodies st.halted st
        less =
            given_lowers sizes script.bodies costs after.halted (child_body body seen) asked after
            (total sizes script.bodies st.halted st)
            (subst (λ (ps : List (Name × ℕ)).
            sum_in g ps + (1 + gift_made sizes (child_body body seen) asked)
            ≤ sum_in f st.running.bodies) (sym later.bodies) sums)

        count : accepted st.turns + 1
            ≤ accepted (given_body (child_body body seen) asked after).turns
        count =
            let is = put_counts (pasts script c) st (Requests (record { action = a; want = want })) in
            omega (arith, is)

-- A round of requests.
pub names_move : (sizes : List Size) (script : Script) (c : Setting) (names : List Name)
    (st : Standing) → HasCosts sizes script.bodies
    → Moves sizes script.bodies st (go_in_round (pasts script c) script.bodies names st)
names_move sizes script c [] st costs = inl refl
names_move sizes script c (a ∷ more) st costs =
    moves_then sizes script.bodies st after (go_in_round (pasts script c) script.bodies more after)
    (one (may_go_on (pasts script c) st a) refl)
    (names_move sizes script c more after costs)
  where
    after : Standing
    after = if may_go_on (pasts script c) st a then go (pasts script c) script.bodies st a else st

    one : (b : Bool) → may_go_on (pasts script c) st a ≡ b
        → Moves sizes script.bodies st
        (if b then go (pasts script c) script.bodies st a else st)
    one true may = go_moves sizes script c st a costs may
    one false may = inl refl
