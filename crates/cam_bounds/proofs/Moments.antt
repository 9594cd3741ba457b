-- Within a line the inputs only grow in number.
use Rattle.std.proofs.Common.{ℕ, zero, suc, ◌≤◌, Bool, true, false, List, [], ◌∷◌, arith}
use Rattle.std.specs.Prelude.{if◌then◌else◌, nat_lt}
use Rattle.cam_names.specs.declared.name.Name.{Name}
use Rattle.cam_event.specs.declared.ViewStep.{ViewStep}
use Rattle.cam_event.specs.Inputs.{Requests}
use Rattle.cam_event.specs.Pasts.{plain_all}
use Rattle.cam_event.specs.Views.{view}
use Rattle.cam_script.specs.declared.Statement.{Statement}
use Rattle.cam_body.specs.declared.Next.{Next}
use Rattle.cam_body.specs.declared.Next.TheVariants as nexts
use Rattle.cam_body.specs.Work.{child_body, next}
use Rattle.cam_runs.specs.HaltedPlaying.{go, go_in_round, make_request, may_go_on, round, rounds}
use Rattle.cam_runs.specs.Halts.{accepted}
use Rattle.cam_runs.specs.Playing.{body_of, in_order}
use Rattle.cam_runs.specs.Running.{waiting_weight}
use Rattle.cam_runs.specs.Standing.{drain, Setting, Standing}
use Rattle.cam_runs.proofs.DrainsCount.{deliveries_later}
use Rattle.cam_runs.proofs.RequestsKept.{no_more, put_counts}
use Rattle.cam_bounds.specs.Bounds.{InputsOnlyGrow}

-- no fewer inputs
abbrev NoFewer : Standing → Standing → Type 0
NoFewer old new = accepted old.turns ≤ accepted new.turns

then_no_fewer : (one two three : Standing) → NoFewer one two → NoFewer two three → NoFewer one three
then_no_fewer one two three x y = omega (arith, x, y)

go_adds : (c : Setting) (bodies : List (List Statement)) (st : Standing) (a : Name)
    → NoFewer st (go c bodies st a)
go_adds c bodies st a = by (next body seen)
  where
    seen : List ViewStep
    seen = view (plain_all st.running.trace) a

    body : List Statement
    body = body_of bodies st.running a

    by : (x : Next) → NoFewer st (make_request c st a (child_body body seen) x)
    by nexts.Wait = no_more (accepted st.turns)
    by nexts.Over = no_more (accepted st.turns)
    by (nexts.Request want) =
        let one = put_counts c st (Requests (record { action = a; want = want })) in omega (arith, one)

names_add : (c : Setting) (bodies : List (List Statement)) (names : List Name) (st : Standing)
    → NoFewer st (go_in_round c bodies names st)
names_add c bodies [] st = no_more (accepted st.turns)
names_add c bodies (a ∷ more) st =
    then_no_fewer st (if may_go_on c st a then go c bodies st a else st)
    (go_in_round c bodies (a ∷ more) st) (one (may_go_on c st a))
    (names_add c bodies more (if may_go_on c st a then go c bodies st a else st))
  where
    one : (b : Bool) → NoFewer st (if b then go c bodies st a else st)
    one true = go_adds c bodies st a
    one false = no_more (accepted st.turns)

round_adds : (c : Setting) (bodies : List (List Statement)) (st : Standing)
    → NoFewer st (round c bodies st)
round_adds c bodies st =
    let requests = go_in_round c bodies (in_order st.running.bodies) st in
    then_no_fewer st requests (drain c requests) (names_add c bodies (in_order st.running.bodies) st)
    (deliveries_later c (waiting_weight requests.running) requests).count

rounds_add : (c : Setting) (bodies : List (List Statement)) (n : ℕ) (st : Standing)
    → NoFewer st (rounds c bodies n st)
rounds_add c bodies zero st = no_more (accepted st.turns)
rounds_add c bodies (suc n) st =
    by (nat_lt (accepted st.turns) (accepted after.turns)) (rounds_add c bodies n after)
  where
    after : Standing
    after = round c bodies st

    by : (b : Bool) → NoFewer after (rounds c bodies n after)
        → NoFewer st (if b then rounds c bodies n after else after)
    by true rest = then_no_fewer st after (rounds c bodies n after) (round_adds c bodies st) rest
    by false rest = round_adds c bodies st

pub inputs_only_grow : InputsOnlyGrow
inputs_only_grow c bodies names n st = (
  (deliveries_later c n st).count,
  names_add c bodies names st,
  rounds_add c bodies n st,
)
