-- What an action with a body does in a run in which nodes halt: its next request, and the rounds of a
-- play, which pass over the actions at a halted node.
use Rattle.std.specs.Prelude.{ℕ, zero, suc, nat_lt, Bool, not, ◌&&◌, if◌then◌else◌, List, [], ◌∷◌, Option}
use Rattle.cam_names.specs.declared.name.Name.{Name}
use Rattle.cam_names.specs.Names.{home_node}
use Rattle.cam_event.specs.declared.Want.{Want}
use Rattle.cam_event.specs.Inputs.{Requests}
use Rattle.cam_event.specs.Pasts.{plain_all}
use Rattle.cam_event.specs.Views.{view}
use Rattle.cam_script.specs.declared.Statement.{Statement}
use Rattle.cam_body.specs.declared.Next.{Next}
use Rattle.cam_body.specs.declared.Next.TheVariants as nexts
use Rattle.cam_body.specs.Work.{next, child_body}
use Rattle.cam_runs.specs.Running.{has_number}
use Rattle.cam_runs.specs.Requests.{home_sight, asked_in}
use Rattle.cam_runs.specs.Playing.{with_body, body_of, may_go, in_order}
use Rattle.cam_runs.specs.Halts.{accepted}
use Rattle.cam_runs.specs.Standing.{Standing, Setting, put, made, drain}

-- A top action is created, and may have a body.
abbrev pub given_body : Option ℕ → Option Name → Standing → Standing
given_body body a st = record st { running = with_body body a st.running }

-- a request that a line makes of an action
abbrev pub requested : Setting → Standing → Name → Want → Standing
requested c st a want = put c st (Requests (record { action = a; want = want }))

-- the next request of an action by its body; a child asked for gets the statement's body
abbrev pub make_request : Setting → Standing → Name → Option ℕ → Next → Standing
make_request c st a child (nexts.Request want) =
    let after = requested c st a want in given_body child (asked_in (made st after)) after
make_request c st a child nexts.Wait = st
make_request c st a child nexts.Over = st

abbrev pub go : Setting → List (List Statement) → Standing → Name → Standing
go c bodies st a =
    let seen = view (plain_all st.running.trace) a in
    let body = body_of bodies st.running a in
    make_request c st a (child_body body seen) (next body seen)

abbrev pub may_go_on : Setting → Standing → Name → Bool
may_go_on c st a =
    may_go (home_sight c.reading st.running a) st.running a
    && not (has_number st.halted (home_node a))

abbrev pub go_in_round : Setting → List (List Statement) → List Name → Standing → Standing
go_in_round c bodies [] st = st
go_in_round c bodies (a ∷ more) st =
    go_in_round c bodies more (if may_go_on c st a then go c bodies st a else st)

abbrev pub round : Setting → List (List Statement) → Standing → Standing
round c bodies st = drain c (go_in_round c bodies (in_order st.running.bodies) st)

-- Rounds until the first without an input.
abbrev pub rounds : Setting → List (List Statement) → ℕ → Standing → Standing
rounds c bodies zero st = st
rounds c bodies (suc n) st =
    let after = round c bodies st in
    if nat_lt (accepted st.turns) (accepted after.turns) then rounds c bodies n after else after

abbrev pub play : Setting → List (List Statement) → Standing → Standing
play c bodies st = rounds c bodies 514 st
