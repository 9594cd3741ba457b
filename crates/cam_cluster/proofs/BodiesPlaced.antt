-- What is given a body by an input, a round or a play is at a node of the script.
use Rattle.std.proofs.Common.{◌≡◌, ℕ, zero, suc, Bool, true, false}
use Rattle.std.proofs.Common.{if◌then◌else◌, List, [], ◌∷◌, ◌++◌, Option, Some, None, refl, sym}
use Rattle.std.proofs.Common.{ap, ◌∙◌, subst}
use Rattle.std.specs.Prelude.{nat_lt, option_and_then, slice_get, unwrap_or}
use Rattle.std.specs.List.{list_all}
use Rattle.cam_names.specs.declared.name.Name.{Name}
use Rattle.cam_event.specs.declared.LetterId.{LetterId}
use Rattle.cam_event.specs.declared.ViewStep.{ViewStep}
use Rattle.cam_event.specs.declared.Want.{Want}
use Rattle.cam_event.specs.Inputs.{Input, Receives, Requests, node_of}
use Rattle.cam_event.specs.Pasts.{plain_all}
use Rattle.cam_event.specs.Views.{view}
use Rattle.cam_body.specs.declared.Next.{Next}
use Rattle.cam_body.specs.declared.Next.TheVariants as nexts
use Rattle.cam_body.specs.Work.{body_at, child_body, next, place_of}
use Rattle.cam_runs.specs.Halts.{accepted, appends}
use Rattle.cam_runs.specs.HaltedPlaying.{given_body, go, go_in_round, make_request, may_go_on}
use Rattle.cam_runs.specs.HaltedPlaying.{requested, round, rounds}
use Rattle.cam_runs.specs.Playing.{body_number, body_of, in_order}
use Rattle.cam_runs.specs.Requests.{asked_in}
use Rattle.cam_runs.specs.Running.{waiting_weight}
use Rattle.cam_runs.specs.Standing.{Setting, Standing, deliver, deliver_waiting, deliveries}
use Rattle.cam_runs.specs.Standing.{made, put, waiting}
use Rattle.cam_runs.proofs.Bodies.{AtWork, at_work, at_work_holds, body_passes}
use Rattle.cam_script.specs.declared.Script.{Script}
use Rattle.cam_script.specs.declared.Statement.{Statement}
use Rattle.cam_script.specs.Law.{IsScript}
use Rattle.cam_cluster.specs.BodiesAtNodes.{BodiesAreAtNodes}
use Rattle.cam_cluster.specs.VariableLines.{IsAtNode}
use Rattle.cam_cluster.proofs.Bindings.{IsAskedAt}
use Rattle.cam_cluster.proofs.BodyGoes.{after_bodies}
use Rattle.cam_cluster.proofs.ChildrenPlaced.{at_child, bodies_placed, child_placed}

-- one body more
one_more : (nodes : ℕ) (given : List (Name × ℕ)) (entry : Name × ℕ)
    → BodiesAreAtNodes nodes given → IsAtNode nodes entry.0
    → BodiesAreAtNodes nodes (given ++ entry ∷ [])
one_more nodes [] entry placed new = (new, tt)
one_more nodes (p ∷ given) entry placed new = (placed.0, one_more nodes given entry placed.1 new)

-- What stands has its bodies at nodes.
abbrev pub HasPlaced : ℕ → Standing → Type 0
HasPlaced nodes st = BodiesAreAtNodes nodes st.running.bodies

pub given_placed : (nodes : ℕ) (body : Option ℕ) (b : Option Name) (st : Standing)
    → HasPlaced nodes st
    → ((n : ℕ) → body ≡ Some n → (a : Name) → b ≡ Some a → IsAtNode nodes a)
    → HasPlaced nodes (given_body body b st)
given_placed nodes (Some n) (Some a) st placed new =
    one_more nodes st.running.bodies (a, n) placed (new n refl a refl)
given_placed nodes (Some n) None st placed new = placed
given_placed nodes None b st placed new = placed

-- an input gives no body
pub put_placed : (nodes : ℕ) (c : Setting) (st : Standing) (input : Input) → HasPlaced nodes st
    → HasPlaced nodes (put c st input)
put_placed nodes c st input placed =
    subst (BodiesAreAtNodes nodes)
    (sym (after_bodies c.line (c.restarted s) st s (c.reading.next st.running.trace input)
    (appends c.reading st.running.trace input)
    (c.halts st.turns s (appends c.reading st.running.trace input) (c.restarted s)))) placed
  where
    s : ℕ
    s = node_of st.running.trace input

pub delivery_placed : (nodes : ℕ) (c : Setting) (st : Standing) (k : ℕ) (letter : LetterId)
    → HasPlaced nodes st → HasPlaced nodes (deliver c st k letter)
delivery_placed nodes c st k letter placed = put_placed _ c st (Receives letter) placed

next_placed : (nodes : ℕ) (c : Setting) (st : Standing) (o : Option (ℕ × LetterId))
    → HasPlaced nodes st → HasPlaced nodes (deliver_waiting c st o)
next_placed nodes c st None placed = placed
next_placed nodes c st (Some w) placed = delivery_placed _ c st w.0 w.1 placed

pub deliveries_placed : (nodes : ℕ) (c : Setting) (n : ℕ) (st : Standing) → HasPlaced nodes st
    → HasPlaced nodes (deliveries c n st)
deliveries_placed nodes c zero st placed = placed
deliveries_placed nodes c (suc n) st placed =
    deliveries_placed nodes c n (deliver_waiting c st (waiting st)) (next_placed _ c st (waiting
    st) placed)

-- The requests of actions by their bodies, where a child that is asked for is at the node that the
-- request names.
module _ (script : Script) (is : IsScript script) (c : Setting)
    (asks : (st : Standing) (a : Name) (want : Want) (b : Name)
    → asked_in (made st (put c st (Requests (record { action = a; want = want })))) ≡ Some b
    → IsAskedAt want b) where
  abbrev Stays : Standing → Type 0
  Stays st = HasPlaced script.nodes st

  body_holds : (o : Option ℕ)
      → list_all (child_placed script.nodes)
      (unwrap_or (option_and_then (λ n. slice_get script.bodies n) o) []) ≡ true
  body_holds None = refl
  body_holds (Some n) =
      body_passes (λ body. list_all (child_placed script.nodes) body) script.bodies n
      (bodies_placed script.nodes script.objects 0 script.bodies is.bodies_hold) refl

  pub go_placed : (st : Standing) (a : Name) → Stays st → Stays (go c script.bodies st a)
  go_placed st a placed = by (next body seen) refl
    where
      seen : List ViewStep
      seen = view (plain_all st.running.trace) a

      body : List Statement
      body = body_of script.bodies st.running a

      child_at : (want : Want) → AtWork body seen want → (n : ℕ) → child_body body seen ≡ Some n
          → (b : Name) → asked_in (made st (requested c st a want)) ≡ Some b
          → IsAtNode script.nodes b
      child_at want work n gives b asked =
          at_child _ _ _ _ _ _ _ (at_work_holds _ _ seen want work (body_holds (body_number
          st.running.bodies a))) (sym (ap body_at work.at) ∙ gives) work.asks (asks st a want b
          asked)

      by : (n : Next) → next body seen ≡ n
          → Stays (make_request c st a (child_body body seen) n)
      by (nexts.Request want) e =
          given_placed script.nodes (child_body body seen)
          (asked_in (made st (requested c st a want))) (requested c st a want)
          (put_placed script.nodes c st (Requests (record { action = a; want = want })) placed)
          (child_at want (at_work body seen want e))
      by nexts.Wait e = placed
      by nexts.Over e = placed

  pub in_round_placed : (names : List Name) (st : Standing) → Stays st
      → Stays (go_in_round c script.bodies names st)
  in_round_placed [] st placed = placed
  in_round_placed (a ∷ names) st placed =
      in_round_placed names (if may_go_on c st a then go c script.bodies st a else st)
      (by (may_go_on c st a))
    where
      by : (b : Bool) → Stays (if b then go c script.bodies st a else st)
      by true = go_placed st a placed
      by false = placed

  pub round_placed : (st : Standing) → Stays st → Stays (round c script.bodies st)
  round_placed st placed =
      deliveries_placed script.nodes c
      (waiting_weight (go_in_round c script.bodies (in_order st.running.bodies) st).running)
      (go_in_round c script.bodies (in_order st.running.bodies) st)
      (in_round_placed (in_order st.running.bodies) st placed)

  pub rounds_placed : (n : ℕ) (st : Standing) → Stays st → Stays (rounds c script.bodies n st)
  rounds_placed zero st placed = placed
  rounds_placed (suc n) st placed =
      by (nat_lt (accepted st.turns) (accepted (round c script.bodies st).turns))
      (rounds_placed n (round c script.bodies st) (round_placed st placed))
    where
      by : (b : Bool) → Stays (rounds c script.bodies n (round c script.bodies st))
          → Stays (if b then rounds c script.bodies n (round c script.bodies st)
          else round c script.bodies st)
      by true more = more
      by false more = round_placed st placed
