-- An input that may come in a run may be put to its node, and the next event is the node's step.
use Rattle.std.proofs.Common.{◌≡◌, ℕ, true, List, Option, Some, None, is_some, refl, sym, ◌∙◌, subst}
use Rattle.std.specs.Option.{option_map_or}
use Rattle.cam_type.specs.declared.ObjectDecl.{ObjectDecl}
use Rattle.cam_event.specs.declared.LetterId.{LetterId}
use Rattle.cam_event.specs.declared.Event.{Event}
use Rattle.cam_event.specs.Inputs.{Input, Begins, Requests, Receives, Tells, Queries, Restarts, Mail, letter_at, node_of}
use Rattle.cam_event.specs.Loads.{Load}
use Rattle.cam_event.specs.ByDeltas.{received_of, load_by}
use Rattle.cam_event.specs.Runs.{MayCome}
use Rattle.cam_agree.proofs.Ran.{Ran, plain_ran}
use Rattle.cam_delta.proofs.SameReadings.{ran_refusals, ran_queries}
use Rattle.cam_delta.proofs.SameSteps.{ran_events}
use Rattle.cam_node.specs.Lawful.{IsLetter, HasLetter}
use Rattle.cam_histories.specs.Laws.{MayPut, InputsMayBePut, HaltedInputsMayBePut, StepsAreNodes, PutsMayCome, NodesMakeRuns}
use Rattle.cam_histories.proofs.Sent.{ran_letters_put}

letter_put : (objects : List ObjectDecl) (t : List Event) (letter : LetterId) → Ran objects t → is_some (letter_at t letter) ≡ true
    → HasLetter objects (node_of t (Receives letter)) (letter_at t letter) (load_by objects (received_of objects t) (Some letter) (letter_at t letter))
letter_put objects t letter run there = by (letter_at t letter) refl there
  where
    by : (o : Option Mail) → letter_at t letter ≡ o → is_some o ≡ true → HasLetter objects (option_map_or (λ (m : Mail). m.to) o 0) o (load_by objects (received_of objects t) (Some letter) o)
    by None at h = cc
    by (Some mail) at h =
        subst (λ (o : Option Mail). IsLetter objects mail.to mail (load_by objects (received_of objects t) (Some letter) o)) at (ran_letters_put objects t letter mail run at)

pub ran_inputs_put : (objects : List ObjectDecl) (t : List Event) (input : Input) → Ran objects t → MayCome objects t input → MayPut objects t input
ran_inputs_put objects t (Begins s) run may = (refl, (refl, refl))
ran_inputs_put objects t (Requests r) run may = (refl, ran_refusals objects t (node_of t (Requests r)) r.action r.want run ∙ may.0, may.1, (refl, refl))
ran_inputs_put objects t (Receives letter) run may = letter_put objects t letter run may
ran_inputs_put objects t (Tells s to) run may = (refl, may.1, may.2, (refl, refl))
ran_inputs_put objects t (Queries s f) run may = (refl, ran_queries objects t s f run ∙ may.1, (refl, refl))
ran_inputs_put objects t (Restarts s) run may = (refl, (refl, refl))

pub inputs_may_be_put : InputsMayBePut
inputs_may_be_put objects t input run may = ran_inputs_put objects t input (plain_ran objects t run) may

pub halted_inputs_may_be_put : HaltedInputsMayBePut
halted_inputs_may_be_put objects taken t input run may = ran_inputs_put objects t input (taken, run) may

pub steps_are_nodes : StepsAreNodes
steps_are_nodes objects taken t input run may = sym (ran_events objects t input (taken, run) may)

-- and back
letter_come : (objects : List ObjectDecl) (s : ℕ) (o : Option Mail) (load : Load) → HasLetter objects s o load → is_some o ≡ true
letter_come objects s None load has = absurd has
letter_come objects s (Some mail) load has = refl

pub puts_may_come : PutsMayCome
puts_may_come objects taken t (Begins s) run node may = node
puts_may_come objects taken t (Requests r) run node may = (sym (ran_refusals objects t (node_of t (Requests r)) r.action r.want (taken, run)) ∙ may.1, may.2)
puts_may_come objects taken t (Receives letter) run node may = letter_come objects (node_of t (Receives letter)) (letter_at t letter) (load_by objects (received_of objects t) (Some letter) (letter_at t letter)) may
puts_may_come objects taken t (Tells s to) run node may = (node, may.1, may.2)
puts_may_come objects taken t (Queries s f) run node may = (node, sym (ran_queries objects t s f (taken, run)) ∙ may.1)
puts_may_come objects taken t (Restarts s) run node may = node

pub nodes_make_runs : NodesMakeRuns
nodes_make_runs objects taken t input e run node may is =
    let come : MayCome objects t input = puts_may_come objects taken t input run node may in
    record { input = input; may = come; is_next = is ∙ ran_events objects t input (taken, run) come }
